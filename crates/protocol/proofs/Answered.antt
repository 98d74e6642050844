-- Every call has an answer, wherever a run stands, and it is refused just by its first no.
use Rattle.std.proofs.Common.{◌≡◌, ℕ, ◌≤◌, Some, Err, Option, sym, refl, ap, ◌∙◌}
use native.Mathlib.Decide.{dec_le}
use Rattle.protocol.specs.declared.refusal.Refusal.{Refusal}
use Rattle.protocol.specs.Refusals.{first_no, granted, changed}
use Rattle.protocol.specs.Wires.{Pool, pool, waiting}
use Rattle.protocol.specs.Play.{questions, reply, change, call_answer, call_leaves}
use Rattle.protocol.specs.Histories.{MayTake}
use Rattle.protocol.specs.Companions.{EveryCallAnswered, RefusalsExact}
use Rattle.protocol.proofs.Asking.{refused_some}
use Rattle.protocol.proofs.Copies.{waiting_some}

-- some code may be taken
pub takeable : (w : Pool) → (x : ℕ) × MayTake w x
takeable w = go (dec_le 1 (waiting w.copies))
  where
    go : Dec (1 ≤ waiting w.copies) → (x : ℕ) × MayTake w x
    go (yes l) = let t = waiting_some w.copies 32768 l in (t.0, λ _. (t.1, t.2))
    go (no l) = (0, λ k. absurd (l k))

pub answered : EveryCallAnswered
answered S s c =
    let t = takeable s.wire in
    (call_answer (pool t.0) S s c, call_leaves (pool t.0) S s c, record { taken = t.0; waits = t.1; answers = refl; leaves = refl })

pub refusals_exact : RefusalsExact
refusals_exact S s c a t D q = (there, back)
  where
    after : (o : Option Refusal) → first_no (questions (pool D.taken) S s c) ≡ o → t ≡ changed s (change (pool D.taken) S s c) o
    after o e = D.leaves ∙ ap (changed s (change (pool D.taken) S s c)) e

    there : a ≡ Err q → (first_no (questions (pool 0) S s c) ≡ Some q) × (t ≡ s)
    there e =
        let f = refused_some (first_no (questions (pool D.taken) S s c)) (reply (pool D.taken) S s c) q (sym e ∙ D.answers) in
        (f, after (Some q) f)

    back : first_no (questions (pool 0) S s c) ≡ Some q → (a ≡ Err q) × (t ≡ s)
    back f = (D.answers ∙ ap (granted (reply (pool D.taken) S s c)) f, after (Some q) f)
