-- No deadlock, from the invariant alone.
use Rattle.std.proofs.Common.{◌≡◌, ℕ, zero, suc, ◌<◌, ◌≤◌, Bool, true, false, not, ◌⊎◌, List, None, sym, refl, subst, inl, inr, arith}
use native.Mathlib.Decide.{dec_lt, ℕ_discrete}
use Rattle.std.proofs.lemmas.Bool.{and_parts, and_from, not-true, both_ways, cases_Bool}
use Rattle.protocol.specs.declared.value.Value.{Value}
use Rattle.protocol.specs.declared.value.Value.TheVariants.{Hold, Release}
use Rattle.protocol.specs.declared.value.Values.{Values}
use Rattle.protocol.specs.declared.value.Values.TheVariants.{Only, Both}
use Rattle.protocol.specs.declared.payload.Payload.{Payload}
use Rattle.protocol.specs.declared.payload.Payload.TheVariants.{Est, Aux}
use Rattle.protocol.specs.Sets.{Set, less, all_less}
use Rattle.protocol.specs.Values.{has}
use Rattle.protocol.specs.Messages.{code, message}
use Rattle.protocol.specs.Processes.{Process, any_aux}
use Rattle.protocol.specs.Rounds.{in_bin, values}
use Rattle.protocol.specs.Steps.{aux_sent}
use Rattle.protocol.specs.Settings.{Setting, Fair, Correct}
use Rattle.protocol.specs.Histories.{State, Event}
use Rattle.protocol.specs.Promise.{NoMessageWaits}
use Rattle.protocol.proofs.Closing.{none_single, none_double, bin_some}
use Rattle.protocol.proofs.Codes.{code_below, writable}
use Rattle.protocol.proofs.Contents.{any_by, any_which}
use Rattle.protocol.proofs.Due.{Rests}
use Rattle.protocol.proofs.Invariant.{Round, Invariant}

-- AUX that was sent has a content
pub sent_content : (x : Process) (r : ℕ) → aux_sent x r ≡ true → (c : Values) × (x.sent r (Aux c) ≡ true)
unfolding aux_sent
sent_content x r = any_which (λ c. x.sent r (Aux c))

-- a set that lacks a value is the other one alone
lone : (c : Values) (v w : Value) → has c w ≡ false → has (Only v) w ≡ false → c ≡ Only v
lone (Only Hold) Hold w e f = refl
lone (Only Release) Release w e f = refl
lone (Only Hold) Release Hold e f = absurd (both_ways true e refl)
lone (Only Hold) Release Release e f = absurd (both_ways true f refl)
lone (Only Release) Hold Hold e f = absurd (both_ways true f refl)
lone (Only Release) Hold Release e f = absurd (both_ways true e refl)
lone Both v w e f = absurd (both_ways true e refl)

module _ (S : Setting) (F : Fair S) (h : List Event) (s : State) (I : Invariant S h s) (quiet : NoMessageWaits s)
    (rest : (j : ℕ) → Correct S j → Rests S.facts S.rounds (s.processes j)) where
  correct_by : (i : ℕ) → i < S.facts.n → not (S.faulty i) ≡ true → Correct S i
  correct_by i l e = record { below = l; not_faulty = not-true (S.faulty i) e }

  -- what a correct process sent, all correct processes have noted
  heard :
      (i j r : ℕ) (p : Payload) → Correct S i → Correct S j → (s.processes i).sent r p ≡ true → (s.processes j).noted r p i ≡ true
  heard i j r p ci cj e = go ((I.between i j ci cj).comes r p e)
    where
      small : code (message i j r p) < 32768
      small =
          let t = (I.own i ci).in_rounds r p e in
          let a = F.in_range.few_processes in let b = F.in_range.few_rounds in
          let li = ci.below in let lj = cj.below in let u = t.last in
          code_below (message i j r p) (writable i j r p (omega arith) (omega arith) t.first (omega arith))

      go : (1 ≤ s.wire.copies (code (message i j r p))) ⊎ ((s.processes j).noted r p i ≡ true) → (s.processes j).noted r p i ≡ true
      go (inl w) = let q = quiet (code (message i j r p)) small in absurd (omega arith)
      go (inr n) = n

  -- what a believed set of correct processes sent, all correct processes accept
  spreads :
      (r : ℕ) (v : Value) → Round S r → (a : Set) → S.facts.believed a ≡ true
      → ((i : ℕ) → i < S.facts.n → a i ≡ true → Correct S i × ((s.processes i).sent r (Est v) ≡ true))
      → (d : ℕ) → Correct S d → in_bin S.facts (s.processes d) r v ≡ true
  spreads r v R a b sent d cd =
      F.laws.growth.1 (all_less S.faulty) ((s.processes d).noted r (Est v))
      (λ i l e. let ci = correct_by i l e in heard i d r (Est v) ci cd (all i ci)) (F.laws.others S.faulty F.tolerated).0
    where
      all : (i : ℕ) → Correct S i → (s.processes i).sent r (Est v) ≡ true
      all i ci =
          (rest i ci).echoed r R.first R.last v
          (F.laws.growth.0 a ((s.processes i).noted r (Est v))
          (λ j l e. let c = sent j l e in heard j i r (Est v) c.0 ci c.1) b)

  -- the bins of a round are the same at all correct processes
  same_bins :
      (r : ℕ) (v : Value) → Round S r → (j d : ℕ) → Correct S j → Correct S d → in_bin S.facts (s.processes j) r v ≡ true
      → in_bin S.facts (s.processes d) r v ≡ true
  same_bins r v R j d cj cd e =
      spreads r v R (less ((s.processes j).noted r (Est v)) S.faulty)
      (F.laws.remains ((s.processes j).noted r (Est v)) S.faulty F.tolerated e) from d cd
    where
      from : (i : ℕ) → i < S.facts.n → less ((s.processes j).noted r (Est v)) S.faulty i ≡ true
          → Correct S i × ((s.processes i).sent r (Est v) ≡ true)
      from i l t =
          let u = and_parts ((s.processes j).noted r (Est v) i) (not (S.faulty i)) t in
          let ci = correct_by i l u.1 in
          (ci, (I.between i j ci cj).notes r (Est v) u.0)

  -- in a round that every correct process has reached
  module _ (r : ℕ) (R : Round S r) (reached : (j : ℕ) → Correct S j → r ≤ (s.processes j).round) where
    -- each has sent an EST
    sent_est : (j : ℕ) → Correct S j → (v : Value) × ((s.processes j).sent r (Est v) ≡ true)
    sent_est j cj = go (dec_lt r (s.processes j).round)
      where
        go : Dec (r < (s.processes j).round) → (v : Value) × ((s.processes j).sent r (Est v) ≡ true)
        go (yes l) = (I.own j cj).passed_est r R.first l
        go (no l) =
            let a = R.first in let b = R.last in let m = reached j cj in
            let e : (s.processes j).round ≡ r = omega arith in
            let t = (I.own j cj).entered (omega arith) in (
              t.0,
              subst (λ (u : ℕ). (s.processes j).sent u (Est t.0) ≡ true) e ((rest j cj).est_done (omega arith) t.0 t.1),
            )

    release_else : (j : ℕ) → Correct S j → (s.processes j).sent r (Est Hold) ≡ false → (s.processes j).sent r (Est Release) ≡ true
    release_else j cj e = let t = sent_est j cj in go t.0 t.1
      where
        go : (v : Value) → (s.processes j).sent r (Est v) ≡ true → (s.processes j).sent r (Est Release) ≡ true
        go Hold k = absurd (both_ways ((s.processes j).sent r (Est Hold)) e k)
        go Release k = k

    -- so one value is in the bins of all
    common : (v : Value) × ((d : ℕ) → Correct S d → in_bin S.facts (s.processes d) r v ≡ true)
    common = go (F.laws.halves held S.faulty F.tolerated)
      where
        held : Set
        held i = (s.processes i).sent r (Est Hold)

        with_hold : (i : ℕ) → i < S.facts.n → less held S.faulty i ≡ true → Correct S i × ((s.processes i).sent r (Est Hold) ≡ true)
        with_hold i l t = let u = and_parts (held i) (not (S.faulty i)) t in (correct_by i l u.1, u.0)

        with_release :
            (i : ℕ) → i < S.facts.n → less (all_less held) S.faulty i ≡ true
            → Correct S i × ((s.processes i).sent r (Est Release) ≡ true)
        with_release i l t =
            let u = and_parts (not (held i)) (not (S.faulty i)) t in
            let ci = correct_by i l u.1 in
            (ci, release_else i ci (not-true (held i) u.0))

        go : (S.facts.believed (less held S.faulty) ≡ true) ⊎ (S.facts.believed (less (all_less held) S.faulty) ≡ true)
            → (v : Value) × ((d : ℕ) → Correct S d → in_bin S.facts (s.processes d) r v ≡ true)
        go (inl b) = (Hold, spreads r Hold R (less held S.faulty) b with_hold)
        go (inr b) = (Release, spreads r Release R (less (all_less held) S.faulty) b with_release)

    -- each has sent an AUX
    sent_aux : (j : ℕ) → Correct S j → (c : Values) × ((s.processes j).sent r (Aux c) ≡ true)
    sent_aux j cj = go (dec_lt r (s.processes j).round)
      where
        go : Dec (r < (s.processes j).round) → (c : Values) × ((s.processes j).sent r (Aux c) ≡ true)
        go (yes l) = (I.own j cj).passed_aux r R.first l
        go (no l) =
            let b = R.last in let m = reached j cj in
            let e : (s.processes j).round ≡ r = omega arith in
            let x = s.processes j in
            let c =
            bin_some S.facts x x.round common.0
            (subst (λ (u : ℕ). in_bin S.facts x u common.0 ≡ true) (sym e) (common.1 j cj)) in
            subst (λ (u : ℕ). (c : Values) × (x.sent u (Aux c) ≡ true)) e
            (sent_content x x.round ((rest j cj).aux_done (omega arith) c.0 c.1))

    -- so a correct process that is in it can close it
    closes : (m : ℕ) → Correct S m → (s.processes m).round ≡ r → ⊥
    closes m cm e = go (cases_Bool (in_bin S.facts x r Hold)) (cases_Bool (in_bin S.facts x r Release))
      where
        x : Process
        x = s.processes m

        nothing : values S.facts (s.processes m) r ≡ None
        nothing =
            let b = R.last in
            subst (λ (u : ℕ). values S.facts (s.processes m) u ≡ None) e ((rest m cm).no_values (omega arith))

        -- if the bin lacks w, all correct processes sent AUX {v}
        only : (v w : Value) → has (Only v) w ≡ false → in_bin S.facts (s.processes m) r v ≡ true
            → in_bin S.facts (s.processes m) r w ≡ false → ⊥
        only v w ne a b =
            none_single S.facts (s.processes m) r v nothing
            (and_from (in_bin S.facts (s.processes m) r v) (S.facts.closing ((s.processes m).noted r (Aux (Only v)))) a
            (F.laws.growth.2 (all_less S.faulty) ((s.processes m).noted r (Aux (Only v))) noted
            (F.laws.others S.faulty F.tolerated).1))
          where
            lacks : (j : ℕ) → Correct S j → (c : Values) → (s.processes j).sent r (Aux c) ≡ true → (t : Bool) → has c w ≡ t → t ≡ false
            lacks j cj c k false q = refl
            lacks j cj c k true q =
                absurd
                (both_ways (in_bin S.facts (s.processes m) r w) b
                (same_bins r w R j m cj cm ((I.own j cj).aux_in_bin r c w k q)))

            noted : (j : ℕ) → j < S.facts.n → not (S.faulty j) ≡ true → (s.processes m).noted r (Aux (Only v)) j ≡ true
            noted j l t =
                let cj = correct_by j l t in
                let c = sent_aux j cj in
                let q = lone c.0 v w (lacks j cj c.0 c.1 (has c.0 w) refl) ne in
                subst (λ (u : Values). (s.processes m).noted r (Aux u) j ≡ true) q (heard j m r (Aux c.0) cj cm c.1)

        any : (j : ℕ) → j < S.facts.n → not (S.faulty j) ≡ true → any_aux (s.processes m) r j ≡ true
        any j l t =
            let cj = correct_by j l t in
            let c = sent_aux j cj in
            any_by (λ u. (s.processes m).noted r (Aux u) j) c.0 (heard j m r (Aux c.0) cj cm c.1)

        both : in_bin S.facts (s.processes m) r Hold ≡ true → in_bin S.facts (s.processes m) r Release ≡ true → ⊥
        both a b =
            none_double S.facts (s.processes m) r nothing
            (and_from (in_bin S.facts (s.processes m) r Hold) _ a
            (and_from (in_bin S.facts (s.processes m) r Release) (S.facts.closing (any_aux (s.processes m) r)) b
            (F.laws.growth.2 (all_less S.faulty) (any_aux (s.processes m) r) any
            (F.laws.others S.faulty F.tolerated).1)))

        neither : (v : Value) → in_bin S.facts (s.processes m) r v ≡ true → in_bin S.facts (s.processes m) r Hold ≡ false
            → in_bin S.facts (s.processes m) r Release ≡ false → ⊥
        neither Hold k a b = both_ways (in_bin S.facts (s.processes m) r Hold) a k
        neither Release k a b = both_ways (in_bin S.facts (s.processes m) r Release) b k

        go : (in_bin S.facts x r Hold ≡ true) ⊎ (in_bin S.facts x r Hold ≡ false)
            → (in_bin S.facts x r Release ≡ true) ⊎ (in_bin S.facts x r Release ≡ false) → ⊥
        go (inl a) (inl b) = both a b
        go (inl a) (inr b) = only Hold Release refl a b
        go (inr a) (inl b) = only Release Hold refl b a
        go (inr a) (inr b) = neither common.0 (common.1 m cm) a b

  -- so every correct process that has begun is past every round
  past :
      ((j : ℕ) → Correct S j → 1 ≤ (s.processes j).round) → (r : ℕ) → r ≤ S.rounds → (j : ℕ) → Correct S j
      → r < (s.processes j).round
  past begun zero m j cj = begun j cj
  past begun (suc r) m j cj = go (ℕ_discrete (s.processes j).round (suc r)) (past begun r (omega arith))
    where
      go : Dec ((s.processes j).round ≡ suc r) → ((i : ℕ) → Correct S i → r < (s.processes i).round) → suc r < (s.processes j).round
      go (yes e) below = absurd (closes (suc r) (record { first = omega arith; last = m }) below j cj e)
      go (no e) below = let b = below j cj in omega arith

  pub all_past :
      ((j : ℕ) → Correct S j → 1 ≤ (s.processes j).round) → (j : ℕ) → Correct S j → S.rounds < (s.processes j).round
  all_past begun = past begun S.rounds (omega arith)
