-- The theorem: every history from a beginning keeps the promise.
use Rattle.std.proofs.Common.{◌≡◌, ℕ, false, List, [], sym, refl, ap, ◌∙◌, subst, arith}
use Rattle.std.proofs.lemmas.Bool.{both_ways}
use Rattle.protocol.specs.declared.outcome.Outcome.TheVariants.{Idle}
use Rattle.protocol.specs.Refusals.{first_no}
use Rattle.protocol.specs.Messages.{code, message}
use Rattle.protocol.specs.Processes.{Process, blank}
use Rattle.protocol.specs.Steps.{outcome}
use Rattle.protocol.specs.Wires.{pool}
use Rattle.protocol.specs.Settings.{Setting, Fair}
use Rattle.protocol.specs.Calls.{did, step}
use Rattle.protocol.specs.Play.{outcome_of, questions}
use Rattle.protocol.specs.Histories.{State, Event, Beginning, Leads, begins, goes}
use Rattle.protocol.specs.Promise.{WouldIdle, NoDeadlock, CorrectProcessesNeverPart}
use Rattle.protocol.proofs.Agreement.{agreement, validity}
use Rattle.protocol.proofs.Asking.{granted_none}
use Rattle.protocol.proofs.Codes.{code_below}
use Rattle.protocol.proofs.Due.{Due, Rests, due, rests_of}
use Rattle.protocol.proofs.Invariant.{Own, Invariant}
use Rattle.protocol.proofs.Kept.{kept}
use Rattle.protocol.proofs.Progress.{all_past}
use Rattle.protocol.proofs.Telling.{closes_closed}
use Rattle.protocol.proofs.TwoProcesses.{writable_in}

-- a blank process, before anything happened
own_blank : (S : Setting) (i : ℕ) → Own S [] i blank
own_blank S i = record {
  entered = λ l. absurd (omega arith);
  started = λ v p. absurd p;
  closed_before = λ r c d p. absurd p;
  closed_all = λ r l m. absurd (omega arith);
  evidence = λ r c d p. absurd p;
  favours = λ r c p. absurd p;
  in_rounds = λ r p k. absurd (both_ways false refl k);
  est_held = λ r v k. absurd (both_ways false refl k);
  aux_once = λ r c d k m. absurd (both_ways false refl k);
  aux_in_bin = λ r c v k m. absurd (both_ways false refl k);
  passed_est = λ r l m. absurd (omega arith);
  passed_aux = λ r l m. absurd (omega arith);
}

beginning : (S : Setting) → Fair S → (s : State) → Beginning S s → Invariant S [] s
beginning S F s B = record {
  own = λ i ci. subst (Own S [] i) (sym (B.blank_processes i ci.below)) (own_blank S i);
  between = λ i j ci cj. record {
    waits = λ r p R w.
        let e =
        B.empty_wire (code (message i j r p))
        (code_below (message i j r p) (writable_in S F.in_range i j r p ci.below cj.below R)) in
        absurd (omega arith);
    notes = λ r p n. absurd (both_ways false refl (ap (λ (x : Process). x.noted r p i) (sym (B.blank_processes j cj.below)) ∙ n));
    comes = λ r p e. absurd (both_ways false refl (ap (λ (x : Process). x.sent r p) (sym (B.blank_processes i ci.below)) ∙ e));
  };
}

-- every history keeps the invariant
pub always :
    (S : Setting) → Fair S → (from : State) → Beginning S from → (h : List Event) (s : State) → Leads S from h s → Invariant S h s
always S F from b h s begins = beginning S F from b
always S F from b h s (goes {h = g} {s = r} {c = c} {a = a} l d) = kept S F g r c a s (always S F from b g r l) d

-- a process whose step would answer idle has nothing left to do
idle_rests : (S : Setting) (s : State) (i : ℕ) → WouldIdle S s i → Rests S.facts S.rounds (s.processes i)
idle_rests S s i w =
    let x = w.1.taken in
    let t =
    granted_none (first_no (questions (pool x) S s (step i))) (did (outcome_of S s.processes i)) (did Idle) w.1.answers in
    let e = t.1 in
    let o : outcome S.facts S.rounds (s.processes i) ≡ Idle = cc in
    rests_of S.facts S.rounds (s.processes i)
    (subst (Due S.facts S.rounds (s.processes i)) o (due S.facts S.rounds (s.processes i)))

no_deadlock : (S : Setting) → Fair S → (h : List Event) (s : State) → Invariant S h s → NoDeadlock S h s
no_deadlock S F h s I proposed quiet idle i ci =
    let over =
    all_past S F h s I quiet (λ j cj. idle_rests S s j (idle j cj))
    (λ j cj. let t = proposed j cj in (I.own j cj).started t.0 t.1) i ci in
    let t = (I.own i ci).closed_all S.rounds F.in_range.some_rounds over in
    closes_closed h i S.rounds t.0 t.1 t.2

pub never_part : CorrectProcessesNeverPart
never_part S F from b h s l =
    let I = always S F from b h s l in
    record { agreement = agreement S F h s I; validity = validity S F h s I; no_deadlock = no_deadlock S F h s I }
