-- Agreement and validity, from the invariant alone.
use Rattle.std.proofs.Common.{◌≡◌, ℕ, zero, suc, ◌<◌, Bool, true, not, List, sym, refl, ap, ◌∙◌, subst, arith}
use native.Mathlib.Decide.{dec_lt}
use Rattle.std.proofs.lemmas.Bool.{and_parts}
use Rattle.protocol.specs.declared.value.Value.{Value}
use Rattle.protocol.specs.declared.value.Value.TheVariants.{Hold, Release}
use Rattle.protocol.specs.declared.value.Values.{Values}
use Rattle.protocol.specs.declared.value.Values.TheVariants.{Only}
use Rattle.protocol.specs.declared.payload.Payload.TheVariants.{Est, Aux}
use Rattle.protocol.specs.Sets.{less}
use Rattle.protocol.specs.Values.{favoured}
use Rattle.protocol.specs.Rounds.{in_bin, new_estimate}
use Rattle.protocol.specs.Settings.{Setting, Fair, Correct}
use Rattle.protocol.specs.Histories.{State, Event, Proposed}
use Rattle.protocol.specs.Promise.{Agreement, Validity}
use Rattle.protocol.proofs.Closing.{Evidence, alone, mixed}
use Rattle.protocol.proofs.Invariant.{Closes, Entered, by_proposal, by_closing, Held, Invariant}
use Rattle.protocol.proofs.Telling.{decided_closes}

module _ (S : Setting) (F : Fair S) (h : List Event) (s : State) (I : Invariant S h s) where
  -- a believed set of senders of EST has a correct process, and that held the value
  pub held_believed :
      (i r : ℕ) (v : Value) → Correct S i → S.facts.believed ((s.processes i).noted r (Est v)) ≡ true → Held S h r v
  held_believed i r v ci b =
      let w = F.laws.outside ((s.processes i).noted r (Est v)) S.faulty F.tolerated b in
      let cw : Correct S w.0 = record { below = w.1; not_faulty = w.3 } in
      (I.own w.0 cw).est_held r v ((I.between w.0 i cw ci).notes r (Est v) w.2)

  -- so has an accepted one
  held_accepted : (i r : ℕ) (v : Value) → Correct S i → in_bin S.facts (s.processes i) r v ≡ true → Held S h r v
  held_accepted i r v ci b =
      let a = (s.processes i).noted r (Est v) in
      held_believed i r v ci
      (F.laws.growth.0 (less a S.faulty) a (λ j l e. (and_parts (a j) (not (S.faulty j)) e).0)
      (F.laws.remains a S.faulty F.tolerated b))

  -- two closing sets of senders of one value had the same value
  same_alone :
      (i j r : ℕ) (v w : Value) → Correct S i → Correct S j
      → S.facts.closing ((s.processes i).noted r (Aux (Only v))) ≡ true
      → S.facts.closing ((s.processes j).noted r (Aux (Only w))) ≡ true → w ≡ v
  same_alone i j r v w ci cj a b =
      let m =
      F.laws.shared ((s.processes i).noted r (Aux (Only v))) ((s.processes j).noted r (Aux (Only w))) S.faulty
      F.tolerated a b in
      let cm : Correct S m.0 = record { below = m.1; not_faulty = m.4 } in
      let e : Only w ≡ Only v =
      (I.own m.0 cm).aux_once r (Only w) (Only v) ((I.between m.0 j cm cj).notes r (Aux (Only w)) m.3)
      ((I.between m.0 i cm ci).notes r (Aux (Only v)) m.2) in
      cc

  -- where i decided in round r, whoever closes r leaves it with the value that the round favours
  leaves_with :
      (i j r : ℕ) (u c : Values) (d : Bool) → Correct S i → Correct S j → Closes h i r u true → Closes h j r c d
      → new_estimate r c ≡ favoured r
  leaves_with i j r u c d ci cj a b =
      go c (subst (Evidence S.facts (s.processes i) r) ((I.own i ci).favours r u a) ((I.own i ci).evidence r u true a))
      ((I.own j cj).evidence r c d b)
    where
      go : (c : Values) → Evidence S.facts (s.processes i) r (Only (favoured r)) → Evidence S.facts (s.processes j) r c
          → new_estimate r c ≡ favoured r
      go c (alone v x y) (alone w x' y') = same_alone i j r v w ci cj y y'
      go c p (mixed x y z) = refl

  -- a closed round leaves an estimate that a correct process held in it
  left_held : (j r : ℕ) (c : Values) (d : Bool) → Correct S j → Closes h j r c d → Held S h r (new_estimate r c)
  left_held j r c d cj b = go c ((I.own j cj).evidence r c d b)
    where
      go : (c : Values) → Evidence S.facts (s.processes j) r c → Held S h r (new_estimate r c)
      go c (alone v x y) = held_accepted j r v cj x
      go c (mixed x y z) = pick (favoured r)
        where
          pick : (v : Value) → Held S h r v
          pick Hold = held_accepted j r Hold cj x
          pick Release = held_accepted j r Release cj y

  -- once i decided in round r, every later round is entered with the value that r favours
  locked :
      (i r : ℕ) (u : Values) → Correct S i → Closes h i r u true → (k : ℕ) → r < k → (j : ℕ) (w : Value) → Correct S j
      → Entered h j k w → w ≡ favoured r
  locked i r u ci a zero l j w cj o = absurd (omega arith)
  locked i r u ci a (suc k) l j w cj (by_proposal e p) =
      let t = (I.own i ci).closed_before r u true a in absurd (omega arith)
  locked i r u ci a (suc k) l j w cj (by_closing q c d e n b) =
      go (dec_lt r k) (λ m. locked i r u ci a k m earlier.who (new_estimate k c) earlier.correct earlier.entered)
    where
      q_is : q ≡ k
      q_is = omega arith

      b' : Closes h j k c d
      b' = subst (λ (t : ℕ). Closes h j t c d) q_is b

      n' : w ≡ new_estimate k c
      n' = n ∙ ap (λ (t : ℕ). new_estimate t c) q_is

      earlier : Held S h k (new_estimate k c)
      earlier = left_held j k c d cj b'

      go : Dec (r < k) → (r < k → new_estimate k c ≡ favoured r) → w ≡ favoured r
      go (yes m) ih = n' ∙ ih m
      go (no m) ih =
          let r_is : r ≡ k = omega arith in
          n'
          ∙ (leaves_with i j k u c d ci cj (subst (λ (t : ℕ). Closes h i t u true) r_is a) b'
          ∙ ap favoured (sym r_is))

  -- what was decided is what the round favours
  decided_favoured : (i r : ℕ) (v : Value) → Correct S i → Closes h i r (Only v) true → v ≡ favoured r
  decided_favoured i r v ci a = let e = (I.own i ci).favours r (Only v) a in cc

  same_decision :
      (i j r q : ℕ) (v w : Value) → Correct S i → Correct S j → Closes h i r (Only v) true → Closes h j q (Only w) true → v ≡ w
  same_decision i j r q v w ci cj a b = go (dec_lt r q) (dec_lt q r)
    where
      ev : v ≡ favoured r
      ev = decided_favoured i r v ci a

      ew : w ≡ favoured q
      ew = decided_favoured j q w cj b

      hv : Held S h r v
      hv = left_held i r (Only v) true ci a

      hw : Held S h q w
      hw = left_held j q (Only w) true cj b

      go : Dec (r < q) → Dec (q < r) → v ≡ w
      go (yes l) k = ev ∙ sym (locked i r (Only v) ci a q l hw.who w hw.correct hw.entered)
      go (no l) (yes k) = locked j q (Only w) cj b r k hv.who v hv.correct hv.entered ∙ sym ew
      go (no l) (no k) = let e : r ≡ q = omega arith in ev ∙ (ap favoured e ∙ sym ew)

  pub agreement : Agreement S h
  agreement i j v w ci cj a b =
      let p = decided_closes h i v a in
      let q = decided_closes h j w b in
      same_decision i j p.0 q.0 v w ci cj p.1 q.1

  -- what a correct process held, a correct process proposed
  from_proposal : (r : ℕ) (v : Value) (j : ℕ) → Correct S j → Entered h j r v → (j : ℕ) × Correct S j × Proposed h j v
  from_proposal r v j cj (by_proposal e p) = (j, cj, p)
  from_proposal zero v j cj (by_closing q c d e n b) = absurd (omega arith)
  from_proposal (suc r) v j cj (by_closing q c d e n b) =
      let m = left_held j q c d cj b in
      let q_is : q ≡ r = omega arith in
      from_proposal r v m.who m.correct
      (subst (λ (t : ℕ). Entered h m.who t v) q_is (subst (λ (u : Value). Entered h m.who q u) (sym n) m.entered))

  pub validity : Validity S h
  validity i v ci a =
      let p = decided_closes h i v a in
      let m = left_held i p.0 (Only v) true ci p.1 in
      from_proposal p.0 v m.who m.correct m.entered
