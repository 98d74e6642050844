-- What a caller learns from a send and a take, over any kind of wire.
use Rattle.std.proofs.Common.{◌≡◌, ℕ, ◌<◌, ◌≤◌, cond, eqb, Ok, Err, Result, refl, ap, ◌∙◌, arith}
use Rattle.protocol.specs.Refusals.{answer, granted, leaves, changed, told}
use Rattle.protocol.specs.Wires.{Wire, waiting, free}
use Rattle.wire.specs.declared.fault.WireFault.{WireFault}
use Rattle.wire.specs.declared.fault.WireFault.TheVariants.{Code, Full, Empty}
use Rattle.wire.specs.Refused.{send_questions, take_questions, refusal_of}
use Rattle.wire.proofs.Asking.{may_send, full, may_take, empty}

-- a fault is known by its number
fault_with : ℕ → WireFault
fault_with n = cond (eqb n 19) Code (cond (eqb n 9) Full Empty)

fault_back : (f : WireFault) → f ≡ fault_with (refusal_of f).number
unfolding fault_with
fault_back Code = refl
fault_back Full = refl
fault_back Empty = refl

-- so an answer of a wire is known by its meaning
told_ok : {A : Type 0} (r : Result A WireFault) (x : A) → told (λ u. u) refusal_of r ≡ Ok x → r ≡ Ok x
told_ok (Ok u) x e = cc
told_ok (Err f) x e = grind arith

told_err : {A : Type 0} (r : Result A WireFault) (f : WireFault) → told (λ u. u) refusal_of r ≡ Err (refusal_of f) → r ≡ Err f
told_err (Ok u) f e = grind arith
told_err (Err g) f e = let a = fault_back g in let b = fault_back f in grind arith

module _ {W : Type 0} (K : Wire W) (w t : W) where
  -- a send that left t
  module _
      (x : ℕ) (r : Result (Unit {0}) WireFault) (low : x < 32768)
      (answers : told (λ u. u) refusal_of r ≡ answer (send_questions x (free K w)) tt)
      (after : t ≡ leaves (send_questions x (free K w)) w (K.send x w)) where
    pub sent : 1 ≤ free K w → (r ≡ Ok tt) × (t ≡ K.send x w)
    sent l =
        let yes = may_send x (free K w) low l in
        (told_ok r tt (answers ∙ ap (granted tt) yes), after ∙ ap (changed w (K.send x w)) yes)

    pub not_sent : free K w < 1 → (r ≡ Err Full) × (t ≡ w)
    not_sent l =
        let no = full x (free K w) low l in
        (told_err r Full (answers ∙ ap (granted tt) no), after ∙ ap (changed w (K.send x w)) no)

  -- a take that left t
  module _
      (k : ℕ) (r : Result ℕ WireFault)
      (answers : told (λ u. u) refusal_of r ≡ answer (take_questions (waiting (K.copies w))) (K.pick w k))
      (after : t ≡ leaves (take_questions (waiting (K.copies w))) w (K.rest w k)) where
    pub taken : 1 ≤ waiting (K.copies w) → (r ≡ Ok (K.pick w k)) × (t ≡ K.rest w k)
    taken l =
        let yes = may_take (waiting (K.copies w)) l in
        (told_ok r (K.pick w k) (answers ∙ ap (granted (K.pick w k)) yes), after ∙ ap (changed w (K.rest w k)) yes)

    pub not_taken : waiting (K.copies w) < 1 → (r ≡ Err Empty) × (t ≡ w)
    not_taken l =
        let no = empty (waiting (K.copies w)) l in
        (told_err r Empty (answers ∙ ap (granted (K.pick w k)) no), after ∙ ap (changed w (K.rest w k)) no)
