-- The sets that marks stand for.
use Rattle.std.proofs.Common.{◌≡◌, ℕ, zero, suc, ◌^◌, ◌<◌, ◌≤◌, Bool, false, ◌||◌, List, [], ◌∷◌, length, get_or, sym, refl, ap, ◌∙◌, inl, inr, arith, pow_mono}
use native.Mathlib.Nat.{div-eq_of_lt}
use Rattle.std.proofs.lemmas.List.{ext_get_or, get_or_past}
use Rattle.std.proofs.lemmas.Bool.{cases_lt}
use Rattle.protocol.specs.Sets.{Set, either, bits}
use Rattle.franchise.specs.Marks.{either_mark}

-- no bit of a number below 2 to the power 16 is set from 16 on
bits_end : (b j : ℕ) → b < 2 ^ 16 → 16 ≤ j → bits b j ≡ false
bits_end b j h l =
    let p = pow_mono l in
    let z : b < 2 ^ j = omega arith in
    rw (div-eq_of_lt z)

-- sixteen marks that are the bits of a number are the set that it is
pub bits_marks : (b : ℕ) (xs : List Bool) → b < 2 ^ 16 → length xs ≡ 16 → ((k : ℕ) → k < 16 → get_or xs k false ≡ bits b k) → ◌≡◌ {A = Set} (λ j. get_or xs j false) (bits b)
bits_marks b xs small len h = λ i j. each j i where
  each : (j : ℕ) → get_or xs j false ≡ bits b j
  each j =
      elim (cases_lt j 16) [
        | inl l ↦ h j l
        | inr l ↦ get_or_past xs j false (omega arith) ∙ sym (bits_end b j small l)
      ]

either_length : (xs ys : List Bool) → length xs ≡ length ys → length (either_mark xs ys) ≡ length xs
either_length [] ys e = refl
either_length (x ∷ xs) [] e = absurd (omega (arith, e))
either_length (x ∷ xs) (y ∷ ys) e = ap suc (either_length xs ys (omega (arith, e)))

either_getD : (xs ys : List Bool) (i : ℕ) → length xs ≡ length ys → get_or (either_mark xs ys) i false ≡ (get_or xs i false || get_or ys i false)
either_getD [] [] i e = refl
either_getD [] (y ∷ ys) i e = absurd (omega (arith, e))
either_getD (x ∷ xs) [] i e = absurd (omega (arith, e))
either_getD (x ∷ xs) (y ∷ ys) zero e = refl
either_getD (x ∷ xs) (y ∷ ys) (suc i) e = either_getD xs ys i (omega (arith, e))

-- a list that has the marks of two others
module _
    (xs ys zs : List Bool)
    (e : length xs ≡ length ys)
    (f : length zs ≡ length xs)
    (h : (i : ℕ) → i < length zs → get_or zs i false ≡ (get_or xs i false || get_or ys i false)) where
  pub either_list : zs ≡ either_mark xs ys
  either_list =
      ext_get_or false zs (either_mark xs ys) (f ∙ sym (either_length xs ys e)) (λ i l. h i l ∙ sym (either_getD xs ys i e))

  pub either_set : ◌≡◌ {A = Set} (λ j. get_or zs j false) (either (λ j. get_or xs j false) (λ j. get_or ys j false))
  either_set = λ i j. each j i where
    each : (j : ℕ) → get_or zs j false ≡ (get_or xs j false || get_or ys j false)
    each j = ap (λ m. get_or m j false) either_list ∙ either_getD xs ys j e
