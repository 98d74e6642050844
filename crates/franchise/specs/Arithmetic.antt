-- The votes of sets. Every lemma is of any votes w.
use Rattle.std.proofs.Common.{◌≡◌, ℕ, zero, suc, ◌+◌, ◌<◌, ◌≤◌, Bool, true, false, cond, ◌&&◌, ◌⊎◌, refl, inl, inr, add-one, arith}
use Rattle.std.proofs.lemmas.Bool.{cond-true, cond-false}
use Rattle.protocol.specs.Sets.{Set, empty}
use Rattle.franchise.specs.Weights.{weight, whole, one_each}

-- one process, with v votes
one_cover : (x y z : Bool) (v : ℕ) → (x ≡ true → (y ≡ true) ⊎ (z ≡ true)) → cond x v 0 ≤ cond y v 0 + cond z v 0
one_cover x y z v h = grind arith

one_meet : (x y : Bool) (v : ℕ) → cond x v 0 + cond y v 0 ≤ v + cond (x && y) v 0
one_meet true true v = omega arith
one_meet true false v = omega arith
one_meet false true v = omega arith
one_meet false false v = omega arith

one_find : (x y : Bool) (v : ℕ) → ((x ≡ true) × (y ≡ false)) ⊎ (cond x v 0 ≤ cond y v 0)
one_find true true v = inr (omega arith)
one_find true false v = inl (refl, refl)
one_find false true v = inr (omega arith)
one_find false false v = inr (omega arith)

module _ (w : ℕ → ℕ) where
  pub none : (n : ℕ) → weight w empty n ≡ 0
  none zero = refl
  none (suc n) = let h = none n in omega arith

  -- one process more, which is in the set or not
  pub weight_yes : (s : Set) (i : ℕ) → s i ≡ true → weight w s (i + 1) ≡ weight w s i + w i
  weight_yes s i e = let c = cond-true (s i) (w i) 0 e in rw add-one (omega arith)

  pub weight_no : (s : Set) (i : ℕ) → s i ≡ false → weight w s (i + 1) ≡ weight w s i
  weight_no s i e = let c = cond-false (s i) (w i) 0 e in rw add-one (omega arith)

  -- a set within two others has at most their votes
  pub cover :
      (a b c : Set) (n : ℕ) → ((i : ℕ) → i < n → a i ≡ true → (b i ≡ true) ⊎ (c i ≡ true))
      → weight w a n ≤ weight w b n + weight w c n
  cover a b c zero h = omega arith
  cover a b c (suc n) h =
      let before = cover a b c n (λ i l. h i (omega arith)) in
      let here = one_cover (a n) (b n) (c n) (w n) (h n (omega arith)) in
      omega arith

  -- two sets have at most the votes of all and of what they share
  pub meet : (a b : Set) (n : ℕ) → weight w a n + weight w b n ≤ whole w n + weight w (λ i. a i && b i) n
  meet a b zero = omega arith
  meet a b (suc n) =
      let before = meet a b n in
      let here = one_meet (a n) (b n) (w n) in
      omega arith

  -- a set with more votes than another has a process outside it
  pub find : (a b : Set) (n : ℕ) → weight w b n < weight w a n → (i : ℕ) × (i < n) × (a i ≡ true) × (b i ≡ false)
  find a b zero h = absurd (omega arith)
  find a b (suc n) h =
      elim (one_find (a n) (b n) (w n)) [
        | inl p ↦ (n, omega arith, p.0, p.1)
        | inr le ↦ (let r = find a b n (omega arith) in (r.0, omega arith, r.2, r.3))
      ]

-- with one vote each, all have as many votes as there are processes
pub whole_ones : (n : ℕ) → whole one_each n ≡ n
whole_ones zero = refl
whole_ones (suc n) = let h = whole_ones n in omega arith
