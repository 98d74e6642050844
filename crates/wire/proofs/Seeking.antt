-- The smallest waiting code from one on, and the one that a count wire chooses.
use Rattle.std.proofs.Common.{◌≡◌, ℕ, zero, suc, ◌+◌, ◌-◌, ◌%◌, ◌<◌, ◌≤◌, List, length, drop, ◌⊎◌, Some, None, Option, sym, refl, ap, ◌∙◌, inl, inr, mod-lt, arith}
use native.Mathlib.Decide.{ℕ_discrete, dec_le}
use Rattle.std.specs.List.{AllWithin, HoldsAt}
use Rattle.std.specs.Option.{MatchOption, option_map}
use Rattle.std.proofs.lemmas.List.{length-drop, get_or-drop}
use Rattle.wire.specs.CountWires.{count_in}
use Rattle.protocol.specs.Options.{first_of}
use Rattle.protocol.specs.Wires.{waiting}
use Rattle.protocol.proofs.Copies.{waiting_some}
use Rattle.wire.specs.PlainWires.{smallest, chosen, or_zero, plain_counts}
use Rattle.wire.specs.Smallest.{SmallestFrom, NoneFrom, TakesSmallest}

module _ (g : ℕ → ℕ) where
  -- the search stops at the first code of which a copy waits
  smallest_at :
      (n x y : ℕ) → x ≤ y → y < x + n → 1 ≤ g y → ((z : ℕ) → x ≤ z → z < y → g z < 1) → smallest g n x ≡ Some y
  unfolding smallest
  smallest_at zero x y a b w none = absurd (omega arith)
  smallest_at (suc n) x y a b w none =
      let here : x < y → g x < 1 = none x (omega arith) in
      let ih : x < y → smallest g n (suc x) ≡ Some y =
      λ l. smallest_at n (suc x) y l (omega arith) w (λ z c d. none z (omega arith) d) in
      let e : x ≡ y → g x ≡ g y = λ same. ap g same in
      grind arith

  -- and finds none where none waits
  smallest_none : (n x : ℕ) → ((z : ℕ) → x ≤ z → z < x + n → g z < 1) → smallest g n x ≡ None
  unfolding smallest
  smallest_none zero x none = refl
  smallest_none (suc n) x none =
      let ih = smallest_none n (suc x) (λ z a b. none z (omega arith) (omega arith)) in
      let here = none x (omega arith) (omega arith) in
      grind arith

  -- what is found is the smallest of those that wait
  found : (n x y : ℕ) → x + n ≤ 32768 → smallest g n x ≡ Some y → SmallestFrom g x y
  unfolding smallest
  found zero x y l e = absurd cc
  found (suc n) x y l e = elim (dec_le 1 (g x)) [
    | yes w ↦
        let same : x ≡ y = grind arith in
        let f = ap g same in
        record { at_least = omega arith; a_code = omega arith; waits = omega arith; none_before = λ z m k. absurd (omega arith) }
    | no w ↦
        let s = found n (suc x) y (omega arith) (grind arith) in
        record {
          at_least = let m = s.at_least in omega arith;
          a_code = s.a_code;
          waits = s.waits;
          none_before = λ z m k. elim (ℕ_discrete x z) [
            | yes same ↦ let f = ap g same in omega arith
            | no other ↦ s.none_before z (omega arith) k
          ];
        }
  ]

  -- where nothing is found, none waits
  not_found : (n x : ℕ) → smallest g n x ≡ None → (y : ℕ) → x ≤ y → y < x + n → g y ≡ 0
  unfolding smallest
  not_found zero x e y l m = absurd (omega arith)
  not_found (suc n) x e y l m =
      let ih : smallest g n (suc x) ≡ None → suc x ≤ y → g y ≡ 0 = λ f a. not_found n (suc x) f y a (omega arith) in
      grind arith

  -- the code that is chosen
  abbrev Chosen : ℕ → ℕ → Type 0
  Chosen k x = SmallestFrom g (k % 32768) x ⊎ (NoneFrom g (k % 32768) × SmallestFrom g 0 x)

  chosen_is : (k x : ℕ) → chosen g k ≡ Some x → Chosen k x
  chosen_is k x = go (smallest g (32768 - k % 32768) (k % 32768)) refl
    where
      low : k % 32768 < 32768
      low = mod-lt k (omega arith)

      go :
          (o : Option ℕ) → smallest g (32768 - k % 32768) (k % 32768) ≡ o → first_of o (smallest g 32768 0) ≡ Some x → Chosen k x
      go (Some y) e f = inl (found (32768 - k % 32768) (k % 32768) x (omega arith) (e ∙ f))
      go None e f =
          inr (
            (λ z l m. not_found (32768 - k % 32768) (k % 32768) e z l (omega arith)),
            found 32768 0 x (omega arith) f,
          )

  -- it waits
  pub chosen_waits : (k x : ℕ) → chosen g k ≡ Some x → (x < 32768) × (1 ≤ g x)
  chosen_waits k x e = elim (chosen_is k x e) [ inl s ↦ (s.a_code, s.waits) | inr s ↦ (s.1.a_code, s.1.waits) ]

  -- where none is chosen, nothing waits
  pub chosen_none : (k : ℕ) → chosen g k ≡ None → waiting g < 1
  chosen_none k = go (smallest g (32768 - k % 32768) (k % 32768))
    where
      go : (o : Option ℕ) → first_of o (smallest g 32768 0) ≡ None → waiting g < 1
      go (Some y) f = absurd cc
      go None f = elim (dec_le 1 (waiting g)) [
        | yes l ↦
            let t = waiting_some g 32768 l in
            let z = not_found 32768 0 f t.0 (omega arith) (let m = t.1 in omega arith) in
            absurd (let w = t.2 in omega arith)
        | no l ↦ omega arith
      ]

  -- where something waits, a code is chosen
  pub chosen_some : (k : ℕ) → 1 ≤ waiting g → chosen g k ≡ Some (or_zero (chosen g k))
  chosen_some k l = go (chosen g k) refl
    where
      go : (o : Option ℕ) → chosen g k ≡ o → o ≡ Some (or_zero o)
      go (Some x) e = refl
      go None e = absurd (let m = chosen_none k e in omega arith)

-- the first count above 0, from one on, is that of the smallest waiting code
module _ (xs : List ℕ) (x : ℕ) (e : length xs ≡ 32768) (l : x < 32768) where
  -- the counts from x on, up to i of them, are 0
  none_there : (i : ℕ) → AllWithin (λ y. y < 1) (drop x xs) 0 i → (z : ℕ) → x ≤ z → z < x + i → count_in xs z < 1
  none_there i f z a b =
      let w = f (z - x) 0 (omega arith) (omega arith) in
      let t = get_or-drop x xs (z - x) 0 in
      let j : x + (z - x) ≡ z = omega arith in
      let u = ap (count_in xs) j in
      omega arith

  pub first_smallest :
      (r s : Option ℕ)
      → MatchOption r (AllWithin (λ y. y < 1) (drop x xs) 0 (length (drop x xs)))
      (λ i.
      (i < length (drop x xs)) × HoldsAt (λ y. 1 ≤ y) (drop x xs) i × AllWithin (λ y. y < 1) (drop x xs) 0 i)
      → s ≡ option_map (λ i. x + i) r → s ≡ smallest (count_in xs) (32768 - x) x
  first_smallest (Some i) s f is =
      let long = length-drop x xs in
      let h = f.0 in
      let here = f.1 0 in
      let there = get_or-drop x xs i 0 in
      is ∙ sym (smallest_at (count_in xs) (32768 - x) x (x + i) (omega arith) (omega arith) (omega arith) (none_there i f.2))
  first_smallest None s f is =
      let long = length-drop x xs in
      is
      ∙ sym
      (smallest_none (count_in xs) (32768 - x) x
      (λ z a b. none_there (length (drop x xs)) f z a (omega arith)))

pub takes_smallest : TakesSmallest
takes_smallest w k l = chosen_is w.copies k (plain_counts.pick w k) (chosen_some w.copies k l)
