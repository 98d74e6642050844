-- The seven laws of any franchise by votes whose sum is above three times the threshold.
use Rattle.std.proofs.Common.{◌≡◌, ℕ, ◌+◌, ◌*◌, ◌<◌, ◌≤◌, true, ◌&&◌, ◌⊎◌, inl, inr, arith}
use Rattle.std.proofs.lemmas.Bool.{leb-true, le-leb, cases_Bool, and_parts, and_from, not_from_false, cases_lt}
use Rattle.protocol.specs.Sets.{Set, empty, less, all_less, Within}
use Rattle.protocol.specs.Laws.{Laws, Parts, Growth, Outside, Remains, Others, Shared, Halves}
use Rattle.franchise.specs.Weights.{weight, whole}
use Rattle.franchise.specs.Polls.{Poll, BelowAThird, heads, facts_of}
use Rattle.franchise.specs.Arithmetic.{none, cover, meet, find, whole_ones}

-- a member of a set is faulty, or left in it when the faulty leave
left_or_faulty : (a faulty : Set) (i : ℕ) → a i ≡ true → (less a faulty i ≡ true) ⊎ (faulty i ≡ true)
left_or_faulty a faulty i e = elim (cases_Bool (faulty i)) [ inl y ↦ inr y | inr z ↦ inl (and_from _ _ e (not_from_false _ z)) ]

module _ (p : Poll) where
  abbrev of : Set → ℕ
  of s = weight p.votes s p.size

  abbrev total : ℕ
  total = whole p.votes p.size

  grows : (a b : Set) → Within p.size a b → of a ≤ of b
  grows a b h =
      let c = cover p.votes a b empty p.size (λ i l e. inl (h i l e)) in
      let e = none p.votes p.size in
      omega arith

  parts : Parts (facts_of p)
  parts = (
    (let e = none p.votes p.size in le-leb _ _ (omega arith)),
    (λ a b h y. let g = grows a b h in let y2 = leb-true _ _ y in le-leb _ _ (omega arith)),
  )

  growth : Growth (facts_of p)
  growth = (
    (λ a b h y. let g = grows a b h in let y2 = leb-true _ _ y in le-leb _ _ (omega arith)),
    (λ a b h y. let g = grows a b h in let y2 = leb-true _ _ y in le-leb _ _ (omega arith)),
    (λ a b h y. let g = grows a b h in let y2 = leb-true _ _ y in le-leb _ _ (omega arith)),
  )

  outside : Outside (facts_of p)
  outside a faulty x y =
      let x2 = leb-true _ _ x in
      let y2 = leb-true _ _ y in
      find p.votes a faulty p.size (omega arith)

  remains : Remains (facts_of p)
  remains a faulty x y =
      let x2 = leb-true _ _ x in
      let y2 = leb-true _ _ y in
      let c = cover p.votes a (less a faulty) faulty p.size (λ i l. left_or_faulty a faulty i) in
      le-leb _ _ (omega arith)

  -- the processes that are not faulty have all but T votes
  rest : (faulty : Set) → (facts_of p).tolerable faulty ≡ true → total ≤ of (all_less faulty) + p.threshold
  rest faulty x =
      let x2 = leb-true _ _ x in
      let c = cover p.votes (λ _. true) (all_less faulty) faulty p.size
      (λ i l e. elim (cases_Bool (faulty i)) [ inl y ↦ inr y | inr z ↦ inl (not_from_false _ z) ]) in
      omega arith

  module _ (few : BelowAThird p) where
    others : Others (facts_of p)
    others faulty x = let r = rest faulty x in (le-leb _ _ (omega arith), le-leb _ _ (omega arith))

    shared : Shared (facts_of p)
    shared a b faulty x y z =
        let x2 = leb-true _ _ x in
        let y2 = leb-true _ _ y in
        let z2 = leb-true _ _ z in
        let m = meet p.votes a b p.size in
        let r = find p.votes (λ i. a i && b i) faulty p.size (omega arith) in
        let q = and_parts (a r.0) (b r.0) r.2 in
        (r.0, r.1, q.0, q.1, r.3)

    halves : Halves (facts_of p)
    halves a faulty x =
        let b = less a faulty in
        let c = less (all_less a) faulty in
        let r = rest faulty x in
        let h = cover p.votes (all_less faulty) b c p.size (λ i l e. cut i e) in
        elim (cases_lt p.threshold (of b)) [
          | inl y ↦ inl (le-leb _ _ (omega arith))
          | inr y ↦ inr (le-leb _ _ (omega arith))
        ] where
          cut : (i : ℕ) → all_less faulty i ≡ true → (less a faulty i ≡ true) ⊎ (less (all_less a) faulty i ≡ true)
          cut i e =
              elim (cases_Bool (a i)) [
                | inl y ↦ inl (and_from _ _ y e)
                | inr z ↦ inr (and_from _ _ (not_from_false _ z) e)
              ]

    pub laws : Laws (facts_of p)
    laws = record {
      parts = parts;
      growth = growth;
      outside = outside;
      remains = remains;
      others = others;
      shared = shared;
      halves = halves;
    }

-- n processes with one vote each have n votes
pub heads_below : (n t : ℕ) → 3 * t < n → BelowAThird (heads n t)
heads_below n t few = let e = whole_ones n in omega arith
