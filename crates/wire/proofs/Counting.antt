-- A count wire is seen as its counts, and so keeps the laws of a wire.
use Rattle.std.proofs.Common.{◌≡◌, ℕ, zero, suc, ◌+◌, ◌-◌, ◌<◌, ◌≤◌, false, cond, eqb, List, [], ◌∷◌, length, sum, set, Some, None, Option, sym, refl, ap, ◌∙◌, inl, inr, arith}
use Rattle.std.proofs.lemmas.List.{length-set, get_or-set_same, get_or-set_other}
use Rattle.std.proofs.lemmas.Bool.{eq-eqb, cases_eq, cond-true, cond-false}
use Rattle.std.proofs.lemmas.List.Sums.{sum_by-cons}
use Rattle.protocol.specs.Wires.{WireLaws, Seen, waiting, waiting_below, free, one_more, one_less}
use Rattle.protocol.proofs.Seeing.{laws_seen}
use Rattle.wire.specs.declared.counts.CountWire.{CountWire}
use Rattle.wire.specs.PlainWires.{chosen, plain_counts}
use Rattle.wire.specs.CountWires.{if_whole, count_in, counts_of, places_of, recounted, picked, counts_kind, pool_of}
use Rattle.wire.proofs.Copying.{none_waiting}
use Rattle.wire.proofs.Pools.{plain_counts_laws}
use Rattle.wire.proofs.Seeking.{chosen_waits, chosen_some}

pub if_whole_yes : {A : Type 0} (xs : List ℕ) (a b : A) → length xs ≡ 32768 → if_whole xs a b ≡ a
if_whole_yes xs a b e = cond-true (eqb (length xs) 32768) a b (eq-eqb (length xs) 32768 e)

pub if_whole_no : {A : Type 0} (xs : List ℕ) (a b : A) → eqb (length xs) 32768 ≡ false → if_whole xs a b ≡ b
if_whole_no xs a b e = cond-false (eqb (length xs) 32768) a b e

-- a count is not above the number that waits
pub count_waits : (g : ℕ → ℕ) (m x : ℕ) → x < m → g x ≤ waiting_below g m
unfolding waiting_below
count_waits g zero x l = absurd (omega arith)
count_waits g (suc m) x l = elim (cases_eq x m) [
  | inl e ↦ let f = ap g e in omega arith
  | inr e ↦ let h = count_waits g m x (omega arith) in omega arith
]

-- the first count, and the others
first_counted : (g : ℕ → ℕ) (m : ℕ) → waiting_below g (suc m) ≡ g 0 + waiting_below (λ y. g (suc y)) m
unfolding waiting_below
first_counted g zero = omega arith
first_counted g (suc m) = let e = first_counted g m in omega arith

-- the counts of some memory, summed
pub sum_counted : (xs : List ℕ) → sum xs ≡ waiting_below (count_in xs) (length xs)
unfolding waiting_below
sum_counted [] = refl
sum_counted (x ∷ xs) =
    sum_by-cons (λ y. y) x xs ∙ ap (λ (m : ℕ). x + m) (sum_counted xs) ∙ sym (first_counted (count_in (x ∷ xs)) (length xs))

module _ (w : CountWire) where
  -- where a place is free, or something waits, there is a count for each code
  pub whole_free : 1 ≤ free counts_kind w → length w.counts.now ≡ 32768
  whole_free l = grind arith

  pub whole_held : 1 ≤ waiting (counts_of w) → length w.counts.now ≡ 32768
  whole_held l = let e = none_waiting (count_in []) (λ y. refl) 32768 in grind arith

  -- in memory of another length nothing waits
  module _ (other : eqb (length w.counts.now) 32768 ≡ false) where
    none : counts_of w ≡ count_in []
    none = ap count_in (if_whole_no w.counts.now w.counts.now [] other)

    pub none_held : waiting (counts_of w) ≡ 0
    none_held = ap waiting none ∙ none_waiting (count_in []) (λ y. refl) 32768

    pub none_chosen : (k : ℕ) → chosen (counts_of w) k ≡ None
    none_chosen k = ap (λ (g : ℕ → ℕ). chosen g k) none ∙ go (chosen (count_in []) k) refl
      where
        go : (o : Option ℕ) → chosen (count_in []) k ≡ o → o ≡ None
        go (Some x) e = let t = chosen_waits (count_in []) k x e in absurd (let l = t.1 in omega arith)
        go None e = refl

  module _ (whole : length w.counts.now ≡ 32768) where
    pub counts_whole : counts_of w ≡ count_in w.counts.now
    counts_whole = ap count_in (if_whole_yes w.counts.now w.counts.now [] whole)

    -- another count of a code is one that differs there
    recounted_pool :
        (x n : ℕ) (f : (ℕ → ℕ) → ℕ → ℕ) → ((y : ℕ) → count_in (set w.counts.now x n) y ≡ f (count_in w.counts.now) y)
        → pool_of (recounted w x n) ≡ record { copies = f (counts_of w); places = places_of w }
    recounted_pool x n f e =
        let long : length (set w.counts.now x n) ≡ 32768 = length-set w.counts.now x n ∙ whole in
        let here : (y : ℕ) → counts_of (recounted w x n) y ≡ f (counts_of w) y =
        λ y.
        ap (λ xs. count_in xs y) (if_whole_yes (set w.counts.now x n) (set w.counts.now x n) [] long)
        ∙ (e y ∙ ap (λ (g : ℕ → ℕ). f g y) (sym counts_whole)) in
        let room : places_of (recounted w x n) ≡ places_of w =
        ap (λ (m : ℕ). cond (eqb m 32768) w.places 0) (length-set w.counts.now x n) in
        λ i. record { copies = λ y. here y i; places = room i }

    sent : (x : ℕ) → x < 32768 → pool_of (counts_kind.send x w) ≡ plain_counts.send x (pool_of w)
    unfolding one_more
    sent x l = recounted_pool x (count_in w.counts.now x + 1) (one_more x) more
      where
        more : (y : ℕ) → count_in (set w.counts.now x (count_in w.counts.now x + 1)) y ≡ one_more x (count_in w.counts.now) y
        more y = grind (arith, get_or-set_same, get_or-set_other)

    taken : (k : ℕ) → picked w k < 32768 → pool_of (counts_kind.rest w k) ≡ plain_counts.rest (pool_of w) k
    unfolding one_less
    taken k l = recounted_pool (picked w k) (count_in w.counts.now (picked w k) - 1) (one_less (picked w k)) less
      where
        less :
            (y : ℕ)
            → count_in (set w.counts.now (picked w k) (count_in w.counts.now (picked w k) - 1)) y
            ≡ one_less (picked w k) (count_in w.counts.now) y
        less y = grind (arith, get_or-set_same, get_or-set_other)

  -- where a place is free, each count is below the number of places
  pub count_free : (x : ℕ) → x < 32768 → 1 ≤ free counts_kind w → count_in w.counts.now x < w.places
  count_free x l r =
      let whole = whole_free r in
      let g = ap (λ (g : ℕ → ℕ). g x) (counts_whole whole) in
      let p = if_whole_yes w.counts.now w.places 0 whole in
      let h = count_waits (counts_of w) 32768 x l in
      omega arith

  -- the code that is chosen has a count, and that is above 0
  pub chosen_counted :
      (k x i : ℕ) → chosen (counts_of w) k ≡ Some x → i ≡ x → (i < length w.counts.now) × (1 ≤ count_in w.counts.now i)
  chosen_counted k x i e is =
      let t = chosen_waits (counts_of w) k x e in
      let c = count_waits (counts_of w) 32768 x t.0 in
      let h = t.1 in
      let whole = whole_held (omega arith) in
      let g = ap (λ (g : ℕ → ℕ). g x) (counts_whole whole) in
      let f = ap (count_in w.counts.now) is in
      let l = t.0 in
      (omega arith, omega arith)

pub counts_seen : Seen counts_kind plain_counts pool_of
counts_seen = record {
  copies = λ w. refl;
  places = λ w. refl;
  sends = λ x w l r. sent w (whole_free w r) x l;
  picks = λ w k l. refl;
  takes = λ w k l. taken w (whole_held w l) k (chosen_waits (counts_of w) k (picked w k) (chosen_some (counts_of w) k l)).0;
}

pub counts_laws : WireLaws counts_kind
counts_laws = laws_seen counts_kind plain_counts pool_of counts_seen plain_counts_laws
