-- Sums and counts are the votes of sets.
use Rattle.std.proofs.Common.{◌≡◌, ℕ, zero, suc, ◌+◌, ◌≤◌, cond, List, map, length, take, refl, sym, ap, ◌∙◌, arith}
use Rattle.std.specs.List.{count_by, sum, range_with_len}
use Rattle.std.proofs.lemmas.List.{take_all, map-id}
use Rattle.std.proofs.lemmas.List.FromFn.{sum_by-map-range_with_len_more}
use Rattle.std.proofs.lemmas.List.Sums.{sum_by_more}
use Rattle.protocol.specs.Sets.{Set}
use Rattle.franchise.specs.Weights.{weight, whole, one_each, listed}

-- the sum of the first n of some votes is the votes of the first n processes
sum_front : (vs : List ℕ) (n : ℕ) → n ≤ length vs → sum (take n vs) ≡ whole (listed vs) n
sum_front vs zero l = refl
sum_front vs (suc n) l =
    let before = sum_front vs n (omega arith) in
    let more = sum_by_more (λ v. v) vs n 0 (omega arith) in
    let e : suc n ≡ n + 1 = omega arith in
    ap (λ k. sum (take k vs)) e ∙ more ∙ omega arith

-- the sum of a list is the votes of all
pub sum_whole : (vs : List ℕ) → sum vs ≡ whole (listed vs) (length vs)
sum_whole vs = ap sum (sym (take_all (length vs) vs (omega arith))) ∙ sum_front vs (length vs) (omega arith)

-- with one vote each, a set has as many votes as members
pub one_vote_each : (s : Set) (n : ℕ) → count_by s (range_with_len 0 n) ≡ weight one_each s n
one_vote_each s n = ap (count_by s) (sym (map-id (range_with_len 0 n))) ∙ go n where
  go : (n : ℕ) → count_by s (map (λ (x : ℕ). x) (range_with_len 0 n)) ≡ weight one_each s n
  go zero = refl
  go (suc n) =
      let before = go n in
      let more = sum_by-map-range_with_len_more (λ i. cond (s i) 1 0) (λ (x : ℕ). x) 0 n n (omega arith) in
      let e : suc n ≡ n + 1 = omega arith in
      ap (λ k. count_by s (map (λ (x : ℕ). x) (range_with_len 0 k))) e ∙ more ∙ omega arith
