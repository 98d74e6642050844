-- The votes that a set of processes has.
use Rattle.std.specs.Prelude.{ℕ, zero, suc, ◌+◌, true, cond, List, slice_index}
use Rattle.protocol.specs.Sets.{Set}

-- the votes of the members of s below n, where process i has w i votes
abbrev pub weight : (ℕ → ℕ) → Set → ℕ → ℕ
weight w s zero = 0
weight w s (suc n) = weight w s n + cond (s n) (w n) 0

-- the votes of all processes below n
abbrev pub whole : (ℕ → ℕ) → ℕ → ℕ
whole w n = weight w (λ _. true) n

-- one vote for each process
abbrev pub one_each : ℕ → ℕ
one_each i = 1

-- the votes of a list, by process; none beyond its end
abbrev pub listed : List ℕ → ℕ → ℕ
listed vs i = slice_index vs i
