-- What a count wire takes, as a law.
use Rattle.std.specs.Prelude.{◌≡◌, ℕ, ◌%◌, ◌<◌, ◌≤◌, ◌⊎◌}
use Rattle.protocol.specs.Wires.{Pool, waiting}
use Rattle.wire.specs.PlainWires.{plain_counts}

-- x is the smallest code, from a number on, of which a copy waits
pub record SmallestFrom (copies : ℕ → ℕ) (from x : ℕ) : Type 0 where
  pub at_least : from ≤ x
  pub a_code : x < 32768
  pub waits : 1 ≤ copies x
  pub none_before : (y : ℕ) → from ≤ y → y < x → copies y ≡ 0

-- no copy waits of any code from a number on
abbrev pub NoneFrom : (ℕ → ℕ) → ℕ → Type 0
NoneFrom copies from = (y : ℕ) → from ≤ y → y < 32768 → copies y ≡ 0

-- where a message waits, a take with k answers the smallest waiting code that is at least k mod 32,768,
-- or the smallest of all if there is none
abbrev pub TakesSmallest : Type 0
TakesSmallest =
    (w : Pool) (k : ℕ) → 1 ≤ waiting w.copies
    → SmallestFrom w.copies (k % 32768) (plain_counts.pick w k)
    ⊎ (NoneFrom w.copies (k % 32768) × SmallestFrom w.copies 0 (plain_counts.pick w k))
