-- The bytes of a sheet. Past its end every byte reads as 0.
use Rattle.std.specs.Prelude.{ℕ, ◌+◌, ◌*◌, List, map, slice_index}
use Rattle.std.specs.List.{range_with_len}

-- the byte at p
abbrev pub byte : List ℕ → ℕ → ℕ
byte bs p = slice_index bs p

-- two bytes, the high one first
abbrev pub word : List ℕ → ℕ → ℕ
word bs p = byte bs p * 256 + byte bs (p + 1)

-- n numbers of two bytes in a row
unfoldable pub words : List ℕ → ℕ → ℕ → List ℕ
words bs p n = map (λ i. word bs (p + 2 * i)) (range_with_len 0 n)
