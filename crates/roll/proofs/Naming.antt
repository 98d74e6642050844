-- Setting one bit of a number puts one process into the set that it is.
use Rattle.std.proofs.Common.{◌≡◌, ℕ, ◌*◌, ◌%◌, ◌^◌, ◌<◌, max, sym, inl, inr, mod-eq_of_lt, one-mul, arith}
use lib.Bits.{bit_or}
use lib.Pow.{pow-lt}
use Rattle.std.specs.Int.{bit_at}
use Rattle.std.proofs.lemmas.Bool.{cases_eq, eq-eqb, ne_eqb}
use Rattle.std.proofs.lemmas.Nat.Bits.{bit_at_or, bit_at-lt, bit_at-pow_same, bit_at-pow_other}
use Rattle.protocol.specs.Sets.{bits, joined}

pub joined_bits : (f i : ℕ) → bits (bit_or f (2 ^ i)) ≡ joined (bits f) i
joined_bits f i = λ k j. each j k where
  each : (j : ℕ) → bits (bit_or f (2 ^ i)) j ≡ joined (bits f) i j
  each j =
      let either : bit_at (bit_or f (2 ^ i)) j ≡ max (bit_at f j) (bit_at (2 ^ i) j) = bit_at_or f (2 ^ i) j in
      let low = bit_at-lt f j in
      elim (cases_eq i j) [
        | inl e ↦
            let one : bit_at (bit_or f (2 ^ i)) j ≡ 1 = rw (either, ← e, bit_at-pow_same i) (omega arith) in
            rw (eq-eqb i j e, one)
        | inr ne ↦
            let same : bit_at (bit_or f (2 ^ i)) j ≡ bit_at f j = rw (either, bit_at-pow_other i j (λ e. ne (sym e))) (omega arith) in
            rw (ne_eqb i j ne, same)
      ]

-- what a shift of 1 gives within 16 bits
pub shifted_one : (i : ℕ) → i < 16 → 1 * 2 ^ i % 65536 ≡ 2 ^ i
shifted_one i h = let p : 2 ^ i < 2 ^ 16 = pow-lt h in rw (one-mul (2 ^ i)) (mod-eq_of_lt p)
