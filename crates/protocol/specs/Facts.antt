-- A franchise: how many processes there are, and four facts about every set of them.
use Rattle.std.specs.Prelude.{ℕ, Bool}
use Rattle.protocol.specs.Sets.{Set}

-- the facts of a franchise
pub record Facts : Type 0 where
  -- the processes are those below n
  pub n : ℕ
  -- all of the set may be faulty together
  pub tolerable : Set → Bool
  -- the set has a correct member
  pub believed : Set → Bool
  -- the set stays believed when its faulty members leave it
  pub accepted : Set → Bool
  -- the set is a quorum: any two share a correct member
  pub closing : Set → Bool
