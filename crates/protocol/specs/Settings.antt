-- The setting of a run: what is fixed before it begins.
use Rattle.std.specs.Prelude.{◌≡◌, ℕ, ◌<◌, ◌≤◌, Bool, true, false}
use Rattle.protocol.specs.Sets.{Set}
use Rattle.protocol.specs.Facts.{Facts}
use Rattle.protocol.specs.Laws.{Laws}

-- what a run is played with, live or void
pub record Setting : Type 0 where
  pub live : Bool
  pub facts : Facts
  -- the number of rounds, which is the last round
  pub rounds : ℕ
  pub faulty : Set

-- there are 1 to 16 processes and rounds
pub record InRange (S : Setting) : Type 0 where
  pub some_processes : 1 ≤ S.facts.n
  pub few_processes : S.facts.n ≤ 16
  pub some_rounds : 1 ≤ S.rounds
  pub few_rounds : S.rounds ≤ 16

-- a setting that the promise speaks of: the laws hold, and the faulty processes are tolerable
pub record Fair (S : Setting) : Type 0 where
  pub laws : Laws S.facts
  pub in_range : InRange S
  pub tolerated : S.facts.tolerable S.faulty ≡ true

-- i is a process, and it is not faulty
pub record Correct (S : Setting) (i : ℕ) : Type 0 where
  pub below : i < S.facts.n
  pub not_faulty : S.faulty i ≡ false
