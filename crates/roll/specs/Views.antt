-- What a roll says.
use Rattle.std.specs.Prelude.{ℕ, ◌^◌, bit_or}
use Rattle.roll.specs.declared.rolls.Roll.{Roll}

-- how many processes and rounds there are, and the faulty processes as bits
pub record Terms : Type 0 where
  pub size : ℕ
  pub rounds : ℕ
  pub faulty : ℕ

-- what a roll says, in either state
abbrev pub terms : {State : Type 0} → Roll State → Terms
terms r = record { size = r.size; rounds = r.rounds; faulty = r.faulty }

-- no process is named
abbrev pub opened : ℕ → ℕ → Terms
opened n R = record { size = n; rounds = R; faulty = 0 }

-- process i is named, if it was not before
abbrev pub named : Terms → ℕ → Terms
named r i = record { size = r.size; rounds = r.rounds; faulty = bit_or r.faulty (2 ^ i) }
