-- Sets of processes. A process is a number, and a set says of each number whether it is a member.
use Rattle.std.specs.Prelude.{◌≡◌, ℕ, ◌/◌, ◌%◌, ◌^◌, ◌<◌, Bool, true, false, not, ◌&&◌, ◌||◌, ◌==◌}

-- a set, by membership
abbrev pub Set : Type 0
Set = ℕ → Bool

-- no process at all
abbrev pub empty : Set
empty i = false

-- the members of a, and process i
abbrev pub joined : Set → ℕ → Set
joined a i j = i == j || a j

-- the members of a and those of b
abbrev pub either : Set → Set → Set
either a b i = a i || b i

-- the members of a that are not in b
abbrev pub less : Set → Set → Set
less a b i = a i && not (b i)

-- every process that is not in b
abbrev pub all_less : Set → Set
all_less b i = not (b i)

-- every member of a below n is a member of b
abbrev pub Within : ℕ → Set → Set → Type 0
Within n a b = (i : ℕ) → i < n → a i ≡ true → b i ≡ true

-- a set written as a number: process i is a member if the bit of weight 2 to the power i is set
abbrev pub bits : ℕ → Set
bits b i = b / 2 ^ i % 2 == 1
