-- Values and sets of values, and their numbers.
use Rattle.std.specs.Prelude.{ℕ, suc, ◌%◌, Bool, true, false, cond, Some, None, Option, ◌==◌}
use Rattle.protocol.specs.declared.value.Value.{Value}
use Rattle.protocol.specs.declared.value.Value.TheVariants.{Hold, Release}
use Rattle.protocol.specs.declared.value.Values.{Values}
use Rattle.protocol.specs.declared.value.Values.TheVariants.{Only, Both}

-- the number of a value
abbrev pub value_number : Value → ℕ
value_number Hold = 0
value_number Release = 1

-- the value that a number stands for
abbrev pub value_of : ℕ → Value
value_of v = cond (v == 0) Hold Release

-- the number of a value, or 2 if it is absent
abbrev pub number_or_two : Option Value → ℕ
number_or_two (Some v) = value_number v
number_or_two None = 2

-- whether two values are the same
abbrev pub same_value : Value → Value → Bool
same_value v w = value_number v == value_number w

-- the number of a set of values: 1, 2 and 3 for {0}, {1} and {0, 1}
abbrev pub values_number : Values → ℕ
values_number (Only v) = suc (value_number v)
values_number Both = 3

-- the set of values with or without hold, with or without release, if it is not empty
abbrev pub values_with : Bool → Bool → Option Values
values_with true true = Some Both
values_with true false = Some (Only Hold)
values_with false true = Some (Only Release)
values_with false false = None

-- whether a value is in a set of values
abbrev pub has : Values → Value → Bool
has (Only v) w = same_value v w
has Both w = true

-- the value that a round favours: r mod 2
abbrev pub favoured : ℕ → Value
favoured r = value_of (r % 2)
