-- One round of a correct process: its bin, its values, and what they lead to.
use Rattle.std.specs.Prelude.{ℕ, Bool, false, cond, ◌&&◌, Some, None, Option}
use Rattle.protocol.specs.declared.value.Value.{Value}
use Rattle.protocol.specs.declared.value.Value.TheVariants.{Hold, Release}
use Rattle.protocol.specs.declared.value.Values.{Values}
use Rattle.protocol.specs.declared.value.Values.TheVariants.{Only, Both}
use Rattle.protocol.specs.declared.payload.Payload.TheVariants.{Est, Aux}
use Rattle.protocol.specs.Options.{absent}
use Rattle.protocol.specs.Facts.{Facts}
use Rattle.protocol.specs.Values.{values_with, same_value, favoured}
use Rattle.protocol.specs.Processes.{Process, any_aux}

-- v is in the bin of round r: those that sent EST v for it are accepted
abbrev pub in_bin : Facts → Process → ℕ → Value → Bool
in_bin f x r v = f.accepted (x.noted r (Est v))

-- the bin of round r, if it is not empty
unfoldable pub bin : Facts → Process → ℕ → Option Values
bin f x r = values_with (in_bin f x r Hold) (in_bin f x r Release)

-- round r can close with the value v: it is in the bin, and those that sent AUX {v} are closing
abbrev pub single : Facts → Process → ℕ → Value → Bool
single f x r v = in_bin f x r v && f.closing (x.noted r (Aux (Only v)))

-- round r can close with both values: both are in the bin, and those that sent any AUX are closing
abbrev pub double : Facts → Process → ℕ → Bool
double f x r = in_bin f x r Hold && (in_bin f x r Release && f.closing (any_aux x r))

-- the values of round r, if there are any
unfoldable pub values : Facts → Process → ℕ → Option Values
values f x r =
    cond (single f x r Hold) (Some (Only Hold))
    (cond (single f x r Release) (Some (Only Release)) (cond (double f x r) (Some Both) None))

-- the estimate after round r closed with these values
abbrev pub new_estimate : ℕ → Values → Value
new_estimate r (Only v) = v
new_estimate r Both = favoured r

-- closing its round with these values decides: the one value is the one that the round favours, and nothing is decided
abbrev pub decides : Process → Values → Bool
decides x (Only v) = same_value v (favoured x.round) && absent x.decision
decides x Both = false
