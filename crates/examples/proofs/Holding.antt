-- The worked examples hold, each by computing it.
use Rattle.std.specs.List.{AllByRecursion}
use Rattle.protocol.specs.Messages.{code}
use Rattle.protocol.specs.Rounds.{bin, values}
use Rattle.protocol.specs.Steps.{echo_due, echo_from, aux_sent, own_rules, outcome}
use Rattle.examples.specs.Examples.{Holds, examples}

pub all_hold : AllByRecursion Holds examples
unfolding code bin values echo_due echo_from aux_sent own_rules outcome
all_hold = search
