use Rattle.std.proofs.Common.{◌≡◌, ◌%◌, ◌^◌, true}
use Rattle.protocol.specs.Sets.{bits}
use Rattle.roll.specs.Views.{terms}
use Rattle.sheet.specs.Headers.{all_named, members_below}
use Rattle.sheet.proofs.judge.name_all.Given as goal

-- the processes below the one at hand are named, and they may be
abbrev pub invariant-loop-process : goal.invariant-loop-process
invariant-loop-process l =
    (terms l.roll ≡ all_named (terms l.initial.roll) (l.faulty % 2 ^ l.process))
    × (members_below l.initial.roll.size (bits l.faulty) l.process ≡ true)
