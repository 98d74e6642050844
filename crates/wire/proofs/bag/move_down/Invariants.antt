use Rattle.std.proofs.Common.{◌≡◌}
use Rattle.wire.specs.Bags.{moved_down}
use Rattle.wire.proofs.bag.move_down.Given as goal

abbrev pub invariant-loop-j : goal.invariant-loop-j
invariant-loop-j l = l.messages ≡ moved_down l.initial.messages l.i l.j
