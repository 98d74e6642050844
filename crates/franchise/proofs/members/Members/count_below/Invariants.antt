use Rattle.std.proofs.Common.{◌≡◌, ◌≤◌}
use Rattle.franchise.specs.Marks.{set_of}
use Rattle.franchise.specs.Weights.{weight, one_each}
use Rattle.franchise.proofs.members.Members.count_below.Given as goal

-- so far the set has one vote for each process that was counted
abbrev pub invariant-loop-process : goal.invariant-loop-process
invariant-loop-process l = (l.count ≤ l.process) × (l.count ≡ weight one_each (set_of l.self) l.process)
