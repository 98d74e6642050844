use Rattle.std.proofs.Common.{◌≡◌, ◌*◌, ◌≤◌}
use Rattle.franchise.specs.Marks.{set_of}
use Rattle.franchise.specs.Tables.{votes_in}
use Rattle.franchise.specs.Weights.{weight, listed}
use Rattle.franchise.proofs.table.Table.count.Given as goal

abbrev pub invariant-loop-process : goal.invariant-loop-process
invariant-loop-process l =
    (l.sum ≤ 65535 * l.process) × (l.sum ≡ weight (listed (votes_in l.self)) (set_of l.set) l.process)
