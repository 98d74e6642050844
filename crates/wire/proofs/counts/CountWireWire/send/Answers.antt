use Rattle.std.proofs.Common.{arith, rules}
use Rattle.protocol.specs.Wires.{free}
use Rattle.wire.specs.CountWires.{counts_kind}
use Rattle.wire.proofs.Asking.{sendable}
use Rattle.wire.proofs.Counting.{count_free}
use Rattle.wire.proofs.counts.CountWireWire.send.Goals as goal

pub overflow_add-self : goal.overflow_add-self
overflow_add-self c =
    let w = c.args.self.now in
    let asked = sendable c.args.code (free counts_kind w) (search rules) in
    let less = count_free w c.from.result (search rules) asked.1 in
    omega arith
