use Rattle.std.proofs.Common.{arith}
use Rattle.wire.proofs.Bagging.{held_waiting}
use Rattle.wire.proofs.bag.Bag.held.Goals as goal

pub returns-clause-waits : goal.returns-clause-waits
returns-clause-waits c = let e = held_waiting c.args.self.now in omega arith
