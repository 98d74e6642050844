use Rattle.std.proofs.Common.{arith}
use Rattle.protocol.specs.Messages.{code}
use Rattle.wire.proofs.message.Message.code.Goals as goal

pub returns : goal.returns
unfolding code
returns c = omega arith
