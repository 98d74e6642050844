use Rattle.protocol.proofs.Answered.{answered}
use Rattle.protocol.proofs.theorems.every_call_answered.Goals as goal

pub returns : goal.returns
returns c = answered
