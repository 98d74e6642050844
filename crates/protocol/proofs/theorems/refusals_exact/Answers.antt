use Rattle.protocol.proofs.Answered.{refusals_exact}
use Rattle.protocol.proofs.theorems.refusals_exact.Goals as goal

pub returns : goal.returns
returns c = refusals_exact
