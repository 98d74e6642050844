use Rattle.protocol.proofs.Theorem.{never_part}
use Rattle.protocol.proofs.theorems.never_part.Goals as goal

pub returns : goal.returns
returns c = never_part
