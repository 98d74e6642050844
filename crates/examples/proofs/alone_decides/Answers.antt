use Rattle.examples.proofs.Happening.{alone_happens}
use Rattle.examples.proofs.alone_decides.Goals as goal

pub returns : goal.returns
returns c = alone_happens
