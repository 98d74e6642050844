use Rattle.examples.proofs.Happening.{outvoted_happens}
use Rattle.examples.proofs.outvoted_decides.Goals as goal

pub returns : goal.returns
returns c = outvoted_happens
