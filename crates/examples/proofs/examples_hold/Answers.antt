use Rattle.examples.proofs.Holding.{all_hold}
use Rattle.examples.proofs.examples_hold.Goals as goal

pub returns : goal.returns
returns c = all_hold
