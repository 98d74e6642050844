use Rattle.wire.proofs.Bagging.{bag_laws}
use Rattle.wire.proofs.bag.BagWire.keeps_laws.Goals as goal

pub returns : goal.returns
returns c = bag_laws
