use Rattle.wire.proofs.Counting.{counts_laws}
use Rattle.wire.proofs.counts.CountWireWire.keeps_laws.Goals as goal

pub returns : goal.returns
returns c = counts_laws
