use Rattle.wire.proofs.Seeking.{takes_smallest}
use Rattle.wire.proofs.ties.counts_take_smallest.Goals as goal

pub returns : goal.returns
returns c = takes_smallest
