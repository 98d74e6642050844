use Rattle.wire.proofs.Counting.{counts_seen}
use Rattle.wire.proofs.ties.count_wire_seen_as_counts.Goals as goal

pub returns : goal.returns
returns c = counts_seen
