use Rattle.wire.proofs.Rows.{plain_bag_laws}
use Rattle.wire.proofs.Pools.{plain_counts_laws}
use Rattle.wire.proofs.ties.plain_wires_keep_laws.Goals as goal

pub returns : goal.returns
returns c = record { bag = plain_bag_laws; counts = plain_counts_laws }
