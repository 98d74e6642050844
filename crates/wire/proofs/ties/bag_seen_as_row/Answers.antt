use Rattle.wire.proofs.Bagging.{bag_seen, lists_codes}
use Rattle.wire.proofs.ties.bag_seen_as_row.Goals as goal

pub returns : goal.returns
returns c = record { row = bag_seen; codes = lists_codes }
