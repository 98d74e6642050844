use Rattle.std.proofs.Common.{sym, ◌∙◌}
use Rattle.wire.proofs.Counting.{none_held}
use Rattle.wire.proofs.counts.CountWire.held.Goals as goal

pub returns-else-whole : goal.returns-else-whole
returns-else-whole c = sym (none_held c.args.self.now (sym c.whole.ensures ∙ c.if-whole.false))
