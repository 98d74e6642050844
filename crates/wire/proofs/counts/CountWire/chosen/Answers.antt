use Rattle.std.proofs.Common.{sym, ◌∙◌}
use Rattle.wire.proofs.Counting.{none_chosen}
use Rattle.wire.proofs.counts.CountWire.chosen.Goals as goal

pub returns-then-not-whole : goal.returns-then-not-whole
returns-then-not-whole c = sym (none_chosen c.args.self.now (sym c.whole.ensures ∙ c.if-not-whole.true) c.args.k)
