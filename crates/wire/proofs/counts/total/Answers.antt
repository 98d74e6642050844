use Rattle.std.proofs.Common.{◌≡◌, ◌∙◌, sum, rules}
use Rattle.wire.proofs.Counting.{sum_counted}
use Rattle.wire.proofs.counts.total.Goals as goal

pub returns : goal.returns
returns c =
    let e : c.sum.result ≡ sum c.args.counts.now = search rules in
    e ∙ sum_counted c.args.counts.now
