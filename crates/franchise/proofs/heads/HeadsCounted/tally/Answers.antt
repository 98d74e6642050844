use Rattle.std.proofs.Common.{sym, ◌∙◌, arith}
use Rattle.franchise.specs.Marks.{set_of}
use Rattle.franchise.specs.Arithmetic.{whole_ones}
use Rattle.franchise.proofs.Counting.{one_vote_each}
use Rattle.franchise.proofs.heads.HeadsCounted.tally.Goals as goal

pub returns : goal.returns
returns c =
    let votes = c.count_below.ensures ∙ one_vote_each (set_of c.args.set.now) c.args.self.now.size in
    let total = c.from.ensures ∙ sym (whole_ones c.args.self.now.size) in
    grind (arith, votes, total)
