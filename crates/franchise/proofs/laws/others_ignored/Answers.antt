use Rattle.protocol.proofs.Counting.{ignores_others}
use Rattle.franchise.proofs.laws.others_ignored.Goals as goal

pub returns : goal.returns
returns g c =
    let x = c.args.franchise.now in
    let laws = g.met.F.Franchise.laws x in
    ignores_others (g.F.Franchise.facts x) laws.parts laws.growth
