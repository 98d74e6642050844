use Rattle.franchise.proofs.laws.laws_hold.Goals as goal

pub returns : goal.returns
returns g c = g.met.F.Franchise.laws c.args.franchise.now
