use Rattle.std.proofs.Common.{◌≡◌, true, ltb, arith}
use Rattle.std.proofs.lemmas.Bool.{lt-ltb}
use Rattle.roll.proofs.Naming.{joined_bits, shifted_one}
use Rattle.roll.proofs.open.OpenRoll.name.Goals as goal

pub returns-clause-members : goal.returns-clause-members
returns-clause-members c =
    let i = c.args.process in
    let r = c.args.self.now in
    let below : ltb i r.size ≡ true = lt-ltb i r.size (omega arith) in
    rw (below, shifted_one i (omega arith)) (joined_bits r.faulty i)
