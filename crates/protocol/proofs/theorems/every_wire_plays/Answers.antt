use Rattle.protocol.proofs.Played.{every_wire_plays}
use Rattle.protocol.proofs.theorems.every_wire_plays.Goals as goal

pub returns : goal.returns
returns g c = every_wire_plays _
