use Rattle.protocol.proofs.Played.{every_play}
use Rattle.protocol.proofs.theorems.every_play_keeps_promise.Goals as goal

pub returns : goal.returns
returns g c = every_play _
