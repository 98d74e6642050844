-- The step of a correct process: its rules, in their order.
use Rattle.std.specs.Prelude.{ℕ, zero, suc, Bool, cond, not, ◌&&◌, ◌||◌, Some, None, Option, nat_le}
use Rattle.protocol.specs.declared.value.Value.{Value}
use Rattle.protocol.specs.declared.value.Value.TheVariants.{Hold, Release}
use Rattle.protocol.specs.declared.value.Values.{Values}
use Rattle.protocol.specs.declared.value.Values.TheVariants.{Only, Both}
use Rattle.protocol.specs.declared.payload.Payload.TheVariants as payload
use Rattle.protocol.specs.declared.outcome.Outcome.{Outcome}
use Rattle.protocol.specs.declared.outcome.Outcome.TheVariants.{Echo, Est, Aux, Close, Idle}
use Rattle.protocol.specs.Options.{first_of}
use Rattle.protocol.specs.Facts.{Facts}
use Rattle.protocol.specs.Processes.{Process}
use Rattle.protocol.specs.Rounds.{bin, values, decides}

-- an echo is due: those that sent EST v for round r are believed, and the process never sent it
unfoldable pub echo_due : Facts → Process → ℕ → Value → Bool
echo_due f x r v = f.believed (x.noted r (payload.Est v)) && not (x.sent r (payload.Est v))

-- the echo of round r: hold before release
abbrev pub echo_in : Facts → Process → ℕ → Option Outcome
echo_in f x r =
    cond (echo_due f x r Hold) (Some (Echo r Hold)) (cond (echo_due f x r Release) (Some (Echo r Release)) None)

-- the first echo of the k rounds from r on
unfoldable pub echo_from : Facts → Process → ℕ → ℕ → Option Outcome
echo_from f x zero r = None
echo_from f x (suc k) r = first_of (echo_in f x r) (echo_from f x k (suc r))

-- the estimate is due: it was not sent for the process's round
abbrev pub est_rule : Process → Option Value → Option Outcome
est_rule x (Some v) = cond (x.sent x.round (payload.Est v)) None (Some (Est x.round v))
est_rule x None = None

-- AUX was sent for round r
unfoldable pub aux_sent : Process → ℕ → Bool
aux_sent x r =
    x.sent r (payload.Aux (Only Hold)) || (x.sent r (payload.Aux (Only Release)) || x.sent r (payload.Aux Both))

-- AUX is due: there is a bin, and AUX was not sent for the process's round
abbrev pub aux_rule : Process → Option Values → Option Outcome
aux_rule x (Some c) = cond (aux_sent x x.round) None (Some (Aux x.round c))
aux_rule x None = None

-- the round can close: it has values
abbrev pub close_rule : Process → Option Values → Option Outcome
close_rule x (Some c) = Some (Close x.round c (decides x c))
close_rule x None = None

-- the rules for the process's own round, which is at most the last
unfoldable pub own_rules : Facts → Process → Option Outcome
own_rules f x =
    first_of (est_rule x x.estimate)
    (first_of (aux_rule x (bin f x x.round)) (close_rule x (values f x x.round)))

-- nothing is due
abbrev pub or_idle : Option Outcome → Outcome
or_idle (Some o) = o
or_idle None = Idle

-- what a step does: the first rule that applies. Echoes come before all, in every round up to the last
unfoldable pub outcome : Facts → ℕ → Process → Outcome
outcome f last x = or_idle (first_of (echo_from f x last 1) (cond (nat_le x.round last) (own_rules f x) None))
