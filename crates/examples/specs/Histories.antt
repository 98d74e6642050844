-- Two histories with their settings, so that the promise speaks of something.
use Rattle.std.specs.Prelude.{true, List, [], ◌∷◌, reverse, Ok, Err, ◌==◌}
use Rattle.protocol.specs.declared.refusal.Layer.TheVariants as layer
use Rattle.protocol.specs.declared.value.Value.TheVariants.{Hold, Release}
use Rattle.protocol.specs.declared.value.Values.TheVariants.{Only}
use Rattle.protocol.specs.declared.payload.Payload.TheVariants as payload
use Rattle.protocol.specs.declared.outcome.Outcome.TheVariants.{Est, Aux, Close, Idle}
use Rattle.protocol.specs.Sets.{empty}
use Rattle.protocol.specs.Messages.{message}
use Rattle.protocol.specs.Processes.{blank}
use Rattle.protocol.specs.Settings.{Setting, Fair}
use Rattle.protocol.specs.Calls.{propose, step, plant, deliver, standing, done, did, got, stands}
use Rattle.protocol.specs.Histories.{State, Event, event, Beginning, Leads}
use Rattle.franchise.specs.Polls.{heads, votes, facts_of}

-- blank processes, and an empty wire of 8,192 places
abbrev pub fresh : State
fresh = record { processes = λ _. blank; wire = record { copies = λ _. 0; places = 8192 } }

-- in a fair setting, these events can happen, one after the other, from a beginning
pub record Happens (S : Setting) (events : List Event) : Type 0 where
  pub fair : Fair S
  pub begins : Beginning S fresh
  pub final : State
  pub leads : Leads S fresh (reverse events) final

-- one process and one round
abbrev pub alone : Setting
alone = record { live = true; facts = facts_of (heads 1 0); rounds = 1; faulty = empty }

-- the process proposes 1, hears itself, and decides 1: the calls of the sample sheet
abbrev pub alone_decides : List Event
alone_decides =
    event (propose 0 1) (Ok done)
    ∷ event (step 0) (Ok (did (Est 1 Release)))
    ∷ event (deliver 0) (Ok (got 1 true))
    ∷ event (step 0) (Ok (did (Aux 1 (Only Release))))
    ∷ event (deliver 0) (Ok (got 66 true))
    ∷ event (step 0) (Ok (did (Close 1 (Only Release) true)))
    ∷ event (standing 0) (Ok (stands 2 1 1))
    ∷ event (step 0) (Ok (did Idle))
    ∷ []

-- two processes of two votes and a faulty one of one vote
abbrev pub outvoted : Setting
outvoted = record { live = true; facts = facts_of (votes (2 ∷ 2 ∷ 1 ∷ []) 1); rounds = 1; faulty = λ i. (i == 2) }

-- the faulty process may not propose and plants two lies; the others propose 1, and process 0 decides 1
abbrev pub outvoted_decides : List Event
outvoted_decides =
    event (propose 0 1) (Ok done)
    ∷ event (propose 1 1) (Ok done)
    ∷ event (propose 2 0) (Err (record { number = 3; layer = layer.Run }))
    ∷ event (step 0) (Ok (did (Est 1 Release)))
    ∷ event (step 1) (Ok (did (Est 1 Release)))
    ∷ event (plant (message 2 0 1 (payload.Est Hold))) (Ok done)
    ∷ event (deliver 0) (Ok (got 4096 true))
    ∷ event (deliver 0) (Ok (got 1 true))
    ∷ event (deliver 0) (Ok (got 2049 true))
    ∷ event (deliver 0) (Ok (got 129 true))
    ∷ event (deliver 0) (Ok (got 2177 true))
    ∷ event (step 0) (Ok (did (Aux 1 (Only Release))))
    ∷ event (step 1) (Ok (did (Aux 1 (Only Release))))
    ∷ event (plant (message 2 0 1 (payload.Aux (Only Hold)))) (Ok done)
    ∷ event (deliver 0) (Ok (got 4161 true))
    ∷ event (deliver 0) (Ok (got 66 true))
    ∷ event (deliver 0) (Ok (got 2114 true))
    ∷ event (step 0) (Ok (did (Close 1 (Only Release) true)))
    ∷ []
