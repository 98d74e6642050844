-- What the outcome of a step does, and how it is told.
use Rattle.std.specs.Prelude.{ℕ, suc, cond, List, [], ◌∷◌, Some, None, Option}
use Rattle.protocol.specs.declared.payload.Payload.{Payload}
use Rattle.protocol.specs.declared.payload.Payload.TheVariants as payload
use Rattle.protocol.specs.declared.outcome.Outcome.{Outcome}
use Rattle.protocol.specs.declared.outcome.Outcome.TheVariants.{Echo, Est, Aux, Close, Idle}
use Rattle.protocol.specs.Values.{value_number, values_number}
use Rattle.protocol.specs.Processes.{Process, sending}
use Rattle.protocol.specs.Rounds.{new_estimate}

-- the process after the step
abbrev pub after : Outcome → Process → Process
after (Echo r v) x = sending r (payload.Est v) x
after (Est r v) x = sending r (payload.Est v) x
after (Aux r c) x = sending r (payload.Aux c) x
after (Close r c d) x = record {
  round = suc r;
  estimate = Some (new_estimate r c);
  decision = cond d (Some (new_estimate r c)) x.decision;
  sent = x.sent;
  noted = x.noted;
}
after Idle x = x

-- what the step sends to every process, and for which round
abbrev pub says : Outcome → Option (ℕ × Payload)
says (Echo r v) = Some (r, payload.Est v)
says (Est r v) = Some (r, payload.Est v)
says (Aux r c) = Some (r, payload.Aux c)
says (Close r c d) = None
says Idle = None

-- the five words for what a step did
pub data Word : Type 0 where
  echo est aux close idle : Word

-- an outcome is told by its word
abbrev pub word : Outcome → Word
word (Echo r v) = echo
word (Est r v) = est
word (Aux r c) = aux
word (Close r c d) = close
word Idle = idle

-- and by its numbers: round and content, and of a close also 1 if it decided or else 0
abbrev pub numbers : Outcome → List ℕ
numbers (Echo r v) = r ∷ value_number v ∷ []
numbers (Est r v) = r ∷ value_number v ∷ []
numbers (Aux r c) = r ∷ values_number c ∷ []
numbers (Close r c d) = r ∷ values_number c ∷ cond d 1 0 ∷ []
numbers Idle = []
