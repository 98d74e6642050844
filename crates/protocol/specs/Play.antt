-- The play: what each call asks, answers and leaves, over any kind of wire.
use Rattle.std.specs.Prelude.{ℕ, zero, suc, Bool, false, cond, not, ◌&&◌, List, [], ◌∷◌, Some, None, Option, ◌==◌, nat_le, nat_lt}
use Rattle.protocol.specs.declared.refusal.Layer.TheVariants as layer
use Rattle.protocol.specs.declared.payload.Payload.{Payload}
use Rattle.protocol.specs.declared.outcome.Outcome.{Outcome}
use Rattle.protocol.specs.Refusals.{Question, ask, answer, leaves}
use Rattle.protocol.specs.Options.{absent}
use Rattle.protocol.specs.Values.{value_of, number_or_two}
use Rattle.protocol.specs.Messages.{Message, code, message_of, payload_of, message}
use Rattle.protocol.specs.Processes.{Process, proposing, noting, grows}
use Rattle.protocol.specs.Steps.{outcome}
use Rattle.protocol.specs.Outcomes.{after, says}
use Rattle.protocol.specs.Wires.{Wire, waiting, free}
use Rattle.protocol.specs.Settings.{Setting}
use Rattle.protocol.specs.Calls.{Call, propose, step, plant, deliver, standing, Reply, done, did, got, stands, Answer}

-- where a run stands: its processes, and what its wire holds
pub record Configuration (W : Type 0) : Type 0 where
  pub processes : ℕ → Process
  pub wire : W

-- a table with a at i, and else as it was
unfoldable pub put : {A : Type 0} → ℕ → A → (ℕ → A) → ℕ → A
put i a g j = cond (i == j) a (g j)

-- what a message says, if its round is from 1 to the last, its kind 0 or 1, and its content one of that kind
abbrev pub admitted : Setting → Message → Option Payload
admitted S m = cond (nat_le 1 m.round && nat_le m.round S.rounds) (payload_of m.kind m.content) None

-- what a delivered message says to its receiver; nothing, if it is dropped
abbrev pub landing : Setting → Message → Option Payload
landing S m =
    cond (nat_lt m.sender S.facts.n && (nat_lt m.receiver S.facts.n && not (S.faulty m.receiver)))
    (admitted S m) None

-- the processes after a message was delivered that says this
abbrev pub delivered : Message → Option Payload → (ℕ → Process) → ℕ → Process
delivered m (Some p) xs = put m.receiver (noting m.sender m.round p (xs m.receiver)) xs
delivered m None xs = xs

-- whether a set grew
abbrev pub mark : Message → Option Payload → (ℕ → Process) → Bool
mark m (Some p) xs = grows m.sender m.round p (xs m.receiver)
mark m None xs = false

-- the outcome of process i's step
abbrev pub outcome_of : Setting → (ℕ → Process) → ℕ → Outcome
outcome_of S xs i = outcome S.facts S.rounds (xs i)

-- the places that a step needs: one for each process if it sends
abbrev pub needed : Setting → Outcome → ℕ
needed S o = cond (absent (says o)) 0 S.facts.n

-- what each call asks, in order, where so many copies wait and so many places are free
abbrev pub asked : Setting → (ℕ → Process) → ℕ → ℕ → Call → List Question
asked S xs waits room (propose i v) =
    ask 1 layer.Run S.live ∷ ask 2 layer.Run (nat_lt i S.facts.n) ∷ ask 3 layer.Run (not (S.faulty i))
    ∷ ask 4 layer.Run (nat_le v 1) ∷ ask 5 layer.Run ((xs i).round == 0) ∷ []
asked S xs waits room (step i) =
    ask 1 layer.Run S.live ∷ ask 2 layer.Run (nat_lt i S.facts.n) ∷ ask 3 layer.Run (not (S.faulty i))
    ∷ ask 6 layer.Run (nat_le 1 (xs i).round) ∷ ask 9 layer.Wire (nat_le (needed S (outcome_of S xs i)) room) ∷ []
asked S xs waits room (plant m) =
    ask 1 layer.Run S.live ∷ ask 2 layer.Run (nat_lt m.sender S.facts.n && nat_lt m.receiver S.facts.n)
    ∷ ask 7 layer.Run (S.faulty m.sender) ∷ ask 8 layer.Run (not (absent (admitted S m)))
    ∷ ask 9 layer.Wire (nat_le 1 room) ∷ []
asked S xs waits room (deliver k) = ask 1 layer.Run S.live ∷ ask 10 layer.Wire (nat_le 1 waits) ∷ []
asked S xs waits room (standing i) =
    ask 1 layer.Run S.live ∷ ask 2 layer.Run (nat_lt i S.facts.n) ∷ ask 3 layer.Run (not (S.faulty i)) ∷ []

module _ {W : Type 0} (K : Wire W) (S : Setting) where
  -- what a call asks where a run stands
  abbrev pub questions : Configuration W → Call → List Question
  questions s c = asked S s.processes (waiting (K.copies s.wire)) (free K s.wire) c

  -- the message that a delivery with k takes
  abbrev pub taken : Configuration W → ℕ → Message
  taken s k = message_of (K.pick s.wire k)

  -- what a call answers if it is not refused
  abbrev pub reply : Configuration W → Call → Reply
  reply s (propose i v) = done
  reply s (step i) = did (outcome_of S s.processes i)
  reply s (plant m) = done
  reply s (deliver k) = got (K.pick s.wire k) (mark (taken s k) (landing S (taken s k)) s.processes)
  reply s (standing i) =
      stands (s.processes i).round (number_or_two (s.processes i).estimate) (number_or_two (s.processes i).decision)

  -- the wire after process i sent p for round r to the processes below d, process 0 first
  unfoldable pub sent_to : ℕ → ℕ → Payload → ℕ → W → W
  sent_to i r p zero w = w
  sent_to i r p (suc d) w = K.send (code (message i d r p)) (sent_to i r p d w)

  -- the wire after process i said something to all, or nothing
  abbrev pub sent_by : ℕ → Option (ℕ × Payload) → W → W
  sent_by i (Some m) w = sent_to i m.0 m.1 S.facts.n w
  sent_by i None w = w

  -- what a call leaves if it is not refused
  abbrev pub change : Configuration W → Call → Configuration W
  change s (propose i v) =
      record { processes = put i (proposing (value_of v) (s.processes i)) s.processes; wire = s.wire }
  change s (step i) = record {
    processes = put i (after (outcome_of S s.processes i) (s.processes i)) s.processes;
    wire = sent_by i (says (outcome_of S s.processes i)) s.wire;
  }
  change s (plant m) = record { processes = s.processes; wire = K.send (code m) s.wire }
  change s (deliver k) = record {
    processes = delivered (taken s k) (landing S (taken s k)) s.processes;
    wire = K.rest s.wire k;
  }
  change s (standing i) = s

  -- what a call answers
  abbrev pub call_answer : Configuration W → Call → Answer
  call_answer s c = answer (questions s c) (reply s c)

  -- what a call leaves
  abbrev pub call_leaves : Configuration W → Call → Configuration W
  call_leaves s c = leaves (questions s c) s (change s c)
