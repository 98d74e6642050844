-- Histories: calls with their answers that lead from a beginning.
use Rattle.std.specs.Prelude.{◌≡◌, ℕ, ◌<◌, ◌≤◌, ◌⊎◌, List, [], ◌∷◌, Ok}
use Rattle.protocol.specs.declared.value.Value.{Value}
use Rattle.protocol.specs.declared.value.Values.TheVariants.{Only}
use Rattle.protocol.specs.declared.outcome.Outcome.{Outcome}
use Rattle.protocol.specs.Values.{value_number, values_number}
use Rattle.protocol.specs.Processes.{blank}
use Rattle.protocol.specs.Outcomes.{Word, close, word, numbers}
use Rattle.protocol.specs.Wires.{Wire, Pool, pooled, pool, waiting}
use Rattle.protocol.specs.Settings.{Setting}
use Rattle.protocol.specs.Calls.{Call, propose, step, done, did, Answer}
use Rattle.protocol.specs.Play.{Configuration, call_answer, call_leaves}

-- where a run stands, as far as the promise speaks of it
abbrev pub State : Type 0
State = Configuration Pool

-- what a configuration over any kind of wire means
abbrev pub state_of : {W : Type 0} → Wire W → Configuration W → State
state_of K s = record { processes = s.processes; wire = pooled K s.wire }

-- where a copy waits, x is the code of one that does
abbrev pub MayTake : Pool → ℕ → Type 0
MayTake w x = 1 ≤ waiting w.copies → (x < 32768) × (1 ≤ w.copies x)

-- the call c can answer a and leave t, where the run stands at s: which waiting copy is taken is open
pub record Does (S : Setting) (s : State) (c : Call) (a : Answer) (t : State) : Type 0 where
  pub taken : ℕ
  pub waits : MayTake s.wire taken
  pub answers : a ≡ call_answer (pool taken) S s c
  pub leaves : t ≡ call_leaves (pool taken) S s c

-- a call with its answer
pub record Event : Type 0 where
  pub call : Call
  pub answer : Answer

-- a call that was answered
abbrev pub event : Call → Answer → Event
event c a = record { call = c; answer = a }

-- every process is blank, and no message waits
pub record Beginning (S : Setting) (s : State) : Type 0 where
  pub blank_processes : (i : ℕ) → i < S.facts.n → s.processes i ≡ blank
  pub empty_wire : (x : ℕ) → x < 32768 → s.wire.copies x ≡ 0

-- the events, the newest first, lead from one state to another
pub data Leads (S : Setting) (from : State) : List Event → State → Type 0 where
  begins : Leads S from [] from
  goes :
      {h : List Event} {s t : State} {c : Call} {a : Answer} → Leads S from h s → Does S s c a t
      → Leads S from (event c a ∷ h) t

-- an event is one of a history
abbrev pub Among : Event → List Event → Type 0
Among e [] = ⊥
Among e (x ∷ h) = (e ≡ x) ⊎ Among e h

-- process i has proposed v: such a call was not refused
abbrev pub Proposed : List Event → ℕ → Value → Type 0
Proposed h i v = Among (event (propose i (value_number v)) (Ok done)) h

-- a step of process i was told by this word and these numbers
abbrev pub StepTold : List Event → ℕ → Word → List ℕ → Type 0
StepTold h i w ns = (o : Outcome) × Among (event (step i) (Ok (did o))) h × (word o ≡ w) × (numbers o ≡ ns)

-- process i has closed round r
abbrev pub Closed : List Event → ℕ → ℕ → Type 0
Closed h i r = (c : ℕ) × (d : ℕ) × StepTold h i close (r ∷ c ∷ d ∷ [])

-- process i has decided v: it closed a round with the values {v}, and told that it decided there
abbrev pub Decided : List Event → ℕ → Value → Type 0
Decided h i v = (r : ℕ) × StepTold h i close (r ∷ values_number (Only v) ∷ 1 ∷ [])
