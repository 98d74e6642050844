-- Beside the promise: codes can be read back, every call has an answer, refusals are exact, every play is a history.
use Rattle.std.specs.Prelude.{◌≡◌, ℕ, ◌<◌, List, [], ◌∷◌, Some, Err}
use Rattle.protocol.specs.declared.refusal.Refusal.{Refusal}
use Rattle.protocol.specs.Refusals.{first_no}
use Rattle.protocol.specs.Messages.{Message, code, message_of, Writable}
use Rattle.protocol.specs.Wires.{Wire, WireLaws, pool}
use Rattle.protocol.specs.Settings.{Setting, InRange, Fair}
use Rattle.protocol.specs.Calls.{Call, Answer}
use Rattle.protocol.specs.Play.{Configuration, questions, call_answer, call_leaves}
use Rattle.protocol.specs.Histories.{State, state_of, Does, Event, event, Beginning}
use Rattle.protocol.specs.Promise.{Promise}

-- messages and codes are got back from each other
pub record CodesReadBack : Type 0 where
  pub message_back : (m : Message) → Writable m → message_of (code m) ≡ m
  pub code_back : (x : ℕ) → code (message_of x) ≡ x
  -- the messages that can be written are those with a code below 32,768
  pub below : (m : Message) → Writable m → code m < 32768
  pub written : (x : ℕ) → x < 32768 → Writable (message_of x)

-- every call has an answer, wherever a run stands
abbrev pub EveryCallAnswered : Type 0
EveryCallAnswered = (S : Setting) (s : State) (c : Call) → (a : Answer) × (t : State) × Does S s c a t

-- a call is refused just by its first no, and then it changes nothing
abbrev pub RefusalsExact : Type 0
RefusalsExact =
    (S : Setting) (s : State) (c : Call) (a : Answer) (t : State) → Does S s c a t → (q : Refusal)
    → (a ≡ Err q → (first_no (questions (pool 0) S s c) ≡ Some q) × (t ≡ s))
    × (first_no (questions (pool 0) S s c) ≡ Some q → (a ≡ Err q) × (t ≡ s))

-- over every kind of wire that keeps its laws, what a call answers and leaves is what it can
abbrev pub EveryWirePlays : Type 0 → Type 0
EveryWirePlays W =
    (K : Wire W) → WireLaws K → (S : Setting) → InRange S → (s : Configuration W) (c : Call)
    → Does S (state_of K s) c (call_answer K S s c) (state_of K (call_leaves K S s c))

module _ {W : Type 0} (K : Wire W) (S : Setting) where
  -- the history that a list of calls adds to h, the first call first
  abbrev pub history : Configuration W → List Call → List Event → List Event
  history s [] h = h
  history s (c ∷ cs) h = history (call_leaves K S s c) cs (event c (call_answer K S s c) ∷ h)

  -- where it leads
  abbrev pub final : Configuration W → List Call → Configuration W
  final s [] = s
  final s (c ∷ cs) = final (call_leaves K S s c) cs

-- over every such wire, every list of calls from a beginning keeps the promise
abbrev pub EveryPlayKeepsPromise : Type 0 → Type 0
EveryPlayKeepsPromise W =
    (K : Wire W) → WireLaws K → (S : Setting) → Fair S → (s : Configuration W) → Beginning S (state_of K s)
    → (cs : List Call) → Promise S (history K S s cs []) (state_of K (final K S s cs))
