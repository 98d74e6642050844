-- The promise: correct processes never disagree, decide nothing that none of them proposed, and are never stuck.
use Rattle.std.specs.Prelude.{◌≡◌, ℕ, ◌<◌, List, Ok}
use Rattle.protocol.specs.declared.value.Value.{Value}
use Rattle.protocol.specs.declared.outcome.Outcome.TheVariants.{Idle}
use Rattle.protocol.specs.Settings.{Setting, Fair, Correct}
use Rattle.protocol.specs.Calls.{step, did}
use Rattle.protocol.specs.Histories.{State, Does, Event, Beginning, Leads, Proposed, Closed, Decided}

-- any two decisions of correct processes, or of one, are the same
abbrev pub Agreement : Setting → List Event → Type 0
Agreement S h =
    (i j : ℕ) (v w : Value) → Correct S i → Correct S j → Decided h i v → Decided h j w → v ≡ w

-- what a correct process has decided, a correct process has proposed
abbrev pub Validity : Setting → List Event → Type 0
Validity S h =
    (i : ℕ) (v : Value) → Correct S i → Decided h i v → (j : ℕ) × Correct S j × Proposed h j v

-- no copy of any code waits
abbrev pub NoMessageWaits : State → Type 0
NoMessageWaits s = (x : ℕ) → x < 32768 → s.wire.copies x ≡ 0

-- a step of process i would answer idle
abbrev pub WouldIdle : Setting → State → ℕ → Type 0
WouldIdle S s i = (t : State) × Does S s (step i) (Ok (did Idle)) t

-- if all correct processes have proposed, no message waits, and each one's step would answer idle,
-- then each of them has closed the last round
abbrev pub NoDeadlock : Setting → List Event → State → Type 0
NoDeadlock S h s =
    ((i : ℕ) → Correct S i → (v : Value) × Proposed h i v) → NoMessageWaits s
    → ((i : ℕ) → Correct S i → WouldIdle S s i) → (i : ℕ) → Correct S i → Closed h i S.rounds

-- what is promised of a history and of where it leads
pub record Promise (S : Setting) (h : List Event) (s : State) : Type 0 where
  pub agreement : Agreement S h
  pub validity : Validity S h
  pub no_deadlock : NoDeadlock S h s

-- every history from this state on keeps the promise
abbrev pub KeepsPromise : Setting → State → Type 0
KeepsPromise S from = (h : List Event) (s : State) → Leads S from h s → Promise S h s

-- so it is from every beginning, in every fair setting
abbrev pub CorrectProcessesNeverPart : Type 0
CorrectProcessesNeverPart = (S : Setting) → Fair S → (from : State) → Beginning S from → KeepsPromise S from
