-- What every history keeps: of one correct process, and of two and the wire.
use Rattle.std.proofs.Common.{◌≡◌, ℕ, suc, ◌<◌, ◌≤◌, Bool, true, ◌⊎◌, List, Some, Ok}
use Rattle.protocol.specs.declared.value.Value.{Value}
use Rattle.protocol.specs.declared.value.Values.{Values}
use Rattle.protocol.specs.declared.value.Values.TheVariants.{Only}
use Rattle.protocol.specs.declared.payload.Payload.{Payload}
use Rattle.protocol.specs.declared.payload.Payload.TheVariants.{Est, Aux}
use Rattle.protocol.specs.declared.outcome.Outcome.TheVariants.{Close}
use Rattle.protocol.specs.Values.{has, favoured}
use Rattle.protocol.specs.Messages.{code, message}
use Rattle.protocol.specs.Processes.{Process}
use Rattle.protocol.specs.Rounds.{in_bin, new_estimate}
use Rattle.protocol.specs.Settings.{Setting, Correct}
use Rattle.protocol.specs.Calls.{step, did}
use Rattle.protocol.specs.Histories.{State, Event, event, Among, Proposed}
use Rattle.protocol.proofs.Closing.{Evidence}

-- process i closed round r with the values c, and d says whether it decided there
abbrev pub Closes : List Event → ℕ → ℕ → Values → Bool → Type 0
Closes h i r c d = Among (event (step i) (Ok (did (Close r c d)))) h

-- process i entered round r with the estimate v: it proposed v, or the round before left it with v
pub data Entered (h : List Event) (i r : ℕ) (v : Value) : Type 0 where
  by_proposal : r ≡ 1 → Proposed h i v → Entered h i r v
  by_closing : (q : ℕ) (c : Values) (d : Bool) → r ≡ suc q → v ≡ new_estimate q c → Closes h i q c d → Entered h i r v

-- some correct process entered round r with the estimate v
pub record Held (S : Setting) (h : List Event) (r : ℕ) (v : Value) : Type 0 where
  pub who : ℕ
  pub correct : Correct S who
  pub entered : Entered h who r v

-- r is a round of the run
pub record Round (S : Setting) (r : ℕ) : Type 0 where
  pub first : 1 ≤ r
  pub last : r ≤ S.rounds

-- of a correct process i with the record x
pub record Own (S : Setting) (h : List Event) (i : ℕ) (x : Process) : Type 0 where
  -- its rounds
  pub entered : 1 ≤ x.round → (v : Value) × (x.estimate ≡ Some v) × Entered h i x.round v
  pub started : (v : Value) → Proposed h i v → 1 ≤ x.round
  pub closed_before : (r : ℕ) (c : Values) (d : Bool) → Closes h i r c d → (1 ≤ r) × (r < x.round)
  pub closed_all : (r : ℕ) → 1 ≤ r → r < x.round → (c : Values) × (d : Bool) × Closes h i r c d
  -- its values and decisions
  pub evidence : (r : ℕ) (c : Values) (d : Bool) → Closes h i r c d → Evidence S.facts x r c
  pub favours : (r : ℕ) (c : Values) → Closes h i r c true → c ≡ Only (favoured r)
  -- what it has sent
  pub in_rounds : (r : ℕ) (p : Payload) → x.sent r p ≡ true → Round S r
  pub est_held : (r : ℕ) (v : Value) → x.sent r (Est v) ≡ true → Held S h r v
  pub aux_once : (r : ℕ) (c d : Values) → x.sent r (Aux c) ≡ true → x.sent r (Aux d) ≡ true → c ≡ d
  pub aux_in_bin :
      (r : ℕ) (c : Values) (v : Value) → x.sent r (Aux c) ≡ true → has c v ≡ true → in_bin S.facts x r v ≡ true
  -- what it has sent for the rounds that it closed
  pub passed_est : (r : ℕ) → 1 ≤ r → r < x.round → (v : Value) × (x.sent r (Est v) ≡ true)
  pub passed_aux : (r : ℕ) → 1 ≤ r → r < x.round → (c : Values) × (x.sent r (Aux c) ≡ true)

-- of a correct sender i with the record x and a correct receiver j with the record y, with these copies waiting
pub record Between (S : Setting) (copies : ℕ → ℕ) (i j : ℕ) (x y : Process) : Type 0 where
  -- what waits was sent
  pub waits : (r : ℕ) (p : Payload) → Round S r → 1 ≤ copies (code (message i j r p)) → x.sent r p ≡ true
  -- what is noted was sent
  pub notes : (r : ℕ) (p : Payload) → y.noted r p i ≡ true → x.sent r p ≡ true
  -- what was sent waits or is noted
  pub comes :
      (r : ℕ) (p : Payload) → x.sent r p ≡ true → (1 ≤ copies (code (message i j r p))) ⊎ (y.noted r p i ≡ true)

pub record Invariant (S : Setting) (h : List Event) (s : State) : Type 0 where
  pub own : (i : ℕ) → Correct S i → Own S h i (s.processes i)
  pub between :
      (i j : ℕ) → Correct S i → Correct S j → Between S s.wire.copies i j (s.processes i) (s.processes j)
