-- The worked examples: what each says, when it holds, and the list of all.
use Rattle.std.specs.Prelude.{◌≡◌, ℕ, Bool, true, false, cond, ◌||◌, List, [], ◌∷◌, Some, None, Ok, Err, Option, Result, ◌==◌}
use Rattle.protocol.specs.declared.refusal.Layer.{Layer}
use Rattle.protocol.specs.declared.refusal.Layer.TheVariants.{Franchise}
use Rattle.protocol.specs.declared.refusal.Refusal.{Refusal}
use Rattle.protocol.specs.declared.value.Value.{Value}
use Rattle.protocol.specs.declared.value.Value.TheVariants.{Hold, Release}
use Rattle.protocol.specs.declared.value.Values.{Values}
use Rattle.protocol.specs.declared.value.Values.TheVariants.{Only, Both}
use Rattle.protocol.specs.declared.payload.Payload.{Payload}
use Rattle.protocol.specs.declared.payload.Payload.TheVariants.{Est, Aux}
use Rattle.protocol.specs.declared.outcome.Outcome.{Outcome}
use Rattle.protocol.specs.declared.outcome.Outcome.TheVariants.{Close, Idle}
use Rattle.protocol.specs.Refusals.{answer}
use Rattle.protocol.specs.Sets.{Set, empty}
use Rattle.protocol.specs.Facts.{Facts}
use Rattle.protocol.specs.Values.{has}
use Rattle.protocol.specs.Messages.{code, message}
use Rattle.protocol.specs.Processes.{Process}
use Rattle.protocol.specs.Steps.{outcome}
use Rattle.protocol.specs.Outcomes.{after}
use Rattle.franchise.specs.Polls as poll
use Rattle.franchise.specs.Refused.{heads_questions, votes_questions}

-- a franchise that somebody wants to make
pub data Wanted : Type 0 where
  heads : ℕ → ℕ → Wanted
  votes : List ℕ → ℕ → Wanted

-- the four facts, by name
pub data Fact : Type 0 where
  tolerable believed accepted closing : Fact

-- a process in a round, with this estimate and this bin, that has noted AUX from these senders
pub record Scene : Type 0 where
  pub round : ℕ
  pub estimate : Value
  pub bin : Values
  -- the senders of AUX {0}, of AUX {1} and of AUX {0, 1}
  pub hold : List ℕ
  pub release : List ℕ
  pub both : List ℕ

-- a scene by its parts
abbrev pub scene : ℕ → Value → Values → List ℕ → List ℕ → List ℕ → Scene
scene r e b h l o = record { round = r; estimate = e; bin = b; hold = h; release = l; both = o }

-- what an example says
pub data Example : Type 0 where
  -- the franchise is made
  made : Wanted → Example
  -- the franchise is refused with a number, by a layer
  refused : Wanted → ℕ → Layer → Example
  -- the franchise is made, and this is its answer about the set of the processes in the list
  answers : Wanted → Fact → List ℕ → Bool → Example
  -- a message from one process to another for a round has this code
  coded : ℕ → ℕ → ℕ → Payload → ℕ → Example
  -- what the step of a process does that has nothing to send, and its estimate and decision after it
  steps : Wanted → Scene → Outcome → Value → Option Value → Example

-- what making the franchise answers
abbrev pub result : Wanted → Result poll.Poll Refusal
result (heads n t) = answer (heads_questions n t) (poll.heads n t)
result (votes vs t) = answer (votes_questions vs t) (poll.votes vs t)

-- the set of the processes in a list
abbrev pub among : List ℕ → Set
among [] i = false
among (x ∷ xs) i = i == x || among xs i

-- the answer of a franchise with these facts
abbrev pub says : Fact → Facts → Set → Bool
says tolerable f = f.tolerable
says believed f = f.believed
says accepted f = f.accepted
says closing f = f.closing

-- it is not refused
abbrev pub is_made : Result poll.Poll Refusal → Bool
is_made (Ok p) = true
is_made (Err r) = false

-- the answer about a set, if the franchise is made
abbrev pub answer_about : Fact → Set → Result poll.Poll Refusal → Option Bool
answer_about k s (Ok p) = Some (says k (poll.facts_of p) s)
answer_about k s (Err r) = None

-- whom the process has noted: for its round, all processes with EST for each value of its bin, and AUX as the scene says
abbrev pub noted : Scene → Payload → Set
noted x (Est v) = λ i. has x.bin v
noted x (Aux (Only Hold)) = among x.hold
noted x (Aux (Only Release)) = among x.release
noted x (Aux Both) = among x.both

-- the process of a scene: it has sent all that it could, and decided nothing
abbrev pub process : Scene → Process
process x = record {
  round = x.round;
  estimate = Some x.estimate;
  decision = None;
  sent = λ r p. true;
  noted = λ r p. cond (r == x.round) (noted x p) empty;
}

-- what the step does, and what it leaves, if the franchise is made; there are two rounds
abbrev pub step_of : Scene → Result poll.Poll Refusal → Option Outcome
step_of x (Ok p) = Some (outcome (poll.facts_of p) 2 (process x))
step_of x (Err r) = None

-- what it means that an example holds
abbrev pub Holds : Example → Type 0
Holds (made w) = is_made (result w) ≡ true
Holds (refused w q l) = result w ≡ Err (record { number = q; layer = l })
Holds (answers w k s b) = answer_about k (among s) (result w) ≡ Some b
Holds (coded s d r p x) = code (message s d r p) ≡ x
Holds (steps w x o e d) =
    (step_of x (result w) ≡ Some o) × ((after o (process x)).estimate ≡ Some e) × ((after o (process x)).decision ≡ d)

-- all of them
abbrev pub examples : List Example
examples =
    answers (heads 4 1) believed (0 ∷ 1 ∷ []) true
    ∷ answers (heads 4 1) believed (0 ∷ []) false
    ∷ answers (heads 4 1) accepted (0 ∷ 1 ∷ 2 ∷ []) true
    ∷ answers (heads 4 1) closing (0 ∷ 1 ∷ 2 ∷ []) true
    ∷ answers (heads 4 1) accepted (0 ∷ 1 ∷ []) false
    ∷ answers (heads 4 1) closing (0 ∷ 1 ∷ []) false
    ∷ refused (heads 3 1) 14 Franchise
    ∷ made (heads 1 0)
    ∷ answers (votes (5 ∷ 1 ∷ 1 ∷ 1 ∷ []) 2) accepted (0 ∷ []) true
    ∷ answers (votes (5 ∷ 1 ∷ 1 ∷ 1 ∷ []) 2) closing (0 ∷ 1 ∷ []) true
    ∷ answers (votes (5 ∷ 1 ∷ 1 ∷ 1 ∷ []) 2) tolerable (1 ∷ 2 ∷ []) true
    ∷ answers (votes (5 ∷ 1 ∷ 1 ∷ 1 ∷ []) 2) tolerable (0 ∷ []) false
    ∷ refused (votes (5 ∷ 1 ∷ 1 ∷ 1 ∷ []) 3) 14 Franchise
    ∷ coded 2 0 1 (Est Release) 4097
    ∷ coded 1 3 2 (Aux Both) 2503
    ∷ steps (heads 4 1) (scene 1 Hold (Only Release) [] (0 ∷ 1 ∷ 2 ∷ []) []) (Close 1 (Only Release) true) Release (Some Release)
    ∷ steps (heads 4 1) (scene 1 Release (Only Hold) (0 ∷ 1 ∷ 2 ∷ []) [] []) (Close 1 (Only Hold) false) Hold None
    ∷ steps (heads 4 1) (scene 2 Release (Only Hold) (0 ∷ 1 ∷ 2 ∷ []) [] []) (Close 2 (Only Hold) true) Hold (Some Hold)
    ∷ steps (heads 4 1) (scene 1 Hold Both (0 ∷ 1 ∷ []) (2 ∷ []) []) (Close 1 Both false) Release None
    ∷ steps (heads 4 1) (scene 1 Release Both (0 ∷ 1 ∷ 2 ∷ []) (3 ∷ []) []) (Close 1 (Only Hold) false) Hold None
    ∷ steps (heads 4 1) (scene 1 Hold (Only Release) [] (0 ∷ 1 ∷ []) (2 ∷ [])) Idle Hold None
    ∷ []
