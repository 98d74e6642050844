-- Refusals, and the questions that give them.
use Rattle.std.specs.Prelude.{ℕ, Bool, cond, ◌&&◌, List, [], ◌∷◌, ◌++◌, Some, None, Ok, Err, codes, decimal, Option, Result, nat_le}
use Rattle.protocol.specs.declared.refusal.Layer.{Layer}
use Rattle.protocol.specs.declared.refusal.Layer.TheVariants as layer
use Rattle.protocol.specs.declared.refusal.Refusal.{Refusal}

-- a question that a call asks before it does anything, and the refusal that a no gives
pub record Question : Type 0 where
  pub refusal : Refusal
  pub holds : Bool

-- a question by the number and the layer of its refusal
abbrev pub ask : ℕ → Layer → Bool → Question
ask q l b = record { refusal = record { number = q; layer = l }; holds = b }

-- a number of processes, or of rounds, from 1 to 16
abbrev pub in_range : ℕ → Bool
in_range n = nat_le 1 n && nat_le n 16

-- questions are asked in order, and the first no is the refusal
abbrev pub first_no : List Question → Option Refusal
first_no [] = None
first_no (q ∷ qs) = cond q.holds (first_no qs) (Some q.refusal)

-- x, unless there is a refusal
abbrev pub granted : {A : Type 0} → A → Option Refusal → Result A Refusal
granted x None = Ok x
granted x (Some r) = Err r

-- the answer of a call: the first no, or x
abbrev pub answer : {A : Type 0} → List Question → A → Result A Refusal
answer qs x = granted x (first_no qs)

-- what is there after a call, unless there is a refusal
abbrev pub changed : {A : Type 0} → A → A → Option Refusal → A
changed before after None = after
changed before after (Some r) = before

-- what a call leaves: a refusal changes nothing
abbrev pub leaves : {A : Type 0} → List Question → A → A → A
leaves qs before after = changed before after (first_no qs)

-- an answer of the code: what its value means, or the refusal that its fault is
abbrev pub told : {A B E : Type 0} → (A → B) → (E → Refusal) → Result A E → Result B Refusal
told meaning refusal_of (Ok x) = Ok (meaning x)
told meaning refusal_of (Err e) = Err (refusal_of e)

-- a layer as it is printed
abbrev pub layer_text : Layer → List ℕ
layer_text layer.Wire = codes "wire"
layer_text layer.Franchise = codes "franchise"
layer_text layer.Roll = codes "roll"
layer_text layer.Run = codes "run"
layer_text layer.Sheet = codes "sheet"

-- a refusal as it is printed: its number and its layer
abbrev pub refusal_text : Refusal → List ℕ
refusal_text r = decimal r.number ++ (codes " " ++ layer_text r.layer)
