-- When a call on a roll is refused.
use Rattle.std.specs.Prelude.{ℕ, List, [], ◌∷◌, nat_lt}
use Rattle.protocol.specs.declared.refusal.Layer.TheVariants as layer
use Rattle.protocol.specs.declared.refusal.Refusal.{Refusal}
use Rattle.protocol.specs.Refusals.{Question, ask, in_range}
use Rattle.roll.specs.Views.{Terms}
use Rattle.roll.specs.declared.fault.RollFault.{RollFault}
use Rattle.roll.specs.declared.fault.RollFault.TheVariants as fault

-- what opening a roll asks
abbrev pub open_questions : ℕ → ℕ → List Question
open_questions n R = ask 11 layer.Roll (in_range n) ∷ ask 12 layer.Roll (in_range R) ∷ []

-- what naming a process asks
abbrev pub name_questions : Terms → ℕ → List Question
name_questions r i = ask 2 layer.Roll (nat_lt i r.size) ∷ []

-- the number and the layer of each fault
abbrev pub refusal_of : RollFault → Refusal
refusal_of fault.Process = record { number = 2; layer = layer.Roll }
refusal_of fault.Size = record { number = 11; layer = layer.Roll }
refusal_of fault.Rounds = record { number = 12; layer = layer.Roll }
