-- When a call on a wire is refused, and the numbers that a wire answers.
use Rattle.std.specs.Prelude.{ℕ, min, List, [], ◌∷◌, nat_le, nat_lt}
use Rattle.protocol.specs.declared.refusal.Layer.TheVariants as layer
use Rattle.protocol.specs.declared.refusal.Refusal.{Refusal}
use Rattle.protocol.specs.Refusals.{Question, ask}
use Rattle.wire.specs.declared.fault.WireFault.{WireFault}
use Rattle.wire.specs.declared.fault.WireFault.TheVariants as fault

-- what sending a code asks, where so many places are free
abbrev pub send_questions : ℕ → ℕ → List Question
send_questions x room = ask 19 layer.Wire (nat_lt x 32768) ∷ ask 9 layer.Wire (nat_le 1 room) ∷ []

-- what taking asks, where so many messages wait
abbrev pub take_questions : ℕ → List Question
take_questions waits = ask 10 layer.Wire (nat_le 1 waits) ∷ []

-- the number and the layer of each fault
abbrev pub refusal_of : WireFault → Refusal
refusal_of fault.Code = record { number = 19; layer = layer.Wire }
refusal_of fault.Full = record { number = 9; layer = layer.Wire }
refusal_of fault.Empty = record { number = 10; layer = layer.Wire }

-- a number as a wire answers it: any above 65,535 as 65,535
abbrev pub capped : ℕ → ℕ
capped n = min 65535 n
