-- The codes of messages.
use Rattle.std.proofs.Common.{◌≡◌, ℕ, zero, suc, ◌%◌, ◌<◌, refl, ap, ◌∙◌, mod-eq_of_lt, arith}
use std.HLevel.{prop→path_p}
use denote.Struct.Props.{props}
use Rattle.protocol.specs.Messages.{code, message_of, Writable}
use Rattle.protocol.proofs.Codes.{code_of_message, code_below}
use Rattle.wire.specs.declared.message.Message.{Message, ranges-type}
use Rattle.wire.specs.declared.message.MessageKind.{MessageKind}
use Rattle.wire.specs.declared.message.MessageKind.TheVariants.{Est, Aux}
use Rattle.wire.specs.Messages.{number_of_kind, kind_with, in_numbers, code_of, message_with}

kind_below : (k : MessageKind) → number_of_kind k < 2
kind_below Est = omega arith
kind_below Aux = omega arith

-- the number of the kind with a number
number_back : (n : ℕ) → n < 2 → number_of_kind (kind_with n) ≡ n
number_back zero l = refl
number_back (suc zero) l = refl
number_back (suc (suc n)) l = absurd (omega arith)

-- the numbers of a message are in range
pub in_range : (m : Message) → Writable (in_numbers m)
in_range m = record {
  sender = m.ranges.0.0;
  receiver = m.ranges.0.1;
  kind = kind_below m.kind;
  first = m.ranges.1.0;
  last = m.ranges.1.1;
  content = m.ranges.2;
}

-- so its code is below 32,768
pub code_low : (m : Message) → code_of m < 32768
code_low m = code_below (in_numbers m) (in_range m)

-- messages that say the same are the same
pub same_message :
    (m n : Message) → m.sender ≡ n.sender → m.receiver ≡ n.receiver → m.kind ≡ n.kind → m.round ≡ n.round
    → m.content ≡ n.content → m ≡ n
same_message m n s d k r c = λ i. record {
  sender = s i;
  receiver = d i;
  kind = k i;
  round = r i;
  content = c i;
  ranges = prop→path_p (λ j. ranges-type (s j) (d j) (k j) (r j) (c j)) (hlevel props) m.ranges n.ranges i;
}

-- the code of the message with a code
pub code_with : (x : ℕ) → x < 32768 → code_of (message_with x) ≡ x
code_with x l =
    let n = message_of (x % 32768) in
    let k = number_back n.kind (omega arith) in
    ap
    (λ (i : ℕ).
    code record { sender = n.sender; receiver = n.receiver; kind = i; round = n.round; content = n.content })
    k
    ∙ code_of_message (x % 32768) ∙ mod-eq_of_lt l
