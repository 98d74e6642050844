-- Messages of the code, and their codes.
use Rattle.std.specs.Prelude.{ℕ, ◌%◌, cond, ◌==◌}
use Rattle.std.proofs.Common.{arith}
use Rattle.protocol.specs.Messages.{Message as Numbers, code, message_of}
use Rattle.wire.specs.declared.message.Message.{Message}
use Rattle.wire.specs.declared.message.MessageKind.{MessageKind}
use Rattle.wire.specs.declared.message.MessageKind.TheVariants.{Est, Aux}

-- the number of a kind
abbrev pub number_of_kind : MessageKind → ℕ
number_of_kind Est = 0
number_of_kind Aux = 1

-- the kind with a number
abbrev pub kind_with : ℕ → MessageKind
kind_with k = cond (k == 0) Est Aux

-- a message in plain numbers
abbrev pub in_numbers : Message → Numbers
in_numbers m = record { sender = m.sender; receiver = m.receiver; kind = number_of_kind m.kind; round = m.round; content = m.content }

-- its code
abbrev pub code_of : Message → ℕ
code_of m = code (in_numbers m)

-- the message with a code; a number from 32,768 on counts from 0 again
abbrev pub message_with : ℕ → Message
message_with x = record {
  sender = (message_of (x % 32768)).sender;
  receiver = (message_of (x % 32768)).receiver;
  kind = kind_with (message_of (x % 32768)).kind;
  round = (message_of (x % 32768)).round;
  content = (message_of (x % 32768)).content;
  ranges = ((omega arith, omega arith), (omega arith, omega arith), omega arith);
}
