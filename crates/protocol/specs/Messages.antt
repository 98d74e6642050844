-- Messages, and the numbers that they are written as.
use Rattle.std.specs.Prelude.{ℕ, suc, pred, ◌+◌, ◌*◌, ◌/◌, ◌%◌, ◌<◌, ◌≤◌, cond, Some, None, Option, ◌==◌}
use Rattle.protocol.specs.declared.value.Value.TheVariants.{Hold, Release}
use Rattle.protocol.specs.declared.value.Values.TheVariants.{Only, Both}
use Rattle.protocol.specs.declared.payload.Payload.{Payload}
use Rattle.protocol.specs.declared.payload.Payload.TheVariants.{Est, Aux}
use Rattle.protocol.specs.Values.{value_number, values_number}

-- a message in numbers, as they come
pub record Message : Type 0 where
  pub sender : ℕ
  pub receiver : ℕ
  pub kind : ℕ
  pub round : ℕ
  pub content : ℕ

-- the code of a message
unfoldable pub code : Message → ℕ
code m = m.sender * 2048 + m.receiver * 128 + m.kind * 64 + pred m.round * 4 + m.content

-- the message with a code
abbrev pub message_of : ℕ → Message
message_of x = record {
  sender = x / 2048;
  receiver = x / 128 % 16;
  kind = x / 64 % 2;
  round = suc (x / 4 % 16);
  content = x % 4;
}

-- kind 0 is EST and 1 is AUX
abbrev pub payload_kind : Payload → ℕ
payload_kind (Est v) = 0
payload_kind (Aux c) = 1

-- the content is a value, or a set of values
abbrev pub payload_content : Payload → ℕ
payload_content (Est v) = value_number v
payload_content (Aux c) = values_number c

-- what a message of a kind and a content says, if it is EST with 0 or 1, or AUX with 1, 2 or 3
abbrev pub payload_of : ℕ → ℕ → Option Payload
payload_of k c =
    cond (k == 0) (cond (c == 0) (Some (Est Hold)) (cond (c == 1) (Some (Est Release)) None))
    (cond (k == 1)
    (cond (c == 1) (Some (Aux (Only Hold)))
    (cond (c == 2) (Some (Aux (Only Release))) (cond (c == 3) (Some (Aux Both)) None)))
    None)

-- the message from one process to another that says p for a round
abbrev pub message : ℕ → ℕ → ℕ → Payload → Message
message s d r p = record { sender = s; receiver = d; kind = payload_kind p; round = r; content = payload_content p }

-- the numbers of a message are small enough to be written as a code
pub record Writable (m : Message) : Type 0 where
  pub sender : m.sender < 16
  pub receiver : m.receiver < 16
  pub kind : m.kind < 2
  pub first : 1 ≤ m.round
  pub last : m.round ≤ 16
  pub content : m.content < 4
