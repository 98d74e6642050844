-- The two kinds of wire as plain values: a list of messages, and a count for each code.
use Rattle.std.specs.Prelude.{ℕ, zero, suc, ◌-◌, ◌%◌, cond, List, [], ◌∷◌, ◌++◌, length, take, drop, Some, None, Option, nat_le, slice_index_or}
use Rattle.protocol.specs.Options.{first_of}
use Rattle.protocol.specs.Wires.{Wire, Pool, pool, one_more}
use Rattle.wire.specs.declared.message.Message.{Message}
use Rattle.wire.specs.Messages.{code_of, message_with}

-- what a bag holds: the messages that wait, the oldest first, and its places
pub record Row : Type 0 where
  pub messages : List Message
  pub places : ℕ

-- how many of some messages have a code
abbrev pub copies_in : List Message → ℕ → ℕ
copies_in [] y = 0
copies_in (m ∷ ms) y = one_more (code_of m) (copies_in ms) y

-- the place of the message that a take with k removes, counted from the oldest
abbrev pub place_in : List Message → ℕ → ℕ
place_in ms k = k % length ms

-- the bag: a send adds a message at the end, and a take removes the one at k mod (number waiting)
abbrev pub plain_bag : Wire Row
plain_bag = record {
  copies = λ w. copies_in w.messages;
  places = λ w. w.places;
  send = λ x w. record { messages = w.messages ++ message_with x ∷ []; places = w.places };
  pick = λ w k. code_of (slice_index_or w.messages (place_in w.messages k) (message_with 0));
  rest = λ w k. record {
    messages = take (place_in w.messages k) w.messages ++ drop (suc (place_in w.messages k)) w.messages;
    places = w.places;
  };
}

-- the smallest of the n codes from x on of which a copy waits
unfoldable pub smallest : (ℕ → ℕ) → ℕ → ℕ → Option ℕ
smallest copies zero x = None
smallest copies (suc n) x = cond (nat_le 1 (copies x)) (Some x) (smallest copies n (suc x))

-- the smallest waiting code that is at least k mod 32,768, or the smallest of all
abbrev pub chosen : (ℕ → ℕ) → ℕ → Option ℕ
chosen copies k = first_of (smallest copies (32768 - k % 32768) (k % 32768)) (smallest copies 32768 0)

-- a code, or 0 where there is none
abbrev pub or_zero : Option ℕ → ℕ
or_zero (Some x) = x
or_zero None = 0

-- the count wire: it is nothing but its meaning, and takes the chosen code
abbrev pub plain_counts : Wire Pool
plain_counts = record {
  copies = λ w. w.copies;
  places = λ w. w.places;
  send = λ x w. (pool 0).send x w;
  pick = λ w k. or_zero (chosen w.copies k);
  rest = λ w k. (pool (or_zero (chosen w.copies k))).rest w k;
}
