-- Bags: the list that is lent to a bag, and what its calls leave there.
use Rattle.std.specs.Prelude.{◌≡◌, ℕ, suc, ◌+◌, ◌-◌, ◌%◌, ◌<◌, ◌≤◌, min, List, [], ◌∷◌, ◌++◌, map, length, take, drop, slice_index, slice_index_or, slice_set}
use denote.Ref.{MutBor, at_last}
use Rattle.protocol.specs.Wires.{Wire, waiting, free}
use Rattle.wire.specs.declared.bag.Bag.{Bag}
use Rattle.wire.specs.declared.message.Message.{Message}
use Rattle.wire.specs.Messages.{code_of, message_with}
use Rattle.wire.specs.PlainWires.{Row, copies_in}

-- a bag over a list, in which no message waits
abbrev pub empty_bag : MutBor (List Message) → Bag
empty_bag list = record { messages = list; waiting = 0 }

-- how many messages there is room for: the length of the list, and at most 65,535
abbrev pub room : Bag → ℕ
room b = min 65535 (length b.messages.now)

-- how many messages wait: no more than there is room for
abbrev pub held : Bag → ℕ
held b = min b.waiting (room b)

-- a bag whose list now has these messages, of which the first n wait
abbrev pub rewritten : Bag → List Message → ℕ → Bag
rewritten b ms n = record { messages = at_last b.messages ms; waiting = n }

-- the place of the message that a take with k removes, counted from the oldest
abbrev pub place : Bag → ℕ → ℕ
place b k = k % held b

-- the list with the element at i gone, and those after it up to the one at last a place lower; from last on it is as it was
abbrev pub moved_down : {A : Type 0} → List A → ℕ → ℕ → List A
moved_down xs i last = (take i xs ++ take (last - i) (drop (suc i) xs)) ++ drop last xs

-- a bag as a wire, by its list
abbrev pub bag_kind : Wire Bag
bag_kind = record {
  copies = λ b. copies_in (take (held b) b.messages.now);
  places = room;
  send = λ x b. rewritten b (slice_set b.messages.now (held b) (message_with x)) (held b + 1);
  pick = λ b k. code_of (slice_index_or b.messages.now (place b k) (message_with 0));
  rest = λ b k. rewritten b (moved_down b.messages.now (place b k) (held b - 1)) (held b - 1);
}

-- what a bag holds
abbrev pub row : Bag → Row
row b = record { messages = take (held b) b.messages.now; places = room b }

-- the codes that wait, the oldest first
abbrev pub codes : Bag → List ℕ
codes b = map code_of (row b).messages

-- a bag is the list of the codes that wait: a send adds one at the end, a take removes the one at k mod (number waiting)
pub record ListsCodes : Type 0 where
  pub sends : (x : ℕ) (b : Bag) → x < 32768 → 1 ≤ free bag_kind b → codes (bag_kind.send x b) ≡ codes b ++ x ∷ []
  pub picks :
      (b : Bag) (k : ℕ) → 1 ≤ waiting (bag_kind.copies b) → bag_kind.pick b k ≡ slice_index (codes b) (k % length (codes b))
  pub takes :
      (b : Bag) (k : ℕ) → 1 ≤ waiting (bag_kind.copies b)
      → codes (bag_kind.rest b k) ≡ take (k % length (codes b)) (codes b) ++ drop (suc (k % length (codes b))) (codes b)
