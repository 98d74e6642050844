-- A bag is seen as the row of its waiting messages, and so keeps the laws of a wire.
use Rattle.std.proofs.Common.{◌≡◌, ℕ, suc, ◌+◌, ◌-◌, ◌%◌, ◌<◌, ◌≤◌, min, List, [], ◌∷◌, ◌++◌, map, length, get_or, take, drop, set, sym, refl, ap, ◌∙◌, mod-lt, arith}
use Rattle.std.proofs.lemmas.List.{length-set, length-map, length-take-le, take_more_set, take-map, drop-map, get_or-take, get_or-map, map_push, map-append}
use Rattle.protocol.specs.Wires.{WireLaws, Seen, waiting, free}
use Rattle.protocol.proofs.Seeing.{laws_seen}
use Rattle.wire.specs.declared.bag.Bag.{Bag}
use Rattle.wire.specs.Messages.{code_of, message_with}
use Rattle.wire.specs.PlainWires.{Row, place_in, plain_bag}
use Rattle.wire.specs.Bags.{room, held, place, moved_down, bag_kind, row, ListsCodes}
use Rattle.wire.proofs.Coding.{code_with}
use Rattle.wire.proofs.Copying.{waiting_in}
use Rattle.wire.proofs.Gaps.{length_moved, moved_front}
use Rattle.wire.proofs.Rows.{plain_bag_laws}

module _ (b : Bag) where
  held_length : length (row b).messages ≡ held b
  held_length = length-take-le (held b) b.messages.now (omega arith)

  -- the number that waits is the one that the bag keeps
  pub held_waiting : waiting (bag_kind.copies b) ≡ held b
  held_waiting = waiting_in (row b).messages ∙ held_length

  pub held_free : free bag_kind b ≡ room b - held b
  held_free = ap (λ (n : ℕ). room b - n) held_waiting

  same_place : (k : ℕ) → place_in (row b).messages k ≡ place b k
  same_place k = ap (λ (n : ℕ). k % n) held_length

  sent : (x : ℕ) → x < 32768 → held b < room b → row (bag_kind.send x b) ≡ plain_bag.send x (row b)
  sent x l r =
      let long : room (bag_kind.send x b) ≡ room b = ap (min 65535) (length-set b.messages.now (held b) (message_with x)) in
      let more : held (bag_kind.send x b) ≡ held b + 1 = omega arith in
      let ms = ap (λ n. take n (set b.messages.now (held b) (message_with x))) more
      ∙ take_more_set b.messages.now (held b) (message_with x) (omega arith) in
      λ i. record { messages = ms i; places = long i }

  taken : (k : ℕ) → 0 < held b → row (bag_kind.rest b k) ≡ plain_bag.rest (row b) k
  taken k l =
      let p : place b k < held b = mod-lt k l in
      let long : room (bag_kind.rest b k) ≡ room b =
      ap (min 65535) (length_moved b.messages.now (place b k) (held b - 1) (omega arith) (omega arith)) in
      let less : held (bag_kind.rest b k) ≡ held b - 1 = omega arith in
      let ms = ap (λ n. take n (moved_down b.messages.now (place b k) (held b - 1))) less
      ∙ moved_front b.messages.now (place b k) (held b) p (omega arith)
      ∙ sym (ap (λ n. take n (row b).messages ++ drop (suc n) (row b).messages) (same_place k)) in
      λ i. record { messages = ms i; places = long i }

  picked : (k : ℕ) → 0 < held b → bag_kind.pick b k ≡ plain_bag.pick (row b) k
  picked k l =
      let p : place b k < held b = mod-lt k l in
      ap code_of
      (sym
      (ap (λ n. get_or (row b).messages n (message_with 0)) (same_place k)
      ∙ get_or-take (held b) b.messages.now (place b k) (message_with 0) p))

pub bag_seen : Seen bag_kind plain_bag row
bag_seen = record {
  copies = λ b. refl;
  places = λ b. refl;
  sends = λ x b l r. sent b x l (let e = held_free b in omega arith);
  picks = λ b k l. picked b k (let e = held_waiting b in omega arith);
  takes = λ b k l. taken b k (let e = held_waiting b in omega arith);
}

pub bag_laws : WireLaws bag_kind
bag_laws = laws_seen bag_kind plain_bag row bag_seen plain_bag_laws

-- the codes of a row after a send and a take
module _ (w : Row) where
  abbrev numbers : List ℕ
  numbers = map code_of w.messages

  sent_codes : (x : ℕ) → x < 32768 → map code_of (plain_bag.send x w).messages ≡ numbers ++ x ∷ []
  sent_codes x l =
      map_push code_of w.messages (message_with x) ∙ ap (λ (y : ℕ). numbers ++ y ∷ []) (code_with x l)

  same_index : (k : ℕ) → place_in w.messages k ≡ k % length numbers
  same_index k = ap (λ (n : ℕ). k % n) (sym (length-map w.messages code_of))

  picked_code : (k : ℕ) → 1 ≤ length w.messages → plain_bag.pick w k ≡ get_or numbers (k % length numbers) 0
  picked_code k l =
      sym (get_or-map code_of w.messages (place_in w.messages k) (message_with 0) 0 (mod-lt k l))
      ∙ ap (λ (i : ℕ). get_or numbers i 0) (same_index k)

  taken_codes :
      (k : ℕ)
      → map code_of (plain_bag.rest w k).messages ≡ take (k % length numbers) numbers ++ drop (suc (k % length numbers)) numbers
  taken_codes k =
      let i = place_in w.messages k in
      map-append code_of (take i w.messages) (drop (suc i) w.messages)
      ∙ (ap (λ (ys : List ℕ). ys ++ map code_of (drop (suc i) w.messages)) (sym (take-map code_of i w.messages))
      ∙ (ap (λ (ys : List ℕ). take i numbers ++ ys) (sym (drop-map code_of (suc i) w.messages))
      ∙ ap (λ (j : ℕ). take j numbers ++ drop (suc j) numbers) (same_index k)))

pub lists_codes : ListsCodes
lists_codes = record {
  sends = λ x b l r. ap (λ (w : Row). map code_of w.messages) (bag_seen.sends x b l r) ∙ sent_codes (row b) x l;
  picks = λ b k l. bag_seen.picks b k l ∙ picked_code (row b) k (let e = waiting_in (row b).messages in omega arith);
  takes = λ b k l. ap (λ (w : Row). map code_of w.messages) (bag_seen.takes b k l) ∙ taken_codes (row b) k;
}
