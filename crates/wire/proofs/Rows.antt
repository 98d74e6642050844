-- The bag as a list keeps the laws of a wire.
use Rattle.std.proofs.Common.{ℕ, ◌<◌, ◌≤◌, length, get_or, refl, ap, ◌∙◌, mod-lt, arith}
use Rattle.protocol.specs.Wires.{WireLaws, waiting, one_more}
use Rattle.wire.specs.Messages.{message_with}
use Rattle.wire.specs.PlainWires.{Row, copies_in, place_in, plain_bag}
use Rattle.wire.proofs.Coding.{code_low, code_with}
use Rattle.wire.proofs.Copying.{waiting_in, copies_push, copies_at, copies_gone}

-- where a message waits, the place is one of those that wait
there : (w : Row) (k : ℕ) → 1 ≤ waiting (plain_bag.copies w) → place_in w.messages k < length w.messages
there w k l = let e = waiting_in w.messages in mod-lt k (omega arith)

pub plain_bag_laws : WireLaws plain_bag
plain_bag_laws = record {
  sends = λ x w l r y m.
      copies_push w.messages (message_with x) y ∙ ap (λ (u : ℕ). one_more u (copies_in w.messages) y) (code_with x l);
  send_keeps = λ x w l r. refl;
  picks = λ w k l. (
    code_low (get_or w.messages (place_in w.messages k) (message_with 0)),
    copies_at w.messages (place_in w.messages k) (message_with 0) (there w k l),
  );
  takes = λ w k l y m. copies_gone w.messages (place_in w.messages k) y (message_with 0) (there w k l);
  take_keeps = λ w k l. refl;
}
