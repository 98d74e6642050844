-- The count wire as counts keeps the laws of a wire.
use Rattle.std.proofs.Common.{refl}
use Rattle.protocol.specs.Wires.{WireLaws}
use Rattle.wire.specs.PlainWires.{plain_counts}
use Rattle.wire.proofs.Seeking.{chosen_waits, chosen_some}

pub plain_counts_laws : WireLaws plain_counts
plain_counts_laws = record {
  sends = λ x w l r y m. refl;
  send_keeps = λ x w l r. refl;
  picks = λ w k l. chosen_waits w.copies k (plain_counts.pick w k) (chosen_some w.copies k l);
  takes = λ w k l y m. refl;
  take_keeps = λ w k l. refl;
}
