use Rattle.std.proofs.Common.{◌^◌, ◌<◌, false, rules}
use Rattle.protocol.specs.Sets.{bits}
use Rattle.franchise.proofs.Making.{made_at}
use Rattle.franchise.proofs.Marking.{bits_marks}
use Rattle.franchise.proofs.members.Members.from_bits.Goals as goal

pub returns : goal.returns
returns c =
    let small : c.args.bits < 2 ^ 16 = search rules in
    let made = c.from_fn.ensures.items in
    record {
      members = bits_marks c.args.bits c.from_fn.result small made.long
          (λ k h. made_at _ (bits c.args.bits) _ c.from_fn.result 16 (λ i y q l e. search rules) made k h false);
    }
