use Rattle.std.proofs.Common.{◌≡◌, Err, sym, ap, ◌∙◌, arith, rules}
use Rattle.protocol.specs.Wires.{waiting}
use Rattle.wire.specs.declared.fault.WireFault.TheVariants.{Empty}
use Rattle.wire.specs.PlainWires.{or_zero}
use Rattle.wire.specs.CountWires.{counts_of}
use Rattle.wire.proofs.Asking.{may_take, empty}
use Rattle.wire.proofs.Counting.{chosen_counted, count_waits}
use Rattle.wire.proofs.Seeking.{chosen_none, chosen_waits}
use Rattle.wire.proofs.counts.CountWireWire.take.Goals as goal

-- where no code is chosen, nothing waits
pub returns-in_err-code : goal.returns-in_err-code
returns-in_err-code c =
    let w = c.args.self.now in
    let none = sym c.chosen.ensures ∙ c.in_err-code.ensures.ok_part in
    let is : c.from_residual.result ≡ Err Empty = search rules in
    let no = empty (waiting (counts_of w)) (chosen_none (counts_of w) c.args.k none) in
    record { answer = rw (is, no); after = rw no }

pub bounds-self-from : goal.bounds-self-from
bounds-self-from c =
    (chosen_counted c.args.self.now c.args.k c.in_ok-code.code c.from.result (sym c.chosen.ensures ∙ c.in_ok-code.ensures.ok_part)
    c.from.ensures).0

pub overflow_sub-self : goal.overflow_sub-self
overflow_sub-self c =
    let l = chosen_counted c.args.self.now c.args.k c.in_ok-code.code c.from.result (sym c.chosen.ensures ∙ c.in_ok-code.ensures.ok_part)
    c.from.ensures in
    let one = l.1 in
    omega arith

pub bounds-self-from-2 : goal.bounds-self-from-2
bounds-self-from-2 c =
    (chosen_counted c.args.self.now c.args.k c.in_ok-code.code c.from.result (sym c.chosen.ensures ∙ c.in_ok-code.ensures.ok_part)
    c.from.ensures).0

pub returns : goal.returns
returns c =
    let w = c.args.self.now in
    let is = sym c.chosen.ensures ∙ c.in_ok-code.ensures.ok_part in
    let t = chosen_waits (counts_of w) c.args.k c.in_ok-code.code is in
    let l = t.1 in
    let m = count_waits (counts_of w) 32768 c.in_ok-code.code t.0 in
    let yes = may_take (waiting (counts_of w)) (omega arith) in
    let e = ap or_zero is in
    record { answer = rw (yes, e); after = rw yes (search rules) }
