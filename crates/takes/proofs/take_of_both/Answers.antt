use Rattle.std.proofs.Common.{◌≡◌, Err, rules}
use Rattle.takes.proofs.Sending.{none, one, both}
use Rattle.takes.proofs.take_of_both.Goals as goal

pub returns-in_err-send : goal.returns-in_err-send
returns-in_err-send g c =
    let f = c.in_err-send.field-0.0 in
    let is : c.from_residual.result ≡ Err f = search rules in
    let t =
    none g.W.Wire.kind c.keeps_laws.ensures c.args.wire.now c.args.k c.send.result c.from_residual.result
    c.send.new.self f record { answer = c.send.ensures.answer; after = c.send.ensures.after }
    c.in_err-send.was is in
    record { answer = t.answer; after = t.after }

pub returns-in_err-send-2 : goal.returns-in_err-send-2
returns-in_err-send-2 g c =
    let f = c.in_err-send-2.field-0.0 in
    let is : c.from_residual-in_err-send-2.result ≡ Err f = search rules in
    let t =
    one g.W.Wire.kind c.keeps_laws.ensures c.args.wire.now c.args.k c.send.result c.send-2.result
    c.from_residual-in_err-send-2.result c.send.new.self c.send-2.new.self c.in_ok-send.field-0 f
    record { answer = c.send.ensures.answer; after = c.send.ensures.after } c.in_ok-send.was
    record { answer = c.send-2.ensures.answer; after = c.send-2.ensures.after } c.in_err-send-2.was is in
    record { answer = t.answer; after = t.after }

pub returns : goal.returns
returns g c =
    let t =
    both g.W.Wire.kind c.keeps_laws.ensures c.args.wire.now c.args.k c.send.result c.send-2.result
    c.take.result c.send.new.self c.send-2.new.self c.take.new.self c.in_ok-send.field-0
    c.in_ok-send-2.field-0 record { answer = c.send.ensures.answer; after = c.send.ensures.after }
    c.in_ok-send.was record { answer = c.send-2.ensures.answer; after = c.send-2.ensures.after }
    c.in_ok-send-2.was record { answer = c.take.ensures.answer; after = c.take.ensures.after } in
    record { answer = t.answer; after = t.after }
