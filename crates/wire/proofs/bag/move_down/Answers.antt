use Rattle.std.proofs.Common.{◌≡◌, ◌+◌, get_or, set, ap, ◌∙◌, arith}
use Rattle.wire.specs.Bags.{moved_down}
use Rattle.wire.proofs.Gaps.{moved_none, moved_more}
use Rattle.wire.proofs.bag.move_down.Goals as goal

pub loop-j-init : goal.loop-j-init
loop-j-init c = moved_none c.args.messages.now c.args.i

pub loop-j-preserved : goal.loop-j-preserved
loop-j-preserved c =
    let xs = c.args.messages.now in
    let j = c.loop-j.j in
    let a = c.index-messages-j.result in
    ap (λ q. set q j a) c.loop-j.invariant
    ∙ moved_more xs c.args.i j a (omega arith) (omega arith)
    (c.index-messages-j.is ∙ ap (λ q. get_or q (j + 1) a) c.loop-j.invariant)

pub returns : goal.returns
returns c =
    let e : c.loop-j.j ≡ c.args.last = omega arith in
    c.loop-j.invariant ∙ ap (moved_down c.args.messages.now c.args.i) e
