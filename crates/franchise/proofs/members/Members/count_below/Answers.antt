use Rattle.std.proofs.Common.{◌≡◌, sym, ap, ◌∙◌, arith}
use Rattle.franchise.specs.Arithmetic.{weight_yes, weight_no}
use Rattle.franchise.specs.Marks.{set_of}
use Rattle.franchise.specs.Weights.{weight, one_each}
use Rattle.franchise.proofs.Counting.{one_vote_each}
use Rattle.franchise.proofs.members.Members.count_below.Goals as goal
use Rattle.franchise.proofs.members.Members.count_below.Goals.{then-contains, else-contains}

pub loop-process-preserved : goal.loop-process-preserved
loop-process-preserved c =
    let s = set_of c.args.self.now in
    let i = c.loop-process.process in
    elim c.if-contains.branch [
      | then-contains w ↦ (let more = weight_yes one_each s i (sym w.if-contains.ensures) in (omega arith, omega arith))
      | else-contains w ↦ (let same = weight_no one_each s i (sym w.if-contains.ensures) in (omega arith, omega arith))
    ]

pub returns : goal.returns
returns c =
    let s = set_of c.args.self.now in
    let all : c.loop-process.process ≡ c.args.end = omega arith in
    c.loop-process.invariant.1 ∙ ap (weight one_each s) all ∙ sym (one_vote_each s c.args.end)
