use Rattle.std.proofs.Common.{◌≡◌, ◌++◌, length, take, ap, sym, refl, ◌∙◌, rules, arith}
use Rattle.std.specs.List.{sum}
use Rattle.std.proofs.lemmas.List.{take_at}
use Rattle.franchise.specs.Weights.{whole, listed}
use Rattle.franchise.proofs.Counting.{sum_whole}
use Rattle.franchise.proofs.table.Table.new.Goals as goal

pub invariant_of-result : goal.invariant_of-result
invariant_of-result c =
    let vs = c.args.votes.now in
    let e : c.sum.result ≡ sum vs = search rules in
    let copied = c.copy_from_slice.new.self in
    let front : take (length vs) (copied ++ _) ≡ vs = rw c.copy_from_slice.ensures.after (take_at vs _ _ refl) in
    record {
      few = omega arith;
      sum = e ∙ sum_whole vs ∙ ap (λ ys. whole (listed ys) (length vs)) (sym front);
    }
