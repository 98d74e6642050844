use Rattle.std.proofs.Common.{◌+◌, ◌*◌, rules}
use Rattle.std.proofs.lemmas.List.FromFn.{fill_by_all}
use Rattle.sheet.specs.Bytes.{word, words}
use Rattle.sheet.proofs.header.votes_of.Goals as goal

pub returns : goal.returns
unfolding words
returns c =
    let bs = c.args.header.now.sheet.now in
    let p = c.args.header.now.place in
    fill_by_all (λ i. word bs (p + 8 + 2 * i)) c.from_fn.result 16 0 c.from_fn.ensures.items.long
    (λ k h. let at = c.from_fn.ensures.items.at k 0 h in search rules)
