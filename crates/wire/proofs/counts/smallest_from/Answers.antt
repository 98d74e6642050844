use Rattle.std.proofs.Common.{◌≡◌, ◌+◌, ◌<◌, ◌≤◌, drop, ◌∙◌, arith, rules, tests}
use Rattle.std.proofs.lemmas.Iterator.{IsFirst-from_position, YieldsList-from_slice}
use Rattle.std.proofs.lemmas.List.{length-drop, take_all}
use Rattle.std.specs.Option.{option_map}
use Rattle.wire.proofs.Seeking.{first_smallest}
use Rattle.wire.proofs.counts.smallest_from.Goals as goal

pub returns : goal.returns
returns c =
    let xs = c.args.counts.now in
    let x = c.args.from in
    let long = length-drop x xs in
    let maps : c.map.result ≡ option_map (λ i. x + i) c.position.result = search rules in
    first_smallest xs x (omega arith) (omega arith) c.position.result c.map.result
    (IsFirst-from_position _ _ _ (λ y. 1 ≤ y) (λ y. y < 1) c.position.ensures.ran
    (YieldsList-from_slice (drop x xs) (c.iter.ensures.rest ∙ take_all _ (drop x xs) (omega arith)))
    (λ y q k. search (rules, tests)) (λ y q k. search (rules, tests)))
    maps
