use Rattle.std.proofs.Common.{◌≡◌, ℕ, ◌<◌, ◌||◌, false, length, get_or, ap, arith, rules}
use Rattle.franchise.proofs.Making.{made_at}
use Rattle.franchise.proofs.Marking.{either_list, either_set}
use Rattle.franchise.proofs.members.Members.union.Goals as goal

pub returns : goal.returns
returns c =
    let xs = c.args.self.now.marks in
    let ys = c.args.other.now.marks in
    let zs = c.from_fn.result in
    let len : length xs ≡ 16 = search rules in
    let lem : length ys ≡ 16 = search rules in
    let made = c.from_fn.ensures.items in
    let long = made.long in
    let marks : (i : ℕ) → i < length zs → get_or zs i false ≡ (get_or xs i false || get_or ys i false) =
    λ i l. made_at _ (λ k. get_or xs k false || get_or ys k false) _ zs 16 (λ k y q m e. search rules) made i (omega arith) false in
    record {
      value = ap (λ m. record { marks = m }) (either_list xs ys zs (omega arith) (omega arith) marks);
      members = either_set xs ys zs (omega arith) (omega arith) marks;
    }
