use Rattle.std.proofs.Common.{◌≡◌, true, length, sym, ap, arith, rules}
use Rattle.std.proofs.lemmas.List.{set_past}
use Rattle.std.proofs.lemmas.Bool.{cond-false, le-ltb}
use Rattle.franchise.proofs.members.Members.insert.Goals as goal

pub returns-else-process-lt16 : goal.returns-else-process-lt16
returns-else-process-lt16 c =
    let xs = c.args.self.now.marks in
    let len : length xs ≡ 16 = search rules in
    record {
      value = ap (λ m. record { marks = m }) (sym (set_past xs c.args.process true (omega arith)));
      members = sym (cond-false _ _ _ (le-ltb c.args.process 16 c.if-process-lt16.false));
    }
