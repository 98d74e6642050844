use Rattle.std.proofs.Common.{◌≡◌, true, is_ok, ◌++◌, Ok, Result, sym, ap, ◌∙◌, rules}
use Rattle.protocol.specs.declared.refusal.Refusal.{Refusal}
use Rattle.protocol.specs.Refusals.{answer, first_no, granted}
use Rattle.protocol.specs.Sets.{bits}
use Rattle.protocol.proofs.Asking.{then_asked, granted_none}
use Rattle.roll.specs.Views.{Terms, terms}
use Rattle.sheet.specs.declared.header.Header.{Header}
use Rattle.sheet.specs.Headers.{roll_questions, roll_at, franchise_questions, header_questions}
use Rattle.sheet.proofs.header.Header.judge.Goals as goal

-- once the roll is made, the franchise's questions are left
rest_judged :
    (h : Header) (r : Terms) (a : Result (Unit {0}) Refusal) → is_ok h.wire ≡ true → Ok r ≡ answer (roll_questions h) (roll_at h)
    → a ≡ answer (franchise_questions r.size h.ballot (bits r.faulty)) (tt {0}) → a ≡ answer (header_questions h) (tt {0})
rest_judged h r a wire rolled answered =
    let p = granted_none (first_no (roll_questions h)) (roll_at h) r rolled in
    let rest = franchise_questions h.size h.ballot (bits h.faulty) in
    let asked : first_no (header_questions h) ≡ first_no (roll_questions h ++ rest) = rw wire in
    answered ∙ ap (λ (x : Terms). answer (franchise_questions x.size h.ballot (bits x.faulty)) (tt {0})) p.1
    ∙ sym (ap (granted (tt {0})) (asked ∙ then_asked (roll_questions h) rest p.0))

pub returns : goal.returns
returns c =
    rest_judged c.args.self.now (terms c.in_ok-roll.roll) _ (search rules) c.in_ok-roll.ensures c.judge-judged.ensures
