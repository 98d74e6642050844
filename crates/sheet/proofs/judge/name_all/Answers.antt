use Rattle.std.proofs.Common.{◌≡◌, Err, sym, ap, ◌∙◌, rules}
use Rattle.protocol.specs.Refusals.{told, leaves}
use Rattle.protocol.specs.Sets.{Set}
use Rattle.roll.specs.Refused.{refusal_of, name_questions}
use Rattle.roll.specs.declared.rolls.Open.{Open}
use Rattle.roll.specs.declared.rolls.Roll.{Roll}
use Rattle.roll.specs.Views.{terms, named}
use Rattle.sheet.proofs.Naming.{none_named, passed_over, named_more, named_beyond}
use Rattle.sheet.proofs.judge.name_all.Goals as goal
use Rattle.sheet.proofs.judge.name_all.Goals.{then-contains+in_ok-name, else-contains}

pub loop-process-init : goal.loop-process-init
loop-process-init c = none_named (terms c.args.roll.now) c.args.faulty c.requires

pub loop-process-preserved : goal.loop-process-preserved
loop-process-preserved c =
    let i = c.loop-process.process in
    let r = terms c.args.roll.now in
    let f = c.args.faulty in
    let now = terms c.loop-process.roll in
    let set = ap (λ (s : Set). s i) c.from_bits-members.ensures.members in
    elim c.if-contains.branch [
      | then-contains+in_ok-name w ↦ (
          let told = w.in_ok-name.ensures in
          let next : terms c.if-contains.roll ≡ leaves (name_questions now i) now (named now i) = ap (λ (x : Roll Open). terms x) w.roll-is ∙ told.after in
          named_more r f i now c.loop-process.invariant.0 c.loop-process.invariant.1 (sym (w.if-contains.ensures ∙ set))
          (terms c.if-contains.roll) told.answer next)
      | else-contains w ↦ (
          let next : terms c.if-contains.roll ≡ now = ap (λ (x : Roll Open). terms x) w.roll-is in
          let p = passed_over r f i now c.loop-process.invariant.0 c.loop-process.invariant.1 (sym (w.if-contains.ensures ∙ set)) in
          (next ∙ p.0, p.1))
    ]

pub returns-in_err-name-clause-answer : goal.returns-in_err-name-clause-answer
returns-in_err-name-clause-answer c =
    let i = c.loop-process.process in
    let fault = c.in_err-name.field-0.0 in
    let set = ap (λ (s : Set). s i) c.from_bits-members.ensures.members in
    let came : c.from_residual.result ≡ Err fault = search rules in
    ap (told (λ x. x) refusal_of) came
    ∙ named_beyond (terms c.args.roll.now) c.args.faulty i (terms c.loop-process.roll) c.loop-process.invariant.0
    c.loop-process.invariant.1 (sym (c.if-contains.ensures ∙ set)) c.loop-process-test.true (refusal_of fault)
    c.in_err-name.ensures.answer
