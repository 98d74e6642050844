use Rattle.std.proofs.Common.{◌≡◌, [], ◌∷◌, length, Some, Ok, Err, sym, ap, ◌∙◌, rules}
use Rattle.std.proofs.lemmas.Bool.{le-leb}
use Rattle.protocol.specs.Refusals.{answer}
use Rattle.sheet.specs.Entries.{entry_questions}
use Rattle.sheet.specs.Faults.{refusal_of}
use Rattle.sheet.specs.Headers.{header_questions, first_entry, known_kind}
use Rattle.lines.specs.declared.line.Line.TheVariants.{Fault}
use Rattle.lines.specs.Lines.{either_lines}
use Rattle.lines.proofs.Admitting.{kind_is, header_granted, header_refused}
use Rattle.lines.proofs.listing.admit.Goals as goal

pub returns-in_err-placed-clause-lines : goal.returns-in_err-placed-clause-lines
returns-in_err-placed-clause-lines c =
    let bs = c.args.sheet.now in
    let h = c.in_ok-header.header in
    let e = c.in_err-placed.field-0.0 in
    let short = le-leb (length bs) 32768 c.if-sheet-gt-LONGEST.false in
    let read : Ok (known_kind h) ≡ answer (entry_questions bs 0) (first_entry bs) = search rules in
    let judged : Err (refusal_of e.fault) ≡ answer (header_questions h) (tt {0}) = search rules in
    let place : e.place ≡ 0 = search rules in
    let came : c.from_residual-in_err-placed.result ≡ Err e = search rules in
    λ ls.
    ap (λ r. either_lines r ls) came ∙ ap (λ p. Fault p (refusal_of e.fault) ∷ []) place
    ∙ header_refused bs h read short (refusal_of e.fault) judged ls

pub returns : goal.returns
returns c =
    let bs = c.args.sheet.now in
    let h = c.in_ok-header.header in
    let short = le-leb (length bs) 32768 c.if-sheet-gt-LONGEST.false in
    let read : Ok (known_kind h) ≡ answer (entry_questions bs 0) (first_entry bs) = search rules in
    let judged : Ok (tt {0}) ≡ answer (header_questions h) (tt {0}) = search rules in
    record { lines = header_granted bs h read short judged; kind = kind_is bs h read ∙ ap Some (sym c.kind.ensures) }
