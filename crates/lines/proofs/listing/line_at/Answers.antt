use Rattle.std.proofs.Common.{◌≡◌, false, leb, [], ◌∷◌, length, Err, ap, ◌∙◌, rules}
use Rattle.protocol.specs.Refusals.{answer}
use Rattle.sheet.specs.Bytes.{byte}
use Rattle.sheet.specs.Entries.{entry_questions}
use Rattle.sheet.specs.Faults.{refusal_of}
use Rattle.sheet.specs.Kinds.{kind_of}
use Rattle.lines.specs.declared.line.Line.TheVariants.{Fault}
use Rattle.lines.proofs.Admitting.{entry_refused}
use Rattle.lines.proofs.listing.line_at.Goals as goal

pub returns : goal.returns
returns c =
    let bs = c.args.sheet.now in
    let p = c.args.place in
    let e = c.in_ok-fault.fault in
    let within : leb (length bs) p ≡ false = search rules in
    let refused : Err (refusal_of e.fault) ≡ answer (entry_questions bs p) (kind_of (byte bs p)) = search rules in
    let place : e.place ≡ p = search rules in
    ap (λ l. l ∷ []) (c.from.ensures ∙ ap (λ p. Fault p (refusal_of e.fault)) place) ∙ entry_refused bs p (refusal_of e.fault) within refused
