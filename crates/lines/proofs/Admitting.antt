-- The lines that follow once a header is read and judged, and the line of an entry that is refused.
use Rattle.std.proofs.Common.{◌≡◌, ℕ, true, false, leb, List, [], ◌∷◌, length, Some, None, Ok, Err, Option, sym, ap, ◌∙◌}
use Rattle.protocol.specs.declared.refusal.Refusal.{Refusal}
use Rattle.protocol.specs.Refusals.{answer, first_no}
use Rattle.protocol.proofs.Asking.{granted_none, refused_some}
use Rattle.sheet.specs.declared.header.Header.{Header}
use Rattle.sheet.specs.declared.kind.Kind.{Kind}
use Rattle.lines.specs.declared.line.Line.{Line}
use Rattle.lines.specs.declared.line.Line.TheVariants.{Fault}
use Rattle.sheet.specs.Bytes.{byte}
use Rattle.sheet.specs.Headers.{header_at, header_questions, first_entry, known_kind, kind_by}
use Rattle.sheet.specs.Kinds.{kind_of}
use Rattle.lines.specs.Listing.{unless, faulted, admitted, later}
use Rattle.sheet.specs.Entries.{entry_questions}

-- the sheet begins with the header h
module _ (bs : List ℕ) (h : Header) (read : Ok (known_kind h) ≡ answer (entry_questions bs 0) (first_entry bs)) where
  asked : (first_no (entry_questions bs 0) ≡ None) × (known_kind h ≡ first_entry bs)
  asked = granted_none (first_no (entry_questions bs 0)) (first_entry bs) (known_kind h) read

  pub kind_is : kind_of (byte bs 0) ≡ Some (kind_by h.ballot)
  kind_is = sym (ap (λ (x : Option Kind × Header). x.0) asked.1)

  judged :
      leb (length bs) 32768 ≡ true → (o : Option Refusal) → first_no (header_questions h) ≡ o → (ls : List Line)
      → faulted 0 o ls ≡ admitted bs ls
  judged short o e ls =
      let is_header : h ≡ header_at bs = ap (λ (x : Option Kind × Header). x.1) asked.1 in
      ap (λ o. faulted 0 o ls) (sym e) ∙ ap (λ (x : Header). unless 0 (header_questions x) ls) is_header ∙ sym (rw (short, asked.0))

  pub header_granted :
      leb (length bs) 32768 ≡ true → Ok (tt {0}) ≡ answer (header_questions h) (tt {0}) → (ls : List Line) → ls ≡ admitted bs ls
  header_granted short e = judged short _ (granted_none (first_no (header_questions h)) (tt {0}) (tt {0}) e).0

  pub header_refused :
      leb (length bs) 32768 ≡ true → (r : Refusal) → Err r ≡ answer (header_questions h) (tt {0}) → (ls : List Line)
      → Fault 0 r ∷ [] ≡ admitted bs ls
  header_refused short r e = judged short (Some r) (refused_some (first_no (header_questions h)) (tt {0}) r e)

pub entry_refused :
    (bs : List ℕ) (p : ℕ) (r : Refusal) → leb (length bs) p ≡ false
    → Err r ≡ answer (entry_questions bs p) (kind_of (byte bs p)) → Fault p r ∷ [] ≡ later bs p
entry_refused bs p r within e =
    rw within (ap (λ o. faulted p o []) (sym (refused_some (first_no (entry_questions bs p)) (kind_of (byte bs p)) r e)))
