-- The listing of a sheet.
use Rattle.std.specs.Prelude.{ℕ, cond, List, [], ◌∷◌, length, Some, None, Option, nat_le}
use Rattle.protocol.specs.declared.refusal.Layer.TheVariants.{Sheet}
use Rattle.protocol.specs.declared.refusal.Refusal.{Refusal}
use Rattle.protocol.specs.Refusals.{Question, ask, first_no}
use Rattle.lines.specs.declared.line.Line.{Line}
use Rattle.lines.specs.declared.line.Line.TheVariants.{Done, Fault, End}
use Rattle.sheet.specs.Bytes.{byte}
use Rattle.sheet.specs.Headers.{header_at, header_questions}
use Rattle.sheet.specs.Kinds.{kind_of}
use Rattle.sheet.specs.Entries.{entry_questions, end_of}

-- a refusal at p is one line, and nothing follows it
abbrev pub faulted : ℕ → Option Refusal → List Line → List Line
faulted p None ls = ls
faulted p (Some r) ls = Fault p r ∷ []

-- the lines, if every question is answered yes; else one line with the place p and the first no
abbrev pub unless : ℕ → List Question → List Line → List Line
unless p qs ls = faulted p (first_no qs) ls

-- the lines, if the sheet is short enough and its header is good
abbrev pub admitted : List ℕ → List Line → List Line
admitted bs ls =
    unless 32768 (ask 20 Sheet (nat_le (length bs) 32768) ∷ [])
    (unless 0 (entry_questions bs 0) (unless 0 (header_questions (header_at bs)) ls))

-- the lines from p on: an entry that is not refused is of a kind that is not carried out yet, and nothing is said of it
abbrev pub later : List ℕ → ℕ → List Line
later bs p = cond (nat_le (length bs) p) (End (length bs) ∷ []) (unless p (entry_questions bs p) [])

-- a good header has its line
abbrev pub listing : List ℕ → List Line
listing bs = admitted bs (Done (byte bs 0) 0 ∷ later bs (end_of 0 (kind_of (byte bs 0))))
