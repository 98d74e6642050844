-- The lines of a listing, and their text.
use Rattle.std.specs.Prelude.{ℕ, List, [], ◌∷◌, ◌++◌, Ok, Err, codes, decimal, Result}
use Rattle.std.proofs.Math.Utf8.{encode}
use Rattle.sheet.specs.declared.fault.PlacedFault.{PlacedFault}
use Rattle.sheet.specs.Faults.{refusal_of}
use Rattle.protocol.specs.Refusals.{refusal_text}
use Rattle.lines.specs.declared.line.Line.{Line}
use Rattle.lines.specs.declared.line.Line.TheVariants.{Done, Fault, End}

-- the line with which a fault ends a listing
abbrev pub fault_line : PlacedFault → Line
fault_line e = Fault e.place (refusal_of e.fault)

-- the lines that follow an answer: one line for a fault, and else those that are to come
abbrev pub either_lines : {A : Type 0} → Result A PlacedFault → List Line → List Line
either_lines (Ok x) ls = ls
either_lines (Err e) ls = fault_line e ∷ []

-- one line, without its end
abbrev pub line_text : Line → List ℕ
line_text (Done k p) = encode k ++ (codes " " ++ (decimal p ++ codes " ok"))
line_text (Fault p r) = codes "fault " ++ (decimal p ++ (codes " " ++ refusal_text r))
line_text (End n) = codes "end " ++ decimal n

-- the lines one after another, each with its end
abbrev pub lines_text : List Line → List ℕ
lines_text [] = []
lines_text (x ∷ xs) = line_text x ++ (10 ∷ lines_text xs)
