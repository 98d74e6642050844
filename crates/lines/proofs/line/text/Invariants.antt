use Rattle.std.proofs.Common.{◌≡◌, ◌++◌, drop, string_bytes}
use Rattle.lines.specs.Lines.{lines_text}
use Rattle.lines.proofs.line.text.Given as goal

-- what is written and what is left are the whole
abbrev pub invariant-loop-line : goal.invariant-loop-line
invariant-loop-line l = string_bytes l.out ++ lines_text (drop l.line-index l.lines) ≡ lines_text l.lines
