-- What is asked of an entry as such: its kind, and whether its body is whole.
use Rattle.std.specs.Prelude.{ℕ, ◌+◌, Bool, false, cond, not, List, [], ◌∷◌, length, is_some, Some, None, Option, ◌==◌, nat_le}
use Rattle.protocol.specs.declared.refusal.Layer.TheVariants.{Sheet}
use Rattle.protocol.specs.Refusals.{Question, ask}
use Rattle.sheet.specs.declared.kind.Kind.{Kind}
use Rattle.sheet.specs.Bytes.{byte}
use Rattle.sheet.specs.Kinds.{kind_of, body_length, is_header}

-- a known kind of header
abbrev pub begins_sheet : Option Kind → Bool
begins_sheet None = false
begins_sheet (Some k) = is_header k

-- where an entry of that kind at p ends
abbrev pub end_of : ℕ → Option Kind → ℕ
end_of p None = p + 1
end_of p (Some k) = p + 1 + body_length k

-- the entry at p lies within the sheet
abbrev pub whole : List ℕ → ℕ → Option Kind → Bool
whole bs p k = nat_le (end_of p k) (length bs)

-- the first entry has to be a header, and a later one must not; its kind has to be known, and its body whole
abbrev pub entry_questions : List ℕ → ℕ → List Question
entry_questions bs p =
    cond (p == 0) (ask 21 Sheet (begins_sheet (kind_of (byte bs p)))) (ask 22 Sheet (not (begins_sheet (kind_of (byte bs p)))))
    ∷ ask 23 Sheet (is_some (kind_of (byte bs p)))
    ∷ ask 24 Sheet (whole bs p (kind_of (byte bs p)))
    ∷ []
