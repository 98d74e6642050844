-- The kinds of entries, their letters, and how long their bodies are.
use Rattle.std.specs.Prelude.{ℕ, Bool, true, false, cond, Some, None, codes, Option, ◌==◌, slice_index}
use Prim.Native.String.{String}
use Rattle.sheet.specs.declared.kind.Kind.{Kind}
use Rattle.sheet.specs.declared.kind.Kind.TheVariants.{Heads, Votes, Propose, Step, Plant, Deliver, Standing}

-- the character k is the letter
abbrev pub is : String → ℕ → Bool
is letter k = k == slice_index (codes letter) 0

-- the kind that a letter stands for
abbrev pub kind_of : ℕ → Option Kind
kind_of k =
    cond (is "H" k) (Some Heads)
    (cond (is "W" k) (Some Votes)
    (cond (is "P" k) (Some Propose)
    (cond (is "S" k) (Some Step)
    (cond (is "F" k) (Some Plant)
    (cond (is "D" k) (Some Deliver)
    (cond (is "Q" k) (Some Standing) None))))))

-- how many bytes follow the letter
abbrev pub body_length : Kind → ℕ
body_length Heads = 6
body_length Votes = 39
body_length Propose = 2
body_length Step = 1
body_length Plant = 5
body_length Deliver = 2
body_length Standing = 1

-- a header is of one of two kinds
abbrev pub is_header : Kind → Bool
is_header Heads = true
is_header Votes = true
is_header Propose = false
is_header Step = false
is_header Plant = false
is_header Deliver = false
is_header Standing = false
