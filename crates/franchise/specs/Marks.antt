-- The set that a `Members` holds.
use Rattle.std.specs.Prelude.{ℕ, Bool, true, false, ◌||◌, List, [], ◌∷◌, replicate, slice_index_or, slice_set}
use Rattle.protocol.specs.Sets.{Set}
use Rattle.franchise.specs.declared.members.Members.{Members}

-- process i is marked; there is no mark from 16 on
abbrev pub set_of : Members → Set
set_of m i = slice_index_or m.marks i false

-- no mark is set
abbrev pub nobody : Members
nobody = record { marks = replicate 16 false }

-- one mark more, if there is one for p
abbrev pub with_mark : Members → ℕ → Members
with_mark m p = record { marks = slice_set m.marks p true }

-- two lists of marks, mark by mark
abbrev pub either_mark : List Bool → List Bool → List Bool
either_mark [] ys = []
either_mark (x ∷ xs) [] = []
either_mark (x ∷ xs) (y ∷ ys) = (x || y) ∷ either_mark xs ys

-- the marks of both
abbrev pub united : Members → Members → Members
united a b = record { marks = either_mark a.marks b.marks }
