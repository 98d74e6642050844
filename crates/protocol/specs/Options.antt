-- Things that may be absent.
use Rattle.std.specs.Prelude.{Bool, true, false, Some, None, Option}

-- nothing is there
abbrev pub absent : {A : Type 0} → Option A → Bool
absent (Some x) = false
absent None = true

-- the first of two that there is
abbrev pub first_of : {A : Type 0} → Option A → Option A → Option A
first_of (Some x) o = Some x
first_of None o = o
