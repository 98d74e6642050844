-- The seven laws that every franchise keeps. The faulty processes are any tolerable set.
use Rattle.std.specs.Prelude.{◌≡◌, ℕ, ◌<◌, true, false, ◌⊎◌}
use Rattle.protocol.specs.Sets.{Set, empty, less, all_less, Within}
use Rattle.protocol.specs.Facts.{Facts}

-- the empty set and each part of a tolerable set are tolerable
abbrev pub Parts : Facts → Type 0
Parts f =
    (f.tolerable empty ≡ true)
    × ((a b : Set) → Within f.n a b → f.tolerable b ≡ true → f.tolerable a ≡ true)

-- a larger set keeps each yes to believed, accepted and closing
abbrev pub Growth : Facts → Type 0
Growth f =
    ((a b : Set) → Within f.n a b → f.believed a ≡ true → f.believed b ≡ true)
    × ((a b : Set) → Within f.n a b → f.accepted a ≡ true → f.accepted b ≡ true)
    × ((a b : Set) → Within f.n a b → f.closing a ≡ true → f.closing b ≡ true)

-- a believed set has a process that is not faulty
abbrev pub Outside : Facts → Type 0
Outside f =
    (a faulty : Set) → f.tolerable faulty ≡ true → f.believed a ≡ true
    → (i : ℕ) × (i < f.n) × (a i ≡ true) × (faulty i ≡ false)

-- an accepted set, less the faulty processes, is believed
abbrev pub Remains : Facts → Type 0
Remains f = (a faulty : Set) → f.tolerable faulty ≡ true → f.accepted a ≡ true → f.believed (less a faulty) ≡ true

-- all processes but the faulty are accepted, and closing
abbrev pub Others : Facts → Type 0
Others f =
    (faulty : Set) → f.tolerable faulty ≡ true
    → (f.accepted (all_less faulty) ≡ true) × (f.closing (all_less faulty) ≡ true)

-- two closing sets share a process that is not faulty
abbrev pub Shared : Facts → Type 0
Shared f =
    (a b faulty : Set) → f.tolerable faulty ≡ true → f.closing a ≡ true → f.closing b ≡ true
    → (i : ℕ) × (i < f.n) × (a i ≡ true) × (b i ≡ true) × (faulty i ≡ false)

-- if all processes but the faulty are cut in two, into those in a and those not in a, one part is believed
abbrev pub Halves : Facts → Type 0
Halves f =
    (a faulty : Set) → f.tolerable faulty ≡ true
    → (f.believed (less a faulty) ≡ true) ⊎ (f.believed (less (all_less a) faulty) ≡ true)

-- all seven
pub record Laws (f : Facts) : Type 0 where
  pub parts : Parts f
  pub growth : Growth f
  pub outside : Outside f
  pub remains : Remains f
  pub others : Others f
  pub shared : Shared f
  pub halves : Halves f

-- what follows from them: only members below n count
abbrev pub IgnoresOthers : Facts → Type 0
IgnoresOthers f =
    (a b : Set) → ((i : ℕ) → i < f.n → a i ≡ b i)
    → (f.tolerable a ≡ f.tolerable b) × (f.believed a ≡ f.believed b)
    × (f.accepted a ≡ f.accepted b) × (f.closing a ≡ f.closing b)
