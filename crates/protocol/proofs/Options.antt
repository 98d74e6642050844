-- Things that may be absent.
use Rattle.std.proofs.Common.{◌≡◌, Some, None, Option, refl}

pub some_same : {A : Type 0} (x y : A) → Some x ≡ Some y → x ≡ y
some_same x y e = cc

-- what is nothing that is there is absent
pub not_some : {A : Type 0} (o : Option A) → ((x : A) → o ≡ Some x → ⊥) → o ≡ None
not_some (Some x) n = absurd (n x refl)
not_some None n = refl
