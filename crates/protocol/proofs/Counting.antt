-- Only the processes that there are count.
use Rattle.std.proofs.Common.{◌≡◌, Bool, true, false, sym, refl, ◌∙◌}
use Rattle.protocol.specs.Sets.{Within}
use Rattle.protocol.specs.Facts.{Facts}
use Rattle.protocol.specs.Laws.{Parts, Growth, IgnoresOthers}

-- two tests are the same if each follows from the other
same_test : (x y : Bool) → (x ≡ true → y ≡ true) → (y ≡ true → x ≡ true) → x ≡ y
same_test true y f g = sym (f refl)
same_test false true f g = g refl
same_test false false f g = refl

pub ignores_others : (f : Facts) → Parts f → Growth f → IgnoresOthers f
ignores_others f parts growth a b same =
    let there : Within f.n a b = λ i l e. sym (same i l) ∙ e in
    let back : Within f.n b a = λ i l e. same i l ∙ e in (
      same_test (f.tolerable a) (f.tolerable b) (parts.1 b a back) (parts.1 a b there),
      same_test (f.believed a) (f.believed b) (growth.0 a b there) (growth.0 b a back),
      same_test (f.accepted a) (f.accepted b) (growth.1 a b there) (growth.1 b a back),
      same_test (f.closing a) (f.closing b) (growth.2 a b there) (growth.2 b a back),
    )
