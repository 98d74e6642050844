-- An array whose elements a closure made, one for each index.
use Rattle.std.proofs.Common.{◌≡◌, ℕ, zero, suc, ◌+◌, ◌<◌, ◌≤◌, List, get_or, refl, ap, sym, subst, ◌∙◌, inl, inr, arith}
use Rattle.std.specs.Fn.{Called}
use Rattle.std.specs.Array.{IsFromFnResult, IsFromFnResultFrom}
use Rattle.std.proofs.lemmas.Bool.{cases_eq}
use denote.Param.Members.{Mut}

-- each call of the closure f gives what h gives, and leaves f as it was
module _
    {F B : Type 0} (g : Mut F (ℕ × Unit {0}) B) (h : ℕ → B) (f : F) (ys : List B) (n : ℕ)
    (same : (i : ℕ) (y : B) (q : F) → i < n → Called g f (i, tt) y q → (y ≡ h i) × (q ≡ f)) where
  made_from :
      (k i : ℕ) (p : F) → p ≡ f → i + k ≤ n → IsFromFnResultFrom g p ys i k
      → (j : ℕ) → i ≤ j → j < i + k → (d : B) → get_or ys j d ≡ h j
  made_from zero i p e l calls j m o d = absurd (omega arith)
  made_from (suc k) i p e l calls j m o d =
      let one = same i calls.1 calls.0 (omega arith) (subst (λ s. Called g s (i, tt) calls.1 calls.0) e calls.3) in
      elim (cases_eq j i) [
        | inl here ↦ ap (λ x. get_or ys x d) here ∙ calls.2.1 d ∙ one.0 ∙ ap h (sym here)
        | inr later ↦ made_from k (i + 1) calls.0 one.1 (omega arith) calls.4 j (omega arith) (omega arith) d
      ]

  pub made_at : IsFromFnResult g f ys n → (j : ℕ) → j < n → (d : B) → get_or ys j d ≡ h j
  made_at made j l d = made_from n 0 f refl (omega arith) made.each j (omega arith) (omega arith) d
