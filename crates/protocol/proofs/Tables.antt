-- Tables with one entry changed, and copies that come and go.
use Rattle.std.proofs.Common.{◌≡◌, ℕ, zero, suc, ◌-◌, ◌<◌, ◌≤◌, eqb, ◌≢◌, ◌⊎◌, refl, ap, ◌∙◌, subst, inl, inr, arith}
use native.Mathlib.Decide.{ℕ_discrete}
use Rattle.std.proofs.lemmas.Bool.{eqb-true, eqb-false, eq-eqb, cond_both}
use Rattle.protocol.specs.declared.payload.Payload.{Payload}
use Rattle.protocol.specs.Messages.{code, message}
use Rattle.protocol.specs.Wires.{Pool, pool, one_more, one_less}
use Rattle.protocol.specs.Settings.{Setting}
use Rattle.protocol.specs.Play.{put, sent_to}

-- what holds of the new entry at i, and of the others, holds at j
pub put_elim :
    {A : Type 0} (P : A → Type 0) (i j : ℕ) (a : A) (g : ℕ → A) → (i ≡ j → P a) → (i ≢ j → P (g j)) → P (put i a g j)
unfolding put
put_elim P i j a g p q = cond_both (eqb i j) a (g j) P (λ e. p (eqb-true i j e)) (λ e. q (eqb-false i j e))

-- a field that the new entry keeps is kept everywhere
pub put_field :
    {A B : Type 0} (φ : A → B) (i j : ℕ) (a : A) (g : ℕ → A) → φ a ≡ φ (g i) → φ (put i a g j) ≡ φ (g j)
put_field φ i j a g e =
    put_elim (λ x. φ x ≡ φ (g j)) i j a g (λ k. e ∙ ap (λ (u : ℕ). φ (g u)) k) (λ _. refl)

pub more_old : (x : ℕ) (g : ℕ → ℕ) (y : ℕ) → 1 ≤ g y → 1 ≤ one_more x g y
unfolding one_more
more_old x g y l = cond_both (eqb x y) (suc (g y)) (g y) (λ n. 1 ≤ n) (λ _. omega arith) (λ _. l)

pub more_new : (x : ℕ) (g : ℕ → ℕ) → 1 ≤ one_more x g x
unfolding one_more
more_new x g = rw (eq-eqb x x refl) (omega arith)

pub more_cases : (x : ℕ) (g : ℕ → ℕ) (y : ℕ) → 1 ≤ one_more x g y → (1 ≤ g y) ⊎ (x ≡ y)
unfolding one_more
more_cases x g y =
    cond_both (eqb x y) (suc (g y)) (g y) (λ n. 1 ≤ n → (1 ≤ g y) ⊎ (x ≡ y)) (λ e l. inr (eqb-true x y e)) (λ e l. inl l)

pub less_old : (x : ℕ) (g : ℕ → ℕ) (y : ℕ) → 1 ≤ one_less x g y → 1 ≤ g y
unfolding one_less
less_old x g y = cond_both (eqb x y) (g y - 1) (g y) (λ n. 1 ≤ n → 1 ≤ g y) (λ _ l. omega arith) (λ _ l. l)

pub less_cases : (x : ℕ) (g : ℕ → ℕ) (y : ℕ) → 1 ≤ g y → (1 ≤ one_less x g y) ⊎ (x ≡ y)
unfolding one_less
less_cases x g y l = cond_both (eqb x y) (g y - 1) (g y) (λ n. (1 ≤ n) ⊎ (x ≡ y)) (λ e. inr (eqb-true x y e)) (λ e. inl l)

-- after process i said p for round r to the processes below d
module _ (x : ℕ) (S : Setting) (i r : ℕ) (p : Payload) (w : Pool) where
  -- the copies that wait then
  abbrev pub copies_to : ℕ → ℕ → ℕ
  copies_to d = (sent_to (pool x) S i r p d w).copies

  pub all_old : (d y : ℕ) → 1 ≤ w.copies y → 1 ≤ copies_to d y
  unfolding sent_to
  all_old zero y l = l
  all_old (suc d) y l = more_old (code (message i d r p)) (copies_to d) y (all_old d y l)

  pub all_new : (d e : ℕ) → e < d → 1 ≤ copies_to d (code (message i e r p))
  unfolding sent_to
  all_new zero e l = absurd (omega arith)
  all_new (suc d) e l = go (ℕ_discrete d e) (all_new d e)
    where
      go : Dec (d ≡ e) → (e < d → 1 ≤ copies_to d (code (message i e r p)))
          → 1 ≤ one_more (code (message i d r p)) (copies_to d) (code (message i e r p))
      go (yes q) ih =
          subst (λ (u : ℕ). 1 ≤ one_more (code (message i d r p)) (copies_to d) (code (message i u r p))) q
          (more_new (code (message i d r p)) (copies_to d))
      go (no q) ih = more_old (code (message i d r p)) (copies_to d) (code (message i e r p)) (ih (omega arith))

  pub all_cases :
      (d y : ℕ) → 1 ≤ copies_to d y → (1 ≤ w.copies y) ⊎ ((e : ℕ) × (e < d) × (code (message i e r p) ≡ y))
  unfolding sent_to
  all_cases zero y l = inl l
  all_cases (suc d) y l = go (more_cases (code (message i d r p)) (copies_to d) y l) (all_cases d y)
    where
      wider : (1 ≤ w.copies y) ⊎ ((e : ℕ) × (e < d) × (code (message i e r p) ≡ y))
          → (1 ≤ w.copies y) ⊎ ((e : ℕ) × (e < suc d) × (code (message i e r p) ≡ y))
      wider (inl a) = inl a
      wider (inr t) = inr (t.0, (let b = t.1 in omega arith), t.2)

      go : (1 ≤ copies_to d y) ⊎ (code (message i d r p) ≡ y)
          → (1 ≤ copies_to d y → (1 ≤ w.copies y) ⊎ ((e : ℕ) × (e < d) × (code (message i e r p) ≡ y)))
          → (1 ≤ w.copies y) ⊎ ((e : ℕ) × (e < suc d) × (code (message i e r p) ≡ y))
      go (inr q) ih = inr (d, omega arith, q)
      go (inl m) ih = wider (ih m)
