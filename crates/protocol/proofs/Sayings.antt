-- What is marked as sent, and who is noted, after one more.
use Rattle.std.proofs.Common.{◌≡◌, ℕ, Bool, true, cond, ◌&&◌, eqb, ◌⊎◌, sym, refl, subst, inl, inr}
use Rattle.std.proofs.lemmas.Bool.{eqb-true, eq-eqb, and_parts, and_from, or_cases, or_left, or_right, cond_both}
use Rattle.protocol.specs.declared.payload.Payload.{Payload}
use Rattle.protocol.specs.Sets.{Set, joined}
use Rattle.protocol.specs.Messages.{payload_kind, payload_content}
use Rattle.protocol.specs.Processes.{same_saying, marked, heard}
use Rattle.protocol.proofs.Codes.{same_payload}

pub same_itself : (r : ℕ) (p : Payload) → same_saying r p r p ≡ true
same_itself r p =
    and_from (eqb r r) _ (eq-eqb r r refl)
    (and_from (eqb (payload_kind p) (payload_kind p)) _ (eq-eqb _ _ refl) (eq-eqb (payload_content p) _ refl))

pub same_parts : (r : ℕ) (p : Payload) (q : ℕ) (o : Payload) → same_saying r p q o ≡ true → (r ≡ q) × (p ≡ o)
same_parts r p q o e =
    let t = and_parts (eqb r q) (eqb (payload_kind p) (payload_kind o) && eqb (payload_content p) (payload_content o)) e in
    let u = and_parts (eqb (payload_kind p) (payload_kind o)) (eqb (payload_content p) (payload_content o)) t.1 in
    (eqb-true r q t.0, same_payload p o (eqb-true _ _ u.0) (eqb-true _ _ u.1))

module _ (r : ℕ) (p : Payload) (g : ℕ → Payload → Bool) where
  pub marked_old : (q : ℕ) (o : Payload) → g q o ≡ true → marked r p g q o ≡ true
  unfolding marked
  marked_old q o e = or_right (same_saying r p q o) (g q o) e

  pub marked_new : marked r p g r p ≡ true
  unfolding marked
  marked_new = or_left (same_saying r p r p) (g r p) (same_itself r p)

  pub marked_cases : (q : ℕ) (o : Payload) → marked r p g q o ≡ true → (g q o ≡ true) ⊎ ((r ≡ q) × (p ≡ o))
  unfolding marked
  marked_cases q o e = go (or_cases (same_saying r p q o) (g q o) e)
    where
      go : (same_saying r p q o ≡ true) ⊎ (g q o ≡ true) → (g q o ≡ true) ⊎ ((r ≡ q) × (p ≡ o))
      go (inl t) = inr (same_parts r p q o t)
      go (inr t) = inl t

module _ (r : ℕ) (p : Payload) (s : ℕ) (g : ℕ → Payload → Set) where
  pub heard_old : (q : ℕ) (o : Payload) (t : ℕ) → g q o t ≡ true → heard r p s g q o t ≡ true
  unfolding heard
  heard_old q o t e =
      cond_both (same_saying r p q o) (joined (g q o) s) (g q o) (λ m. m t ≡ true) (λ _. or_right (eqb s t) (g q o t) e) (λ _. e)

  pub heard_new : heard r p s g r p s ≡ true
  unfolding heard
  heard_new =
      subst (λ (b : Bool). cond b (joined (g r p) s) (g r p) s ≡ true) (sym (same_itself r p))
      (or_left (eqb s s) (g r p s) (eq-eqb s s refl))

  pub heard_cases :
      (q : ℕ) (o : Payload) (t : ℕ) → heard r p s g q o t ≡ true → (g q o t ≡ true) ⊎ ((r ≡ q) × (p ≡ o) × (s ≡ t))
  unfolding heard
  heard_cases q o t =
      cond_both (same_saying r p q o) (joined (g q o) s) (g q o)
      (λ m. m t ≡ true → (g q o t ≡ true) ⊎ ((r ≡ q) × (p ≡ o) × (s ≡ t)))
      (λ e k. join (same_parts r p q o e) (or_cases (eqb s t) (g q o t) k)) (λ _. inl)
    where
      join : (r ≡ q) × (p ≡ o) → (eqb s t ≡ true) ⊎ (g q o t ≡ true) → (g q o t ≡ true) ⊎ ((r ≡ q) × (p ≡ o) × (s ≡ t))
      join u (inl k) = inr (u.0, u.1, eqb-true s t k)
      join u (inr k) = inl k
