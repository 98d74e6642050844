-- A kind of wire that is seen as one that keeps the laws keeps them too.
use Rattle.std.proofs.Common.{◌≡◌, ℕ, ◌<◌, ◌≤◌, sym, ap, ◌∙◌, subst}
use Rattle.protocol.specs.Wires.{Wire, WireLaws, Seen, waiting, free, one_more, one_less}

module _ {W V : Type 0} (K : Wire W) (P : Wire V) (see : W → V) (S : Seen K P see) where
  seen_waiting : (w : W) → waiting (K.copies w) ≡ waiting (P.copies (see w))
  seen_waiting w = ap waiting (S.copies w)

  seen_free : (w : W) → free K w ≡ free P (see w)
  seen_free w = cc (S.places w, seen_waiting w)

  -- what holds of the copies after a change that is seen, holds before it is seen
  seen_copies :
      (f : (ℕ → ℕ) → ℕ → ℕ) (w t : W) (v : V) (y : ℕ) → see t ≡ v → P.copies v y ≡ f (P.copies (see w)) y
      → K.copies t y ≡ f (K.copies w) y
  seen_copies f w t v y e h =
      ap (λ (g : ℕ → ℕ). g y) (S.copies t)
      ∙ (ap (λ (u : V). P.copies u y) e ∙ (h ∙ ap (λ (g : ℕ → ℕ). f g y) (sym (S.copies w))))

  seen_places : (w t : W) (v : V) → see t ≡ v → P.places v ≡ P.places (see w) → K.places t ≡ K.places w
  seen_places w t v e h = S.places t ∙ (ap P.places e ∙ (h ∙ sym (S.places w)))

  pub laws_seen : WireLaws P → WireLaws K
  laws_seen L = record {
    sends = λ x w l r y m.
        seen_copies (one_more x) w (K.send x w) (P.send x (see w)) y (S.sends x w l r) (L.sends x (see w) l (room w r) y m);
    send_keeps = λ x w l r.
        seen_places w (K.send x w) (P.send x (see w)) (S.sends x w l r) (L.send_keeps x (see w) l (room w r));
    picks = λ w k l. picked w k l (L.picks (see w) k (some w l));
    takes = λ w k l y m.
        seen_copies (one_less (K.pick w k)) w (K.rest w k) (P.rest (see w) k) y (S.takes w k l)
        (L.takes (see w) k (some w l) y m
        ∙ ap (λ (x : ℕ). one_less x (P.copies (see w)) y) (sym (S.picks w k l)));
    take_keeps = λ w k l. seen_places w (K.rest w k) (P.rest (see w) k) (S.takes w k l) (L.take_keeps (see w) k (some w l));
  }
    where
      room : (w : W) → 1 ≤ free K w → 1 ≤ free P (see w)
      room w r = subst (λ (n : ℕ). 1 ≤ n) (seen_free w) r

      some : (w : W) → 1 ≤ waiting (K.copies w) → 1 ≤ waiting (P.copies (see w))
      some w l = subst (λ (n : ℕ). 1 ≤ n) (seen_waiting w) l

      picked :
          (w : W) (k : ℕ) → 1 ≤ waiting (K.copies w)
          → (P.pick (see w) k < 32768) × (1 ≤ P.copies (see w) (P.pick (see w) k))
          → (K.pick w k < 32768) × (1 ≤ K.copies w (K.pick w k))
      picked w k l t =
          subst (λ (x : ℕ). (x < 32768) × (1 ≤ K.copies w x)) (sym (S.picks w k l))
          (t.0, subst (λ (g : ℕ → ℕ). 1 ≤ g (P.pick (see w) k)) (sym (S.copies w)) t.1)
