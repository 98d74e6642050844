-- How many copies wait.
use Rattle.std.proofs.Common.{◌≡◌, ℕ, zero, suc, ◌+◌, ◌-◌, ◌<◌, ◌≤◌, eqb, ◌≢◌, refl, ◌∙◌, subst, arith}
use native.Mathlib.Decide.{ℕ_discrete, dec_le}
use Rattle.std.proofs.lemmas.Bool.{eq-eqb, ne_eqb, cond-true, cond-false}
use Rattle.protocol.specs.Wires.{Wire, WireLaws, waiting, waiting_below, free, one_more}

-- only the codes that are counted count
pub waiting_same : (f g : ℕ → ℕ) (m : ℕ) → ((y : ℕ) → y < m → f y ≡ g y) → waiting_below f m ≡ waiting_below g m
unfolding waiting_below
waiting_same f g zero e = refl
waiting_same f g (suc m) e =
    let a = waiting_same f g m (λ y l. e y (omega arith)) in let b = e m (omega arith) in omega arith

more_here : (x : ℕ) (g : ℕ → ℕ) → one_more x g x ≡ suc (g x)
unfolding one_more
more_here x g = cond-true (eqb x x) (suc (g x)) (g x) (eq-eqb x x refl)

more_there : (x y : ℕ) (g : ℕ → ℕ) → x ≢ y → one_more x g y ≡ g y
unfolding one_more
more_there x y g n = cond-false (eqb x y) (suc (g y)) (g y) (ne_eqb x y n)

-- one copy more is one more that waits
pub waiting_more : (x : ℕ) (g : ℕ → ℕ) (m : ℕ) → x < m → waiting_below (one_more x g) m ≡ suc (waiting_below g m)
unfolding waiting_below
waiting_more x g zero l = absurd (omega arith)
waiting_more x g (suc m) l = go (ℕ_discrete x m) (waiting_more x g m)
  where
    go : Dec (x ≡ m) → (x < m → waiting_below (one_more x g) m ≡ suc (waiting_below g m))
        → waiting_below (one_more x g) m + one_more x g m ≡ suc (waiting_below g m + g m)
    go (yes e) ih =
        let a = waiting_same (one_more x g) g m (λ y l. more_there x y g (omega arith)) in
        let b : one_more x g m ≡ suc (g m) = subst (λ (u : ℕ). one_more x g u ≡ suc (g u)) e (more_here x g) in
        omega arith
    go (no e) ih = let a = ih (omega arith) in let b = more_there x m g e in omega arith

-- where copies wait, there is one that does
pub waiting_some : (g : ℕ → ℕ) (m : ℕ) → 1 ≤ waiting_below g m → (x : ℕ) × (x < m) × (1 ≤ g x)
unfolding waiting_below
waiting_some g zero l = absurd (omega arith)
waiting_some g (suc m) l = go (dec_le 1 (g m)) (waiting_some g m)
  where
    go : Dec (1 ≤ g m) → (1 ≤ waiting_below g m → (x : ℕ) × (x < m) × (1 ≤ g x)) → (x : ℕ) × (x < suc m) × (1 ≤ g x)
    go (yes k) ih = (m, omega arith, k)
    go (no k) ih = let t = ih (omega arith) in (t.0, (let b = t.1 in omega arith), t.2)

module _ {W : Type 0} (K : Wire W) (L : WireLaws K) (x : ℕ) (w : W) (low : x < 32768) (room : 1 ≤ free K w) where
  -- after a send, one more waits
  pub waiting_sent : waiting (K.copies (K.send x w)) ≡ suc (waiting (K.copies w))
  waiting_sent =
      waiting_same (K.copies (K.send x w)) (one_more x (K.copies w)) 32768 (λ y m. L.sends x w low room y m)
      ∙ waiting_more x (K.copies w) 32768 low

  -- and one place less is free
  pub free_sent : free K (K.send x w) ≡ free K w - 1
  free_sent = let e = L.send_keeps x w low room in let a = waiting_sent in omega arith
