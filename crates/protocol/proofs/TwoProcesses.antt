-- How a call keeps what is so of two correct processes and the wire.
use Rattle.std.proofs.Common.{◌≡◌, ℕ, ◌<◌, ◌≤◌, Bool, true, ◌≢◌, ◌⊎◌, sym, subst, inl, inr, arith}
use Rattle.protocol.specs.declared.payload.Payload.{Payload}
use Rattle.protocol.specs.Sets.{Set}
use Rattle.protocol.specs.Messages.{code, message, Writable}
use Rattle.protocol.specs.Processes.{Process}
use Rattle.protocol.specs.Wires.{Pool, one_less}
use Rattle.protocol.specs.Settings.{Setting, InRange, Correct}
use Rattle.protocol.specs.Play.{put}
use Rattle.protocol.proofs.Codes.{same_code, writable}
use Rattle.protocol.proofs.Invariant.{Round, Between}
use Rattle.protocol.proofs.Tables.{put_elim, less_old, less_cases, copies_to, all_old, all_new, all_cases}

-- what one process says to another in a round of the run has a code
pub writable_in :
    (S : Setting) → InRange S → (i j r : ℕ) (p : Payload) → i < S.facts.n → j < S.facts.n → Round S r → Writable (message i j r p)
writable_in S N i j r p li lj R =
    let a = N.few_processes in let b = N.few_rounds in let l = R.last in
    writable i j r p (omega arith) (omega arith) R.first (omega arith)

-- nothing is sent or noted, and no message between the two comes or goes
pub still :
    (S : Setting) (g g' : ℕ → ℕ) (i j : ℕ) (x x' y y' : Process) → x'.sent ≡ x.sent → y'.noted ≡ y.noted
    → ((r : ℕ) (p : Payload) → Round S r → 1 ≤ g' (code (message i j r p)) → 1 ≤ g (code (message i j r p)))
    → ((z : ℕ) → 1 ≤ g z → 1 ≤ g' z) → Between S g i j x y → Between S g' i j x' y'
still S g g' i j x x' y y' es en new old B = record {
  waits = λ r p R w. said r p (B.waits r p R (new r p R w));
  notes = λ r p n. said r p (B.notes r p (subst (λ (f : ℕ → Payload → Set). f r p i ≡ true) en n));
  comes = λ r p e. go r p (B.comes r p (subst (λ (f : ℕ → Payload → Bool). f r p ≡ true) es e));
}
  where
    said : (r : ℕ) (p : Payload) → x.sent r p ≡ true → x'.sent r p ≡ true
    said r p e = subst (λ (f : ℕ → Payload → Bool). f r p ≡ true) (sym es) e

    go : (r : ℕ) (p : Payload) → (1 ≤ g (code (message i j r p))) ⊎ (y.noted r p i ≡ true)
        → (1 ≤ g' (code (message i j r p))) ⊎ (y'.noted r p i ≡ true)
    go r p (inl w) = inl (old _ w)
    go r p (inr n) = inr (subst (λ (f : ℕ → Payload → Set). f r p i ≡ true) (sym en) n)

-- process k has the new record N, which has sent p for round r too, and says it to all
module _ (S : Setting) (N : InRange S) (c : ℕ) (w : Pool) (xs : ℕ → Process) (k r : ℕ) (p : Payload) (x : Process)
    (below : k < S.facts.n) (R : Round S r) (quiet : x.noted ≡ (xs k).noted)
    (old : (q : ℕ) (o : Payload) → (xs k).sent q o ≡ true → x.sent q o ≡ true)
    (new : (q : ℕ) (o : Payload) → x.sent q o ≡ true → ((xs k).sent q o ≡ true) ⊎ ((r ≡ q) × (p ≡ o))) (at : x.sent r p ≡ true) where
  -- the copies that wait then
  abbrev after_all : ℕ → ℕ
  after_all = copies_to c S k r p w S.facts.n

  pub said_to_all :
      (i j : ℕ) → Correct S i → Correct S j → Between S w.copies i j (xs i) (xs j)
      → Between S after_all i j (put k x xs i) (put k x xs j)
  said_to_all i j ci cj B = record {
    waits = λ q o Q z. from q o Q (all_cases c S k r p w S.facts.n (code (message i j q o)) z);
    notes = λ q o n. more q o (B.notes q o (noted q o n));
    comes = λ q o. comes q o;
  }
    where
      more : (q : ℕ) (o : Payload) → (xs i).sent q o ≡ true → (put k x xs i).sent q o ≡ true
      more q o e =
          put_elim (λ (y : Process). y.sent q o ≡ true) k i x xs
          (λ f. old q o (subst (λ (u : ℕ). (xs u).sent q o ≡ true) (sym f) e)) (λ _. e)

      noted : (q : ℕ) (o : Payload) → (put k x xs j).noted q o i ≡ true → (xs j).noted q o i ≡ true
      noted q o =
          put_elim (λ (y : Process). y.noted q o i ≡ true → (xs j).noted q o i ≡ true) k j x xs
          (λ f n. subst (λ (u : ℕ). (xs u).noted q o i ≡ true) f (subst (λ (g : ℕ → Payload → Set). g q o i ≡ true) quiet n)) (λ _ n. n)

      still_noted : (q : ℕ) (o : Payload) → (xs j).noted q o i ≡ true → (put k x xs j).noted q o i ≡ true
      still_noted q o n =
          put_elim (λ (y : Process). y.noted q o i ≡ true) k j x xs
          (λ f.
          subst (λ (g : ℕ → Payload → Set). g q o i ≡ true) (sym quiet) (subst (λ (u : ℕ). (xs u).noted q o i ≡ true) (sym f) n))
          (λ _. n)

      from : (q : ℕ) (o : Payload) → Round S q
          → (1 ≤ w.copies (code (message i j q o)))
          ⊎ ((e : ℕ) × (e < S.facts.n) × (code (message k e r p) ≡ code (message i j q o)))
          → (put k x xs i).sent q o ≡ true
      from q o Q (inl z) = more q o (B.waits q o Q z)
      from q o Q (inr t) =
          let m =
          same_code k t.0 r p i j q o (writable_in S N k t.0 r p below t.1 R)
          (writable_in S N i j q o ci.below cj.below Q) t.2 in
          put_elim (λ (y : Process). y.sent q o ≡ true) k i x xs
          (λ _.
          subst (λ (u : ℕ). x.sent u o ≡ true) m.round (subst (λ (u : Payload). x.sent r u ≡ true) m.payload at))
          (λ ne. absurd (ne m.sender))

      kept : (q : ℕ) (o : Payload) → (1 ≤ w.copies (code (message i j q o))) ⊎ ((xs j).noted q o i ≡ true)
          → (1 ≤ after_all (code (message i j q o))) ⊎ ((put k x xs j).noted q o i ≡ true)
      kept q o (inl z) = inl (all_old c S k r p w S.facts.n _ z)
      kept q o (inr n) = inr (still_noted q o n)

      comes : (q : ℕ) (o : Payload) → (put k x xs i).sent q o ≡ true
          → (1 ≤ after_all (code (message i j q o))) ⊎ ((put k x xs j).noted q o i ≡ true)
      comes q o =
          put_elim
          (λ (y : Process).
          y.sent q o ≡ true → (1 ≤ after_all (code (message i j q o))) ⊎ ((put k x xs j).noted q o i ≡ true))
          k i x xs (λ f e. go f (new q o e)) (λ _ e. kept q o (B.comes q o e))
        where
          go : k ≡ i → ((xs k).sent q o ≡ true) ⊎ ((r ≡ q) × (p ≡ o))
              → (1 ≤ after_all (code (message i j q o))) ⊎ ((put k x xs j).noted q o i ≡ true)
          go f (inl e) = kept q o (B.comes q o (subst (λ (u : ℕ). (xs u).sent q o ≡ true) f e))
          go f (inr t) =
              inl
              (subst (λ (u : ℕ). 1 ≤ after_all (code (message u j q o))) f
              (subst (λ (u : ℕ). 1 ≤ after_all (code (message k j u o))) t.0
              (subst (λ (u : Payload). 1 ≤ after_all (code (message k j r u))) t.1
              (all_new c S k r p w S.facts.n j cj.below))))

-- process d has the new record x, which has noted p for round r from k too, and a copy of that message is gone
module _ (S : Setting) (N : InRange S) (g : ℕ → ℕ) (xs : ℕ → Process) (k d r : ℕ) (p : Payload) (x : Process)
    (waited : 1 ≤ g (code (message k d r p))) (sender : k < S.facts.n) (receiver : d < S.facts.n) (R : Round S r)
    (mute : x.sent ≡ (xs d).sent) (old : (q : ℕ) (o : Payload) (t : ℕ) → (xs d).noted q o t ≡ true → x.noted q o t ≡ true)
    (new : (q : ℕ) (o : Payload) (t : ℕ) → x.noted q o t ≡ true → ((xs d).noted q o t ≡ true) ⊎ ((r ≡ q) × (p ≡ o) × (k ≡ t)))
    (at : Correct S k → x.noted r p k ≡ true) where
  pub noted_one :
      (i j : ℕ) → Correct S i → Correct S j → ((q : ℕ) (o : Payload) → (xs i).sent q o ≡ true → Round S q)
      → Between S g i j (xs i) (xs j)
      → Between S (one_less (code (message k d r p)) g) i j (put d x xs i) (put d x xs j)
  noted_one i j ci cj rounds B = record {
    waits = λ q o Q z. more q o (B.waits q o Q (less_old (code (message k d r p)) g _ z));
    notes = λ q o n. more q o (noted q o n);
    comes = λ q o e. comes q o (less q o e);
  }
    where
      more : (q : ℕ) (o : Payload) → (xs i).sent q o ≡ true → (put d x xs i).sent q o ≡ true
      more q o e =
          put_elim (λ (y : Process). y.sent q o ≡ true) d i x xs
          (λ f.
          subst (λ (m : ℕ → Payload → Bool). m q o ≡ true) (sym mute) (subst (λ (u : ℕ). (xs u).sent q o ≡ true) (sym f) e))
          (λ _. e)

      less : (q : ℕ) (o : Payload) → (put d x xs i).sent q o ≡ true → (xs i).sent q o ≡ true
      less q o =
          put_elim (λ (y : Process). y.sent q o ≡ true → (xs i).sent q o ≡ true) d i x xs
          (λ f e. subst (λ (u : ℕ). (xs u).sent q o ≡ true) f (subst (λ (m : ℕ → Payload → Bool). m q o ≡ true) mute e)) (λ _ e. e)

      noted : (q : ℕ) (o : Payload) → (put d x xs j).noted q o i ≡ true → (xs i).sent q o ≡ true
      noted q o =
          put_elim (λ (y : Process). y.noted q o i ≡ true → (xs i).sent q o ≡ true) d j x xs (λ f n. go f (new q o i n))
          (λ _ n. B.notes q o n)
        where
          go : d ≡ j → ((xs d).noted q o i ≡ true) ⊎ ((r ≡ q) × (p ≡ o) × (k ≡ i)) → (xs i).sent q o ≡ true
          go f (inl n) = B.notes q o (subst (λ (u : ℕ). (xs u).noted q o i ≡ true) f n)
          go f (inr t) =
              B.waits q o (subst (λ (u : ℕ). Round S u) t.0 R)
              (subst (λ (u : ℕ). 1 ≤ g (code (message u j q o))) t.2
              (subst (λ (u : ℕ). 1 ≤ g (code (message k u q o))) f
              (subst (λ (u : ℕ). 1 ≤ g (code (message k d u o))) t.0
              (subst (λ (u : Payload). 1 ≤ g (code (message k d r u))) t.1 waited))))

      still_noted : (q : ℕ) (o : Payload) → (xs j).noted q o i ≡ true → (put d x xs j).noted q o i ≡ true
      still_noted q o n =
          put_elim (λ (y : Process). y.noted q o i ≡ true) d j x xs
          (λ f. old q o i (subst (λ (u : ℕ). (xs u).noted q o i ≡ true) (sym f) n)) (λ _. n)

      comes : (q : ℕ) (o : Payload) → (xs i).sent q o ≡ true
          → (1 ≤ one_less (code (message k d r p)) g (code (message i j q o))) ⊎ ((put d x xs j).noted q o i ≡ true)
      comes q o e = go (B.comes q o e)
        where
          here : code (message k d r p) ≡ code (message i j q o) → (put d x xs j).noted q o i ≡ true
          here f =
              let m =
              same_code k d r p i j q o (writable_in S N k d r p sender receiver R)
              (writable_in S N i j q o ci.below cj.below (rounds q o e)) f in
              put_elim (λ (y : Process). y.noted q o i ≡ true) d j x xs
              (λ _.
              subst (λ (u : ℕ). x.noted q o u ≡ true) m.sender
              (subst (λ (u : ℕ). x.noted u o k ≡ true) m.round
              (subst (λ (u : Payload). x.noted r u k ≡ true) m.payload (at (subst (λ (u : ℕ). Correct S u) (sym m.sender) ci)))))
              (λ ne. absurd (ne m.receiver))

          pick : (1 ≤ one_less (code (message k d r p)) g (code (message i j q o))) ⊎ (code (message k d r p) ≡ code (message i j q o))
              → (1 ≤ one_less (code (message k d r p)) g (code (message i j q o))) ⊎ ((put d x xs j).noted q o i ≡ true)
          pick (inl z) = inl z
          pick (inr f) = inr (here f)

          go : (1 ≤ g (code (message i j q o))) ⊎ ((xs j).noted q o i ≡ true)
              → (1 ≤ one_less (code (message k d r p)) g (code (message i j q o))) ⊎ ((put d x xs j).noted q o i ≡ true)
          go (inr n) = inr (still_noted q o n)
          go (inl z) = pick (less_cases (code (message k d r p)) g _ z)

-- a message that is not between the two is dropped
pub dropped :
    (S : Setting) (g : ℕ → ℕ) (c i j : ℕ) (x y : Process)
    → ((q : ℕ) (o : Payload) → x.sent q o ≡ true → c ≢ code (message i j q o)) → Between S g i j x y
    → Between S (one_less c g) i j x y
dropped S g c i j x y other B = record {
  waits = λ q o Q w. B.waits q o Q (less_old c g _ w);
  notes = B.notes;
  comes = λ q o e. go q o e (B.comes q o e);
}
  where
    go : (q : ℕ) (o : Payload) → x.sent q o ≡ true → (1 ≤ g (code (message i j q o))) ⊎ (y.noted q o i ≡ true)
        → (1 ≤ one_less c g (code (message i j q o))) ⊎ (y.noted q o i ≡ true)
    go q o e (inr n) = inr n
    go q o e (inl w) = pick (less_cases c g _ w)
      where
        pick : (1 ≤ one_less c g (code (message i j q o))) ⊎ (c ≡ code (message i j q o))
            → (1 ≤ one_less c g (code (message i j q o))) ⊎ (y.noted q o i ≡ true)
        pick (inl z) = inl z
        pick (inr f) = absurd (other q o e f)
