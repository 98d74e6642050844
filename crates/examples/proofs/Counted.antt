-- Histories whose waiting messages are counted on the way, so that nothing has to add up 32,768 numbers.
use Rattle.std.proofs.Common.{◌≡◌, ℕ, zero, suc, ◌+◌, ◌-◌, ◌<◌, ◌≤◌, cond, eqb, ◌≢◌, List, [], ◌∷◌, Some, None, Ok, Err, Option, sym, refl, ap, ◌∙◌, subst, arith}
use native.Mathlib.Decide.{ℕ_discrete}
use Rattle.std.proofs.lemmas.Bool.{eq-eqb, ne_eqb, cond-true, cond-false}
use Rattle.protocol.specs.declared.refusal.Refusal.{Refusal}
use Rattle.protocol.specs.declared.payload.Payload.{Payload}
use Rattle.protocol.specs.Refusals.{first_no, granted, changed}
use Rattle.protocol.specs.Options.{absent}
use Rattle.protocol.specs.Messages.{Message, code, message}
use Rattle.protocol.specs.Outcomes.{says}
use Rattle.protocol.specs.Wires.{Pool, pool, waiting, waiting_below, one_less}
use Rattle.protocol.specs.Settings.{Setting, InRange}
use Rattle.protocol.specs.Calls.{Call, propose, step, plant, deliver, standing, done, did}
use Rattle.protocol.specs.Play.{asked, questions, outcome_of, needed, reply, change, sent_to, sent_by}
use Rattle.protocol.specs.Histories.{State, MayTake, Event, event, Leads, begins, goes}
use Rattle.protocol.proofs.Answered.{takeable}
use Rattle.protocol.proofs.Asked.{steps, plants, admitted_message}
use Rattle.protocol.proofs.Codes.{code_below}
use Rattle.protocol.proofs.Copies.{waiting_same, waiting_more}
use Rattle.protocol.proofs.Due.{due}
use Rattle.protocol.proofs.Invariant.{Round}
use Rattle.protocol.proofs.Played.{says_round}
use Rattle.protocol.proofs.TwoProcesses.{writable_in}
use Rattle.examples.specs.Histories.{fresh}

-- nothing waits where nothing is
none_waits : (m : ℕ) → waiting_below (λ _. 0) m ≡ 0
unfolding waiting_below
none_waits zero = refl
none_waits (suc m) = let e = none_waits m in omega arith

less_here : (x : ℕ) (g : ℕ → ℕ) → one_less x g x ≡ g x - 1
unfolding one_less
less_here x g = cond-true (eqb x x) (g x - 1) (g x) (eq-eqb x x refl)

less_there : (x y : ℕ) (g : ℕ → ℕ) → x ≢ y → one_less x g y ≡ g y
unfolding one_less
less_there x y g n = cond-false (eqb x y) (g y - 1) (g y) (ne_eqb x y n)

-- one copy less is one less that waits
waiting_less : (x : ℕ) (g : ℕ → ℕ) (m : ℕ) → x < m → 1 ≤ g x → suc (waiting_below (one_less x g) m) ≡ waiting_below g m
unfolding waiting_below
waiting_less x g zero l k = absurd (omega arith)
waiting_less x g (suc m) l k = go (ℕ_discrete x m) (waiting_less x g m)
  where
    go : Dec (x ≡ m) → (x < m → 1 ≤ g x → suc (waiting_below (one_less x g) m) ≡ waiting_below g m)
        → suc (waiting_below (one_less x g) m + one_less x g m) ≡ waiting_below g m + g m
    go (yes e) ih =
        let a = waiting_same (one_less x g) g m (λ y l. less_there x y g (omega arith)) in
        let b : one_less x g m ≡ g m - 1 = subst (λ (u : ℕ). one_less x g u ≡ g u - 1) e (less_here x g) in
        let c : 1 ≤ g m = subst (λ (u : ℕ). 1 ≤ g u) e k in omega arith
    go (no e) ih = let a = ih (omega arith) k in let b = less_there x m g e in omega arith

module _ (x : ℕ) (S : Setting) (N : InRange S) (i : ℕ) (below : i < S.facts.n) where
  -- a message to each of d processes is d more that wait
  all_wait :
      (r : ℕ) (p : Payload) → Round S r → (d : ℕ) → d ≤ S.facts.n → (w : Pool)
      → waiting (sent_to (pool x) S i r p d w).copies ≡ waiting w.copies + d
  unfolding sent_to
  all_wait r p R zero l w = omega arith
  all_wait r p R (suc d) l w =
      let a = all_wait r p R d (omega arith) w in
      let b =
      waiting_more (code (message i d r p)) (sent_to (pool x) S i r p d w).copies 32768
      (code_below (message i d r p) (writable_in S N i d r p below (omega arith) R)) in
      omega arith

  -- the places of a wire are not changed by sends
  same_places : (r : ℕ) (p : Payload) (d : ℕ) (w : Pool) → (sent_to (pool x) S i r p d w).places ≡ w.places
  unfolding sent_to
  same_places r p zero w = refl
  same_places r p (suc d) w = same_places r p d w

  said_wait :
      (o : Option (ℕ × Payload)) → ((r : ℕ) (p : Payload) → o ≡ Some (r, p) → Round S r) → (w : Pool)
      → waiting (sent_by (pool x) S i o w).copies ≡ waiting w.copies + cond (absent o) 0 S.facts.n
  said_wait None R w = omega arith
  said_wait (Some m) R w = all_wait m.0 m.1 (R m.0 m.1 refl) S.facts.n (omega arith) w

  said_places : (o : Option (ℕ × Payload)) (w : Pool) → (sent_by (pool x) S i o w).places ≡ w.places
  said_places None w = refl
  said_places (Some m) w = same_places m.0 m.1 S.facts.n w

-- a history that leads to s, where k messages wait
pub record Stop (S : Setting) (h : List Event) (s : State) (k : ℕ) : Type 0 where
  pub leads : Leads S fresh h s
  pub count : waiting s.wire.copies ≡ k
  pub places : s.wire.places ≡ 8192

pub start : (S : Setting) → Stop S [] fresh 0
start S = record { leads = begins; count = none_waits 32768; places = refl }

module _ {S : Setting} {h : List Event} {s : State} {k : ℕ} (T : Stop S h s k) where
  -- no question of the call is answered no
  abbrev pub Allowed : Call → Type 0
  Allowed c = first_no (asked S s.processes k (8192 - k) c) ≡ None

  answered_as :
      (x : ℕ) (c : Call) (o : Option Refusal) → first_no (asked S s.processes k (8192 - k) c) ≡ o → first_no (questions (pool x) S s c) ≡ o
  answered_as x c o e =
      subst (λ (u : ℕ). first_no (asked S s.processes u (s.wire.places - u) c) ≡ o) (sym T.count)
      (subst (λ (u : ℕ). first_no (asked S s.processes k (u - k) c) ≡ o) (sym T.places) e)

  allowed : (x : ℕ) (c : Call) → Allowed c → first_no (questions (pool x) S s c) ≡ None
  allowed x c e = answered_as x c None e

  going :
      (x : ℕ) → MayTake s.wire x → (c : Call) → Allowed c
      → Leads S fresh (event c (Ok (reply (pool x) S s c)) ∷ h) (change (pool x) S s c)
  going x w c e =
      goes T.leads (record {
        taken = x;
        waits = w;
        answers = ap (granted (reply (pool x) S s c)) (sym (allowed x c e));
        leaves = ap (changed s (change (pool x) S s c)) (sym (allowed x c e));
      })

  pub refused :
      (c : Call) (q : Refusal) → first_no (asked S s.processes k (8192 - k) c) ≡ Some q → Stop S (event c (Err q) ∷ h) s k
  refused c q e =
      let t = takeable s.wire in
      let f = answered_as t.0 c (Some q) e in
      record {
        leads = goes T.leads (record {
          taken = t.0;
          waits = t.1;
          answers = ap (granted (reply (pool t.0) S s c)) (sym f);
          leaves = ap (changed s (change (pool t.0) S s c)) (sym f);
        });
        count = T.count;
        places = T.places;
      }

  -- some copy that waits, if there is one
  abbrev pub some : ℕ
  some = (takeable s.wire).0

  pub proposed : (i v : ℕ) → Allowed (propose i v) → Stop S (event (propose i v) (Ok done) ∷ h) (change (pool some) S s (propose i v)) k
  proposed i v e = record { leads = going some (takeable s.wire).1 (propose i v) e; count = T.count; places = T.places }

  pub stood :
      (i : ℕ) → Allowed (standing i) → Stop S (event (standing i) (Ok (reply (pool some) S s (standing i))) ∷ h) s k
  stood i e = record { leads = going some (takeable s.wire).1 (standing i) e; count = T.count; places = T.places }

  pub stepped :
      InRange S → (i : ℕ) → Allowed (step i)
      → Stop S (event (step i) (Ok (did (outcome_of S s.processes i))) ∷ h) (change (pool some) S s (step i))
      (k + needed S (outcome_of S s.processes i))
  stepped N i e =
      let t = steps (pool some) S s i (allowed some (step i) e) in
      let o = outcome_of S s.processes i in
      record {
        leads = going some (takeable s.wire).1 (step i) e;
        count =
            said_wait some S N i t.correct.below (says o)
            (λ r p q. says_round S (s.processes i) o r p t.started (due S.facts S.rounds (s.processes i)) q) s.wire
            ∙ ap (λ (u : ℕ). u + needed S o) T.count;
        places = said_places some S N i t.correct.below (says o) s.wire ∙ T.places;
      }

  pub planted :
      InRange S → (m : Message) → Allowed (plant m)
      → Stop S (event (plant m) (Ok done) ∷ h) (change (pool some) S s (plant m)) (suc k)
  planted N m e =
      let t = plants (pool some) S s m (allowed some (plant m) e) in
      let small : code m < 32768 =
      subst (λ (u : Message). code u < 32768) (sym (admitted_message S m t.payload t.admits))
      (code_below (message m.sender m.receiver m.round t.payload)
      (writable_in S N m.sender m.receiver m.round t.payload t.sender t.receiver t.admits.round)) in
      record {
        leads = going some (takeable s.wire).1 (plant m) e;
        count = waiting_more (code m) s.wire.copies 32768 small ∙ ap suc T.count;
        places = T.places;
      }

  pub delivered :
      (n x : ℕ) → x < 32768 → 1 ≤ s.wire.copies x → Allowed (deliver n)
      → Stop S (event (deliver n) (Ok (reply (pool x) S s (deliver n))) ∷ h) (change (pool x) S s (deliver n)) (k - 1)
  delivered n x l w e =
      let a = waiting_less x s.wire.copies 32768 l w in
      let b = T.count in
      record { leads = going x (λ _. (l, w)) (deliver n) e; count = omega arith; places = T.places }
