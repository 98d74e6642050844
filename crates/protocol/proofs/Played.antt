-- A play over any kind of wire that keeps its laws is a history.
use Rattle.std.proofs.Common.{◌≡◌, ℕ, zero, suc, ◌-◌, ◌<◌, ◌≤◌, cond, eqb, ltb, List, [], ◌∷◌, Some, None, Option, sym, refl, ap, ◌∙◌, subst, arith}
use Rattle.std.proofs.lemmas.Bool.{lt-ltb, ltb-true, ltb-false, cond-true, cond-false, ne_eqb, cond_both, le-ltb}
use Rattle.protocol.specs.declared.refusal.Refusal.{Refusal}
use Rattle.protocol.specs.declared.payload.Payload.{Payload}
use Rattle.protocol.specs.declared.payload.Payload.TheVariants as payload
use Rattle.protocol.specs.declared.outcome.Outcome.{Outcome}
use Rattle.protocol.specs.Refusals.{Question, first_no, answer, leaves, changed}
use Rattle.protocol.specs.Options.{absent}
use Rattle.protocol.specs.Messages.{Message, code, message}
use Rattle.protocol.specs.Processes.{Process}
use Rattle.protocol.specs.Outcomes.{after, says}
use Rattle.protocol.specs.Wires.{Wire, WireLaws, Pool, pooled, pool, waiting, free, one_more, one_less}
use Rattle.protocol.specs.Settings.{Setting, InRange}
use Rattle.protocol.specs.Calls.{Call, propose, step, plant, deliver, standing}
use Rattle.protocol.specs.Play.{Configuration, put, asked, outcome_of, needed, questions, reply, sent_to, sent_by, change, call_answer, call_leaves}
use Rattle.protocol.specs.Histories.{State, state_of, MayTake, Does, Event, event, Leads, begins, goes}
use Rattle.protocol.specs.Companions.{EveryWirePlays, history, final, EveryPlayKeepsPromise}
use Rattle.protocol.proofs.Asked.{steps, plants, delivers, admitted_message}
use Rattle.protocol.proofs.Codes.{code_below}
use Rattle.protocol.proofs.Copies.{waiting_same, free_sent}
use Rattle.protocol.proofs.Due.{Due, due_echo, due_est, due_aux, due_close, nothing_due, due}
use Rattle.protocol.proofs.Invariant.{Round}
use Rattle.protocol.proofs.Options.{some_same}
use Rattle.protocol.proofs.Theorem.{never_part}
use Rattle.protocol.proofs.TwoProcesses.{writable_in}

same_round : (q r : ℕ) (o p : Payload) → ◌≡◌ {A = Option (ℕ × Payload)} (Some (q, o)) (Some (r, p)) → q ≡ r
same_round q r o p e = ap (λ (u : ℕ × Payload). u.0) (some_same {A = ℕ × Payload} (q, o) (r, p) e)

-- what a step says, it says for a round of the run
pub says_round :
    (S : Setting) (x : Process) (o : Outcome) (r : ℕ) (p : Payload) → 1 ≤ x.round → Due S.facts S.rounds x o
    → says o ≡ Some (r, p) → Round S r
says_round S x o r p l (due_echo q v lq mq b) e = let f = same_round q r (payload.Est v) p e in record { first = omega arith; last = omega arith }
says_round S x o r p l (due_est v m q) e =
    let f = same_round x.round r (payload.Est v) p e in record { first = omega arith; last = omega arith }
says_round S x o r p l (due_aux c m q n) e =
    let f = same_round x.round r (payload.Aux c) p e in record { first = omega arith; last = omega arith }
says_round S x o r p l (due_close c m s a v) e = absurd cc
says_round S x o r p l (nothing_due _) e = absurd cc

module _ {W : Type 0} (K : Wire W) (L : WireLaws K) where
  -- what waits by the meaning, of the codes that there are
  pooled_copies : (w : W) (y : ℕ) → y < 32768 → (pooled K w).copies y ≡ K.copies w y
  pooled_copies w y l = cond-true (ltb y 32768) (K.copies w y) 0 (lt-ltb y 32768 l)

  pooled_waiting : (w : W) → waiting (pooled K w).copies ≡ waiting (K.copies w)
  pooled_waiting w = waiting_same (pooled K w).copies (K.copies w) 32768 (pooled_copies w)

  -- two numbers of copies are the same if they are for the codes that there are, and none waits of others
  clipped :
      (f : ℕ → ℕ) (g : ℕ → ℕ) (y : ℕ) → ((z : ℕ) → z < 32768 → f z ≡ g z) → ((z : ℕ) → 32768 ≤ z → g z ≡ 0)
      → cond (ltb y 32768) (f y) 0 ≡ g y
  clipped f g y low high =
      cond_both (ltb y 32768) (f y) 0 (λ n. n ≡ g y) (λ e. low y (ltb-true y 32768 e)) (λ e. sym (high y (ltb-false y 32768 e)))

  pooled_high : (w : W) (y : ℕ) → 32768 ≤ y → (pooled K w).copies y ≡ 0
  pooled_high w y l = cond-false (ltb y 32768) (K.copies w y) 0 (le-ltb y 32768 l)

  -- one copy more or less, of a code that there is
  more_same : (x : ℕ) (f g : ℕ → ℕ) (y : ℕ) → f y ≡ g y → one_more x f y ≡ one_more x g y
  unfolding one_more
  more_same x f g y e = ap (λ (u : ℕ). cond (eqb x y) (suc u) u) e

  less_same : (x : ℕ) (f g : ℕ → ℕ) (y : ℕ) → f y ≡ g y → one_less x f y ≡ one_less x g y
  unfolding one_less
  less_same x f g y e = ap (λ (u : ℕ). cond (eqb x y) (u - 1) u) e

  more_high : (x : ℕ) (w : W) → x < 32768 → (y : ℕ) → 32768 ≤ y → one_more x (pooled K w).copies y ≡ 0
  unfolding one_more
  more_high x w l y m =
      cond-false (eqb x y) (suc ((pooled K w).copies y)) ((pooled K w).copies y) (ne_eqb x y (λ e. omega arith)) ∙ pooled_high w y m

  less_high : (x : ℕ) (w : W) → (y : ℕ) → 32768 ≤ y → one_less x (pooled K w).copies y ≡ 0
  unfolding one_less
  less_high x w y m =
      let e = pooled_high w y m in
      cond_both (eqb x y) ((pooled K w).copies y - 1) ((pooled K w).copies y) (λ n. n ≡ 0) (λ _. omega arith) (λ _. e)

  -- a send and a take, by the meaning
  pooled_send : (x c : ℕ) (w : W) → c < 32768 → 1 ≤ free K w → pooled K (K.send c w) ≡ (pool x).send c (pooled K w)
  pooled_send x c w l r =
      λ i. record {
        copies = λ y.
            clipped (K.copies (K.send c w)) (one_more c (pooled K w).copies) y
            (λ z m. L.sends c w l r z m ∙ more_same c (K.copies w) (pooled K w).copies z (sym (pooled_copies w z m)))
            (more_high c w l) i;
        places = L.send_keeps c w l r i;
      }

  pooled_take :
      (w : W) (k : ℕ) → 1 ≤ waiting (K.copies w) → pooled K (K.rest w k) ≡ (pool (K.pick w k)).rest (pooled K w) k
  pooled_take w k l =
      λ i. record {
        copies = λ y.
            clipped (K.copies (K.rest w k)) (one_less (K.pick w k) (pooled K w).copies) y
            (λ z m.
            L.takes w k l z m ∙ less_same (K.pick w k) (K.copies w) (pooled K w).copies z (sym (pooled_copies w z m)))
            (less_high (K.pick w k) w) i;
        places = L.take_keeps w k l i;
      }

  module _ (S : Setting) (N : InRange S) where
    -- a message for each of the processes below d
    pub record AllSent (x i r : ℕ) (p : Payload) (d : ℕ) (w : W) : Type 0 where
      pub means : pooled K (sent_to K S i r p d w) ≡ sent_to (pool x) S i r p d (pooled K w)
      pub left : free K (sent_to K S i r p d w) ≡ free K w - d

    all_sent :
        (x i r : ℕ) (p : Payload) (d : ℕ) (w : W) → i < S.facts.n → Round S r → d ≤ S.facts.n → d ≤ free K w → AllSent x i r p d w
    unfolding sent_to
    all_sent x i r p zero w li R m room = record { means = refl; left = omega arith }
    all_sent x i r p (suc d) w li R m room = go (all_sent x i r p d w li R (omega arith) (omega arith))
      where
        small : code (message i d r p) < 32768
        small = code_below (message i d r p) (writable_in S N i d r p li (omega arith) R)

        go : AllSent x i r p d w → AllSent x i r p (suc d) w
        go t =
            let e = t.left in
            let one : 1 ≤ free K (sent_to K S i r p d w) = omega arith in
            let f = free_sent K L (code (message i d r p)) (sent_to K S i r p d w) small one in
            record {
              means =
                  pooled_send x (code (message i d r p)) (sent_to K S i r p d w) small one
                  ∙ ap (λ (u : Pool). (pool x).send (code (message i d r p)) u) t.means;
              left = omega arith;
            }

    -- what a step sends, by the meaning
    said :
        (x i : ℕ) (o : Option (ℕ × Payload)) (w : W) → i < S.facts.n → ((r : ℕ) (p : Payload) → o ≡ Some (r, p) → Round S r)
        → ((m : ℕ × Payload) → o ≡ Some m → S.facts.n ≤ free K w)
        → pooled K (sent_by K S i o w) ≡ sent_by (pool x) S i o (pooled K w)
    said x i None w li R room = refl
    said x i (Some m) w li R room =
        (all_sent x i m.0 m.1 S.facts.n w li (R m.0 m.1 refl) (omega arith) (room m refl)).means

    -- the free places for a step that says something
    room_for : (o : Outcome) (w : W) → needed S o ≤ free K w → (m : ℕ × Payload) → says o ≡ Some m → S.facts.n ≤ free K w
    room_for o w l m e = subst (λ (u : Option (ℕ × Payload)). cond (absent u) 0 S.facts.n ≤ free K w) e l

    module _ (s : Configuration W) where
      -- the number with which a call takes, 0 if it takes nothing
      abbrev number : Call → ℕ
      number (propose i v) = 0
      number (step i) = 0
      number (plant m) = 0
      number (deliver k) = k
      number (standing i) = 0

      -- the code that it takes
      abbrev picked : Call → ℕ
      picked c = K.pick s.wire (number c)

      may_take : (c : Call) → MayTake (pooled K s.wire) (picked c)
      may_take c l =
          let e = pooled_waiting s.wire in
          let t = L.picks s.wire (number c) (omega arith) in
          (t.0, subst (λ (u : ℕ). 1 ≤ u) (sym (pooled_copies s.wire (picked c) t.0)) t.1)

      same_questions : (c : Call) → questions K S s c ≡ questions (pool (picked c)) S (state_of K s) c
      same_questions c =
          ap (λ (u : ℕ). asked S s.processes u (K.places s.wire - u) c) (sym (pooled_waiting s.wire))

      same_reply : (c : Call) → reply K S s c ≡ reply (pool (picked c)) S (state_of K s) c
      same_reply (propose i v) = refl
      same_reply (step i) = refl
      same_reply (plant m) = refl
      same_reply (deliver k) = refl
      same_reply (standing i) = refl

      same_change :
          (c : Call) → first_no (questions K S s c) ≡ None
          → state_of K (change K S s c) ≡ change (pool (picked c)) S (state_of K s) c
      same_change (propose i v) e = refl
      same_change (step i) e =
          let t = steps K S s i e in
          let o = outcome_of S s.processes i in
          let m =
          said (picked (step i)) i (says o) s.wire t.correct.below
          (λ r p q. says_round S (s.processes i) o r p t.started (due S.facts S.rounds (s.processes i)) q)
          (room_for o s.wire t.room) in
          λ j. record { processes = put i (after o (s.processes i)) s.processes; wire = m j }
      same_change (plant m) e =
          let t = plants K S s m e in
          let small : code m < 32768 =
          subst (λ (u : Message). code u < 32768) (sym (admitted_message S m t.payload t.admits))
          (code_below (message m.sender m.receiver m.round t.payload)
          (writable_in S N m.sender m.receiver m.round t.payload t.sender t.receiver t.admits.round)) in
          let w = pooled_send (picked (plant m)) (code m) s.wire small t.room in
          λ j. record { processes = s.processes; wire = w j }
      same_change (deliver k) e =
          let w = pooled_take s.wire k (delivers K S s k e) in
          λ j. record { processes = (change (pool (picked (deliver k))) S (state_of K s) (deliver k)).processes; wire = w j }
      same_change (standing i) e = refl

      same_leaves :
          (c : Call) (o : Option Refusal) → first_no (questions K S s c) ≡ o
          → state_of K (changed s (change K S s c) o) ≡ changed (state_of K s) (change (pool (picked c)) S (state_of K s) c) o
      same_leaves c (Some q) e = refl
      same_leaves c None e = same_change c e

      plays : (c : Call) → Does S (state_of K s) c (call_answer K S s c) (state_of K (call_leaves K S s c))
      plays c = record {
        taken = picked c;
        waits = may_take c;
        answers =
            ap (λ (u : List Question). answer u (reply K S s c)) (same_questions c)
            ∙ ap (answer (questions (pool (picked c)) S (state_of K s) c)) (same_reply c);
        leaves =
            same_leaves c (first_no (questions K S s c)) refl
            ∙ ap
            (λ (u : List Question). leaves u (state_of K s) (change (pool (picked c)) S (state_of K s) c))
            (same_questions c);
      }

pub every_wire_plays : (W : Type 0) → EveryWirePlays W
every_wire_plays W K L S N s c = plays K L S N s c

-- a list of calls goes on with a history
leads :
    {W : Type 0} (K : Wire W) → WireLaws K → (S : Setting) → InRange S → (from : State) (s : Configuration W) (cs : List Call) (h : List Event)
    → Leads S from h (state_of K s) → Leads S from (history K S s cs h) (state_of K (final K S s cs))
leads K L S N from s [] h l = l
leads K L S N from s (c ∷ cs) h l =
    leads K L S N from (call_leaves K S s c) cs (event c (call_answer K S s c) ∷ h) (goes l (plays K L S N s c))

pub every_play : (W : Type 0) → EveryPlayKeepsPromise W
every_play W K L S F s B cs =
    never_part S F (state_of K s) B (history K S s cs []) (state_of K (final K S s cs))
    (leads K L S F.in_range (state_of K s) s cs [] begins)
