-- Every call keeps the invariant: one lemma for each.
use Rattle.std.proofs.Common.{◌≡◌, ℕ, zero, suc, ◌<◌, ◌≤◌, Bool, true, false, ◌≢◌, ◌⊎◌, List, ◌∷◌, Some, None, Ok, Err, Option, sym, refl, ap, ◌∙◌, subst, inl, inr, arith}
use Rattle.std.proofs.lemmas.Bool.{both_ways, cond_both}
use Rattle.protocol.specs.declared.refusal.Refusal.{Refusal}
use Rattle.protocol.specs.declared.value.Value.{Value}
use Rattle.protocol.specs.declared.value.Values.{Values}
use Rattle.protocol.specs.declared.payload.Payload.{Payload}
use Rattle.protocol.specs.declared.payload.Payload.TheVariants as payload
use Rattle.protocol.specs.declared.outcome.Outcome.{Outcome}
use Rattle.protocol.specs.declared.outcome.Outcome.TheVariants.{Echo, Est, Aux, Close, Idle}
use Rattle.protocol.specs.Refusals.{first_no, granted, changed}
use Rattle.protocol.specs.Values.{value_number, value_of}
use Rattle.protocol.specs.Messages.{Message, code, message_of, message}
use Rattle.protocol.specs.Processes.{Process, proposing, sending, known, noting, heard}
use Rattle.protocol.specs.Rounds.{decides}
use Rattle.protocol.specs.Outcomes.{after, says}
use Rattle.protocol.specs.Wires.{pool, one_more, one_less}
use Rattle.protocol.specs.Settings.{Setting, Fair, Correct}
use Rattle.protocol.specs.Calls.{Call, propose, step, plant, deliver, standing, Answer, done, did}
use Rattle.protocol.specs.Play.{put, landing, delivered, outcome_of, questions, reply, sent_by, change, call_answer, call_leaves}
use Rattle.protocol.specs.Histories.{State, MayTake, Does, Event, event, Proposed}
use Rattle.protocol.proofs.Agreement.{held_believed}
use Rattle.protocol.proofs.Asked.{Admitted, admitted_message, landing_is, lands, proposes, steps, plants, delivers}
use Rattle.protocol.proofs.Closing.{bin_has}
use Rattle.protocol.proofs.Codes.{same_code, message_of_code, code_of_message}
use Rattle.protocol.proofs.Contents.{any_which}
use Rattle.protocol.proofs.Due.{Due, due_echo, due_est, due_aux, due_close, nothing_due, due}
use Rattle.protocol.proofs.Invariant.{Closes, Entered, Round, Own, Between, Invariant}
use Rattle.protocol.proofs.OneProcess.{Unmoved, MaySend, own_noted, own_same, own_sent, own_propose, own_close}
use Rattle.protocol.proofs.Sayings.{marked_old, marked_new, marked_cases, heard_old, heard_new, heard_cases}
use Rattle.protocol.proofs.Tables.{put_elim, put_field, more_old, more_cases}
use Rattle.protocol.proofs.TwoProcesses.{writable_in, still, said_to_all, noted_one, dropped}

-- an event that is no proposal of process i and no closing by it
unmoved :
    (h : List Event) (e : Event) (i : ℕ) → ((v : Value) → event (propose i (value_number v)) (Ok done) ≡ e → ⊥)
    → ((r : ℕ) (c : Values) (d : Bool) → event (step i) (Ok (did (Close r c d))) ≡ e → ⊥) → Unmoved h (e ∷ h) i
unmoved h e i np nc = record { longer = λ _. inr; same_proposed = proposed; same_closed = closed }
  where
    proposed : (v : Value) → Proposed (e ∷ h) i v → Proposed h i v
    proposed v (inl p) = absurd (np v p)
    proposed v (inr k) = k

    closed : (r : ℕ) (c : Values) (d : Bool) → Closes (e ∷ h) i r c d → Closes h i r c d
    closed r c d (inl p) = absurd (nc r c d p)
    closed r c d (inr k) = k

-- a step of process i that closes nothing, for any process
unmoved_by_step :
    (h : List Event) (i j : ℕ) (o : Outcome) → ((r : ℕ) (c : Values) (d : Bool) → Close r c d ≡ o → ⊥)
    → Unmoved h (event (step i) (Ok (did o)) ∷ h) j
unmoved_by_step h i j o n =
    unmoved h (event (step i) (Ok (did o))) j
    (λ v p. let q = ap (λ (t : Event). t.answer) p in let z : ◌≡◌ {A = ℕ} 0 1 = cc in omega arith)
    (λ r c d p. let q = ap (λ (t : Event). t.answer) p in n r c d (cc))

-- a step of process i, for another process
unmoved_by_other : (h : List Event) (i j : ℕ) (o : Outcome) → i ≢ j → Unmoved h (event (step i) (Ok (did o)) ∷ h) j
unmoved_by_other h i j o ne =
    unmoved h (event (step i) (Ok (did o))) j
    (λ v p. let q = ap (λ (t : Event). t.answer) p in let z : ◌≡◌ {A = ℕ} 0 1 = cc in omega arith)
    (λ r c d p. let q = ap (λ (t : Event). t.call) p in ne (cc))

-- a call that neither proposes nor steps, for any process
abbrev moves : Call → Bool
moves (propose i v) = true
moves (step i) = true
moves (plant m) = false
moves (deliver k) = false
moves (standing i) = false

unmoved_by_others : (h : List Event) (c : Call) (a : Answer) (j : ℕ) → moves c ≡ false → Unmoved h (event c a ∷ h) j
unmoved_by_others h c a j still =
    unmoved h (event c a) j (λ v p. both_ways (moves c) still (ap (λ (t : Event). moves t.call) (sym p)))
    (λ r u d p. both_ways (moves c) still (ap (λ (t : Event). moves t.call) (sym p)))

-- a refused call
unmoved_by_refusal : (h : List Event) (c : Call) (q : Refusal) (j : ℕ) → Unmoved h (event c (Err q) ∷ h) j
unmoved_by_refusal h c q j =
    unmoved h (event c (Err q)) j
    (λ v p. let e = ap (λ (t : Event). t.answer) p in let z : ◌≡◌ {A = ℕ} 0 1 = cc in omega arith)
    (λ _ _ _ p. let e = ap (λ (t : Event). t.answer) p in let z : ◌≡◌ {A = ℕ} 0 1 = cc in omega arith)

-- the value of a number that is 0 or 1
value_back : (v : ℕ) → v ≤ 1 → value_number (value_of v) ≡ v
value_back zero l = refl
value_back (suc zero) l = refl
value_back (suc (suc v)) l = absurd (omega arith)

module _ (S : Setting) (F : Fair S) (h : List Event) (s : State) (I : Invariant S h s) where
  -- the processes and the wire stay as they are
  stays : (e : Event) → ((i : ℕ) → Unmoved h (e ∷ h) i) → Invariant S (e ∷ h) s
  stays e U = record { own = λ i ci. own_same S F h (e ∷ h) i (s.processes i) (U i) (I.own i ci); between = I.between }

  -- process i has a new record, and the others are as they were
  own_put :
      (e : Event) (i : ℕ) (x : Process) → Own S (e ∷ h) i x → ((j : ℕ) → i ≢ j → Unmoved h (e ∷ h) j)
      → (j : ℕ) → Correct S j → Own S (e ∷ h) j (put i x s.processes j)
  own_put e i x O U j cj =
      put_elim (λ (y : Process). Own S (e ∷ h) j y) i j x s.processes (λ f. subst (λ (u : ℕ). Own S (e ∷ h) u x) f O)
      (λ ne. own_same S F h (e ∷ h) j (s.processes j) (U j ne) (I.own j cj))

  -- process i has a new record, which has sent and noted what the old one had
  between_put :
      (i : ℕ) (x : Process) → x.sent ≡ (s.processes i).sent → x.noted ≡ (s.processes i).noted
      → (a b : ℕ) → Correct S a → Correct S b
      → Between S s.wire.copies a b (put i x s.processes a) (put i x s.processes b)
  between_put i x es en a b ca cb =
      still S s.wire.copies s.wire.copies a b (s.processes a) (put i x s.processes a) (s.processes b)
      (put i x s.processes b) (put_field (λ (y : Process). y.sent) i a x s.processes es)
      (put_field (λ (y : Process). y.noted) i b x s.processes en) (λ _ _ _ w. w) (λ _ w. w) (I.between a b ca cb)

  propose_kept :
      (i : ℕ) (v : Value) → Correct S i → (s.processes i).round ≡ 0
      → Invariant S (event (propose i (value_number v)) (Ok done) ∷ h)
      (record { processes = put i (proposing v (s.processes i)) s.processes; wire = s.wire })
  propose_kept i v ci e = record {
    own =
        own_put (event (propose i (value_number v)) (Ok done)) i (proposing v (s.processes i))
        (own_propose S F h i v (s.processes i) e (I.own i ci)) others;
    between = between_put i (proposing v (s.processes i)) refl refl;
  }
    where
      others : (j : ℕ) → i ≢ j → Unmoved h (event (propose i (value_number v)) (Ok done) ∷ h) j
      others j ne =
          unmoved h (event (propose i (value_number v)) (Ok done)) j (λ w p. let q = ap (λ (t : Event). t.call) p in ne (cc))
          (λ r c d p. let q = ap (λ (t : Event). t.call) p in let z : ◌≡◌ {A = ℕ} 0 1 = cc in omega arith)

  -- a step that sends p for round r
  send_kept :
      (x i r : ℕ) (p : Payload) (o : Outcome) → Correct S i → ((q : ℕ) (c : Values) (d : Bool) → Close q c d ≡ o → ⊥) → Round S r
      → MaySend S h (s.processes i) r p
      → Invariant S (event (step i) (Ok (did o)) ∷ h)
      (record { processes = put i (sending r p (s.processes i)) s.processes; wire = sent_by (pool x) S i (Some (r, p)) s.wire })
  send_kept x i r p o ci n R M = record {
    own =
        own_put (event (step i) (Ok (did o))) i (sending r p (s.processes i))
        (own_sent S F h _ i (s.processes i) (unmoved_by_step h i i o n) (I.own i ci) r p R M)
        (λ j _. unmoved_by_step h i j o n);
    between = λ a b ca cb.
        said_to_all S F.in_range x s.wire s.processes i r p (sending r p (s.processes i)) ci.below R refl
        (marked_old r p (s.processes i).sent) (marked_cases r p (s.processes i).sent) (marked_new r p (s.processes i).sent) a b
        ca cb (I.between a b ca cb);
  }

  step_kept :
      (x i : ℕ) (o : Outcome) → Correct S i → 1 ≤ (s.processes i).round → Due S.facts S.rounds (s.processes i) o
      → Invariant S (event (step i) (Ok (did o)) ∷ h)
      (record { processes = put i (after o (s.processes i)) s.processes; wire = sent_by (pool x) S i (says o) s.wire })
  step_kept x i o ci l (due_echo r v lr mr b) =
      send_kept x i r (payload.Est v) (Echo r v) ci (λ q c d p. let z : ◌≡◌ {A = ℕ} 0 1 = cc in omega arith)
      (record { first = lr; last = mr }) (held_believed S F h s I i r v ci b)
  step_kept x i o ci l (due_est v mr e) =
      let t = (I.own i ci).entered l in
      let same : t.0 ≡ v = let q : Some t.0 ≡ Some v = sym t.1 ∙ e in cc in
      send_kept x i (s.processes i).round (payload.Est v) (Est (s.processes i).round v) ci
      (λ q c d p. let z : ◌≡◌ {A = ℕ} 0 1 = cc in omega arith) (record { first = l; last = mr })
      (record { who = i; correct = ci; entered = subst (λ (u : Value). Entered h i (s.processes i).round u) same t.2 })
  step_kept x i o ci l (due_aux c mr e n) =
      send_kept x i (s.processes i).round (payload.Aux c) (Aux (s.processes i).round c) ci
      (λ q c d p. let z : ◌≡◌ {A = ℕ} 0 1 = cc in omega arith) (record { first = l; last = mr })
      (n, bin_has S.facts (s.processes i) (s.processes i).round c e)
  step_kept x i o ci l (due_close c mr se sa e) = record {
    own =
        own_put (event (step i) (Ok (did (Close (s.processes i).round c (decides (s.processes i) c))))) i
        (after (Close (s.processes i).round c (decides (s.processes i) c)) (s.processes i))
        (own_close S F h i (s.processes i) l c (I.own i ci) se sa e)
        (λ j ne. unmoved_by_other h i j (Close (s.processes i).round c (decides (s.processes i) c)) ne);
    between =
        between_put i (after (Close (s.processes i).round c (decides (s.processes i) c)) (s.processes i)) refl refl;
  }
  step_kept x i o ci l (nothing_due _) = record {
    own =
        own_put (event (step i) (Ok (did Idle))) i (s.processes i)
        (own_same S F h _ i (s.processes i) (idle i) (I.own i ci)) (λ j _. idle j);
    between = between_put i (s.processes i) refl refl;
  }
    where
      idle : (j : ℕ) → Unmoved h (event (step i) (Ok (did Idle)) ∷ h) j
      idle j = unmoved_by_step h i j Idle (λ q c d p. let z : ◌≡◌ {A = ℕ} 0 1 = cc in omega arith)

  plant_kept :
      (m : Message) (p : Payload) (a : Answer) → m.sender < S.facts.n → m.receiver < S.facts.n → S.faulty m.sender ≡ true → Admitted S m p
      → Invariant S (event (plant m) a ∷ h)
      (record { processes = s.processes; wire = record { copies = one_more (code m) s.wire.copies; places = s.wire.places } })
  plant_kept m p a ls ld bad A = record {
    own = λ j cj. own_same S F h _ j (s.processes j) (unmoved_by_others h (plant m) a j refl) (I.own j cj);
    between = λ i j ci cj.
        still S s.wire.copies (one_more (code m) s.wire.copies) i j (s.processes i) (s.processes i) (s.processes j)
        (s.processes j) refl refl
        (λ q o Q w. old i j ci cj q o Q (more_cases (code m) s.wire.copies (code (message i j q o)) w))
        (more_old (code m) s.wire.copies) (I.between i j ci cj);
  }
    where
      old : (i j : ℕ) → Correct S i → Correct S j → (q : ℕ) (o : Payload) → Round S q
          → (1 ≤ s.wire.copies (code (message i j q o))) ⊎ (code m ≡ code (message i j q o)) → 1 ≤ s.wire.copies (code (message i j q o))
      old i j ci cj q o Q (inl w) = w
      old i j ci cj q o Q (inr e) =
          let f =
          same_code m.sender m.receiver m.round p i j q o
          (writable_in S F.in_range m.sender m.receiver m.round p ls ld A.round)
          (writable_in S F.in_range i j q o ci.below cj.below Q)
          (ap code (sym (admitted_message S m p A)) ∙ e) in
          absurd (both_ways (S.faulty i) ci.not_faulty (subst (λ (u : ℕ). S.faulty u ≡ true) f.sender bad))

  -- a waiting message that says p for round r from k to the correct process d is noted
  note_kept :
      (n k d r : ℕ) (p : Payload) (a : Answer) → 1 ≤ s.wire.copies (code (message k d r p)) → k < S.facts.n → Correct S d → Round S r
      → Invariant S (event (deliver n) a ∷ h)
      (record {
        processes = put d (noting k r p (s.processes d)) s.processes;
        wire = record { copies = one_less (code (message k d r p)) s.wire.copies; places = s.wire.places };
      })
  note_kept n k d r p a w lk cd R = record {
    own =
        own_put (event (deliver n) a) d (noting k r p (s.processes d))
        (own_noted S F h _ d (s.processes d) (unmoved_by_others h (deliver n) a d refl) (I.own d cd) (noting k r p (s.processes d)).noted old)
        (λ j _. unmoved_by_others h (deliver n) a j refl);
    between = λ i j ci cj.
        noted_one S F.in_range s.wire.copies s.processes k d r p (noting k r p (s.processes d)) w lk cd.below R refl old
        new at i j ci cj (λ q o e. (I.own i ci).in_rounds q o e) (I.between i j ci cj);
  }
    where
      old : (q : ℕ) (o : Payload) (t : ℕ) → (s.processes d).noted q o t ≡ true → (noting k r p (s.processes d)).noted q o t ≡ true
      old q o t e =
          cond_both (known k r p (s.processes d)) (s.processes d).noted (heard r p k (s.processes d).noted) (λ g. g q o t ≡ true)
          (λ _. e) (λ _. heard_old r p k (s.processes d).noted q o t e)

      new : (q : ℕ) (o : Payload) (t : ℕ) → (noting k r p (s.processes d)).noted q o t ≡ true
          → ((s.processes d).noted q o t ≡ true) ⊎ ((r ≡ q) × (p ≡ o) × (k ≡ t))
      new q o t =
          cond_both (known k r p (s.processes d)) (s.processes d).noted (heard r p k (s.processes d).noted)
          (λ g. g q o t ≡ true → ((s.processes d).noted q o t ≡ true) ⊎ ((r ≡ q) × (p ≡ o) × (k ≡ t)))
          (λ _. inl) (λ _. heard_cases r p k (s.processes d).noted q o t)

      -- a correct sender that is known said just this
      said : (o : Payload) → 1 ≤ s.wire.copies (code (message k d r o)) → Correct S k → known k r o (s.processes d) ≡ true
          → (s.processes d).noted r o k ≡ true
      said (payload.Est v) w ck e = e
      said (payload.Aux c) w ck e =
          let t = any_which (λ u. (s.processes d).noted r (payload.Aux u) k) e in
          let B = I.between k d ck cd in
          let q = (I.own k ck).aux_once r t.0 c (B.notes r (payload.Aux t.0) t.1) (B.waits r (payload.Aux c) R w) in
          subst (λ (u : Values). (s.processes d).noted r (payload.Aux u) k ≡ true) q t.1

      at : Correct S k → (noting k r p (s.processes d)).noted r p k ≡ true
      at ck =
          cond_both (known k r p (s.processes d)) (s.processes d).noted (heard r p k (s.processes d).noted) (λ g. g r p k ≡ true)
          (said p w ck) (λ _. heard_new r p k (s.processes d).noted)

  -- a message that does not land is dropped
  drop_kept :
      (n c : ℕ) (a : Answer) → landing S (message_of c) ≡ None
      → Invariant S (event (deliver n) a ∷ h)
      (record { processes = s.processes; wire = record { copies = one_less c s.wire.copies; places = s.wire.places } })
  drop_kept n c a none = record {
    own = λ j cj. own_same S F h _ j (s.processes j) (unmoved_by_others h (deliver n) a j refl) (I.own j cj);
    between = λ i j ci cj.
        dropped S s.wire.copies c i j (s.processes i) (s.processes j) (λ q o e. other i j ci cj q o ((I.own i ci).in_rounds q o e))
        (I.between i j ci cj);
  }
    where
      other : (i j : ℕ) → Correct S i → Correct S j → (q : ℕ) (o : Payload) → Round S q → c ≢ code (message i j q o)
      other i j ci cj q o Q f =
          let e : message_of c ≡ message i j q o =
          ap message_of f ∙ message_of_code (message i j q o) (writable_in S F.in_range i j q o ci.below cj.below Q) in
          let some = ap (landing S) e ∙ lands S i j q o ci.below cj Q in
          absurd cc

  deliver_kept :
      (n c : ℕ) (a : Answer) → 1 ≤ s.wire.copies c
      → Invariant S (event (deliver n) a ∷ h)
      (record {
        processes = delivered (message_of c) (landing S (message_of c)) s.processes;
        wire = record { copies = one_less c s.wire.copies; places = s.wire.places };
      })
  deliver_kept n c a w = go (landing S (message_of c)) refl
    where
      m : Message
      m = message_of c

      go : (o : Option Payload) → landing S (message_of c) ≡ o
          → Invariant S (event (deliver n) a ∷ h)
          (record {
            processes = delivered (message_of c) o s.processes;
            wire = record { copies = one_less c s.wire.copies; places = s.wire.places };
          })
      go None e = drop_kept n c a e
      go (Some p) e =
          let L = landing_is S m p e in
          let is : code (message m.sender m.receiver m.round p) ≡ c =
          ap code (sym (admitted_message S m p L.admits)) ∙ code_of_message c in
          subst
          (λ (u : ℕ).
          Invariant S (event (deliver n) a ∷ h)
          (record {
            processes = put m.receiver (noting m.sender m.round p (s.processes m.receiver)) s.processes;
            wire = record { copies = one_less u s.wire.copies; places = s.wire.places };
          }))
          is
          (note_kept n m.sender m.receiver m.round p a (subst (λ (u : ℕ). 1 ≤ s.wire.copies u) (sym is) w) L.sender L.receiver
          L.admits.round)

  -- a call that is not refused
  granted_kept :
      (x : ℕ) → MayTake s.wire x → (c : Call) → first_no (questions (pool x) S s c) ≡ None
      → Invariant S (event c (Ok (reply (pool x) S s c)) ∷ h) (change (pool x) S s c)
  granted_kept x T (propose i v) e =
      let t = proposes (pool x) S s i v e in
      subst
      (λ (u : ℕ).
      Invariant S (event (propose i u) (Ok done) ∷ h)
      (record { processes = put i (proposing (value_of v) (s.processes i)) s.processes; wire = s.wire }))
      (value_back v t.value) (propose_kept i (value_of v) t.correct t.first)
  granted_kept x T (step i) e =
      let t = steps (pool x) S s i e in
      step_kept x i (outcome_of S s.processes i) t.correct t.started (due S.facts S.rounds (s.processes i))
  granted_kept x T (plant m) e =
      let t = plants (pool x) S s m e in plant_kept m t.payload (Ok done) t.sender t.receiver t.faulty t.admits
  granted_kept x T (deliver n) e = deliver_kept n x _ (T (delivers (pool x) S s n e)).1
  granted_kept x T (standing i) e = stays _ (λ j. unmoved_by_others h (standing i) _ j refl)

  -- any call
  call_kept :
      (x : ℕ) → MayTake s.wire x → (c : Call)
      → Invariant S (event c (call_answer (pool x) S s c) ∷ h) (call_leaves (pool x) S s c)
  call_kept x T c = go (first_no (questions (pool x) S s c)) refl
    where
      go : (o : Option Refusal) → first_no (questions (pool x) S s c) ≡ o
          → Invariant S (event c (granted (reply (pool x) S s c) o) ∷ h) (changed s (change (pool x) S s c) o)
      go (Some q) e = stays (event c (Err q)) (unmoved_by_refusal h c q)
      go None e = granted_kept x T c e

pub kept :
    (S : Setting) → Fair S → (h : List Event) (s : State) (c : Call) (a : Answer) (t : State) → Invariant S h s → Does S s c a t
    → Invariant S (event c a ∷ h) t
kept S F h s c a t I D =
    subst (λ (u : Answer). Invariant S (event c u ∷ h) t) (sym D.answers)
    (subst (λ (u : State). Invariant S (event c (call_answer (pool D.taken) S s c) ∷ h) u) (sym D.leaves)
    (call_kept S F h s I D.taken D.waits c))
