-- How a call keeps what is so of one correct process.
use Rattle.std.proofs.Common.{◌≡◌, ℕ, suc, ◌<◌, ◌≤◌, Bool, true, false, ◌⊎◌, List, ◌∷◌, Some, Ok, sym, refl, ap, ◌∙◌, subst, inl, inr, arith}
use native.Mathlib.Decide.{dec_lt}
use Rattle.std.proofs.lemmas.Bool.{and_parts, both_ways}
use Rattle.protocol.specs.declared.value.Value.{Value}
use Rattle.protocol.specs.declared.value.Value.TheVariants.{Hold, Release}
use Rattle.protocol.specs.declared.value.Values.{Values}
use Rattle.protocol.specs.declared.value.Values.TheVariants.{Only, Both}
use Rattle.protocol.specs.declared.payload.Payload.{Payload}
use Rattle.protocol.specs.declared.payload.Payload.TheVariants.{Est, Aux}
use Rattle.protocol.specs.declared.outcome.Outcome.TheVariants.{Close}
use Rattle.protocol.specs.Options.{absent}
use Rattle.protocol.specs.Sets.{Set}
use Rattle.protocol.specs.Facts.{Facts}
use Rattle.protocol.specs.Laws.{Laws}
use Rattle.protocol.specs.Values.{value_number, same_value, has, favoured}
use Rattle.protocol.specs.Processes.{Process, proposing, sending, any_aux, marked}
use Rattle.protocol.specs.Rounds.{in_bin, values, decides, new_estimate}
use Rattle.protocol.specs.Steps.{aux_sent}
use Rattle.protocol.specs.Outcomes.{after}
use Rattle.protocol.specs.Settings.{Setting, Fair}
use Rattle.protocol.specs.Calls.{propose, step, done, did}
use Rattle.protocol.specs.Histories.{Event, event, Among, Proposed}
use Rattle.protocol.proofs.Closing.{Evidence, alone, mixed, same_values, values_evidence}
use Rattle.protocol.proofs.Contents.{any_by, any_which}
use Rattle.protocol.proofs.Due.{EstSent}
use Rattle.protocol.proofs.Invariant.{Closes, Entered, by_proposal, by_closing, Held, Round, Own}
use Rattle.protocol.proofs.Progress.{sent_content}
use Rattle.protocol.proofs.Sayings.{marked_old, marked_cases}

-- a longer history
abbrev pub Longer : List Event → List Event → Type 0
Longer h h' = (e : Event) → Among e h → Among e h'

-- a longer history in which process i has proposed and closed nothing more
pub record Unmoved (h h' : List Event) (i : ℕ) : Type 0 where
  pub longer : Longer h h'
  pub same_proposed : (v : Value) → Proposed h' i v → Proposed h i v
  pub same_closed : (r : ℕ) (c : Values) (d : Bool) → Closes h' i r c d → Closes h i r c d

entered_longer :
    (h h' : List Event) → Longer h h' → (i r : ℕ) (v : Value) → Entered h i r v → Entered h' i r v
entered_longer h h' l i r v (by_proposal e p) = by_proposal e (l _ p)
entered_longer h h' l i r v (by_closing q c d e n p) = by_closing q c d e n (l _ p)

held_longer : (S : Setting) (h h' : List Event) → Longer h h' → (r : ℕ) (v : Value) → Held S h r v → Held S h' r v
held_longer S h h' l r v x =
    record { who = x.who; correct = x.correct; entered = entered_longer h h' l x.who r v x.entered }

-- more is noted
abbrev pub MoreNoted : (ℕ → Payload → Set) → (ℕ → Payload → Set) → Type 0
MoreNoted a b = (r : ℕ) (p : Payload) (j : ℕ) → a r p j ≡ true → b r p j ≡ true

-- evidence lasts as more is noted
evidence_grows :
    (f : Facts) → Laws f → (x x' : Process) → MoreNoted x.noted x'.noted → (r : ℕ) (c : Values)
    → Evidence f x r c → Evidence f x' r c
evidence_grows f L x x' more r c (alone v a k) =
    alone v (L.growth.1 (x.noted r (Est v)) (x'.noted r (Est v)) (λ j _ t. more r (Est v) j t) a)
    (L.growth.2 (x.noted r (Aux (Only v))) (x'.noted r (Aux (Only v))) (λ j _ t. more r (Aux (Only v)) j t) k)
evidence_grows f L x x' more r c (mixed a b k) =
    mixed (L.growth.1 (x.noted r (Est Hold)) (x'.noted r (Est Hold)) (λ j _ t. more r (Est Hold) j t) a)
    (L.growth.1 (x.noted r (Est Release)) (x'.noted r (Est Release)) (λ j _ t. more r (Est Release) j t) b)
    (L.growth.2 (any_aux x r) (any_aux x' r) (λ j _ t. any j t) k)
  where
    any : (j : ℕ) → any_aux x r j ≡ true → any_aux x' r j ≡ true
    any j t =
        let c = any_which (λ u. x.noted r (Aux u) j) t in
        any_by (λ u. x'.noted r (Aux u) j) c.0 (more r (Aux c.0) j c.1)

-- AUX of any content is AUX that was sent
content_sent : (x : Process) (r : ℕ) (c : Values) → x.sent r (Aux c) ≡ true → aux_sent x r ≡ true
unfolding aux_sent
content_sent x r = any_by (λ c. x.sent r (Aux c))

-- the same process with more noted
abbrev pub with_noted : Process → (ℕ → Payload → Set) → Process
with_noted x g =
    record { round = x.round; estimate = x.estimate; decision = x.decision; sent = x.sent; noted = g }

-- what a correct process may send
abbrev pub MaySend : Setting → List Event → Process → ℕ → Payload → Type 0
MaySend S h x r (Est v) = Held S h r v
MaySend S h x r (Aux c) =
    (aux_sent x r ≡ false) × ((v : Value) → has c v ≡ true → in_bin S.facts x r v ≡ true)

module _ (S : Setting) (F : Fair S) (h h' : List Event) (i : ℕ) (x : Process) (U : Unmoved h h' i) (O : Own S h i x) where
  -- it notes more
  pub own_noted : (g : ℕ → Payload → Set) → MoreNoted x.noted g → Own S h' i (with_noted x g)
  own_noted g more = record {
    entered = λ l. let t = O.entered l in (t.0, t.1, entered_longer h h' U.longer i x.round t.0 t.2);
    started = λ v p. O.started v (U.same_proposed v p);
    closed_before = λ r c d p. O.closed_before r c d (U.same_closed r c d p);
    closed_all = λ r l m. let t = O.closed_all r l m in (t.0, t.1, U.longer _ t.2);
    evidence = λ r c d p.
        evidence_grows S.facts F.laws x (with_noted x g) more r c (O.evidence r c d (U.same_closed r c d p));
    favours = λ r c p. O.favours r c (U.same_closed r c true p);
    in_rounds = O.in_rounds;
    est_held = λ r v k. held_longer S h h' U.longer r v (O.est_held r v k);
    aux_once = O.aux_once;
    aux_in_bin = λ r c v k m.
        F.laws.growth.1 (x.noted r (Est v)) (g r (Est v)) (λ j _ t. more r (Est v) j t) (O.aux_in_bin r c v k m);
    passed_est = O.passed_est;
    passed_aux = O.passed_aux;
  }

  -- nothing changes
  pub own_same : Own S h' i x
  own_same = own_noted x.noted (λ _ _ _ t. t)

  -- it sends p for round r
  module _ (r : ℕ) (p : Payload) (R : Round S r) (M : MaySend S h x r p) where
    may_as : (q : ℕ) (o : Payload) → r ≡ q → p ≡ o → MaySend S h x q o
    may_as q o er ep = subst (λ (u : ℕ). MaySend S h x u o) er (subst (λ (u : Payload). MaySend S h x r u) ep M)

    abbrev Which : ℕ → Payload → Type 0
    Which q o = (x.sent q o ≡ true) ⊎ ((r ≡ q) × (p ≡ o))

    which : (q : ℕ) (o : Payload) → marked r p x.sent q o ≡ true → Which q o
    which = marked_cases r p x.sent

    pub own_sent : Own S h' i (sending r p x)
    own_sent = record {
      entered = own_same.entered;
      started = own_same.started;
      closed_before = own_same.closed_before;
      closed_all = own_same.closed_all;
      evidence = λ q c d k. evidence_grows S.facts F.laws x (sending r p x) (λ _ _ _ t. t) q c (own_same.evidence q c d k);
      favours = own_same.favours;
      in_rounds = λ q o k. rounds q o (which q o k);
      est_held = λ q v k. held q v (which q (Est v) k);
      aux_once = λ q c d k m. once q c d (which q (Aux c) k) (which q (Aux d) m);
      aux_in_bin = λ q c v k m. in_the_bin q c v m (which q (Aux c) k);
      passed_est = λ q l m. let t = O.passed_est q l m in (t.0, marked_old r p x.sent q (Est t.0) t.1);
      passed_aux = λ q l m. let t = O.passed_aux q l m in (t.0, marked_old r p x.sent q (Aux t.0) t.1);
    }
      where
        rounds : (q : ℕ) (o : Payload) → Which q o → Round S q
        rounds q o (inl k) = O.in_rounds q o k
        rounds q o (inr e) = subst (λ (u : ℕ). Round S u) e.0 R

        held : (q : ℕ) (v : Value) → Which q (Est v) → Held S h' q v
        held q v (inl k) = own_same.est_held q v k
        held q v (inr e) = held_longer S h h' U.longer q v (may_as q (Est v) e.0 e.1)

        once : (q : ℕ) (c d : Values) → Which q (Aux c) → Which q (Aux d) → c ≡ d
        once q c d (inl k) (inl m) = O.aux_once q c d k m
        once q c d (inl k) (inr e) =
            absurd (both_ways (aux_sent x q) (may_as q (Aux d) e.0 e.1).0 (content_sent x q c k))
        once q c d (inr e) (inl m) =
            absurd (both_ways (aux_sent x q) (may_as q (Aux c) e.0 e.1).0 (content_sent x q d m))
        once q c d (inr e) (inr f) = let g : Aux c ≡ Aux d = sym e.1 ∙ f.1 in cc

        in_the_bin : (q : ℕ) (c : Values) (v : Value) → has c v ≡ true → Which q (Aux c) → in_bin S.facts x q v ≡ true
        in_the_bin q c v m (inl k) = O.aux_in_bin q c v k m
        in_the_bin q c v m (inr e) = (may_as q (Aux c) e.0 e.1).1 v m

-- a longer history by one event
newer : (h : List Event) (e : Event) → Longer h (e ∷ h)
newer h e _ = inr

-- it proposes
pub own_propose :
    (S : Setting) (F : Fair S) (h : List Event) (i : ℕ) (v : Value) (x : Process) → x.round ≡ 0 → Own S h i x
    → Own S (event (propose i (value_number v)) (Ok done) ∷ h) i (proposing v x)
own_propose S F h i v x e O = record {
  entered = λ _. (v, refl, by_proposal refl (inl refl));
  started = λ _ _. omega arith;
  closed_before = λ r c d p. let t = O.closed_before r c d (back r c d p) in absurd (omega arith);
  closed_all = λ r l m. absurd (omega arith);
  evidence = λ r c d p. evidence_grows S.facts F.laws x (proposing v x) (λ _ _ _ k. k) r c (O.evidence r c d (back r c d p));
  favours = λ r c p. O.favours r c (back r c true p);
  in_rounds = O.in_rounds;
  est_held = λ r w k. held_longer S h _ (newer h _) r w (O.est_held r w k);
  aux_once = O.aux_once;
  aux_in_bin = O.aux_in_bin;
  passed_est = λ r l m. absurd (omega arith);
  passed_aux = λ r l m. absurd (omega arith);
}
  where
    back : (r : ℕ) (c : Values) (d : Bool) → Closes (event (propose i (value_number v)) (Ok done) ∷ h) i r c d → Closes h i r c d
    back r c d (inl p) =
        let q = ap (λ (t : Event). t.answer) p in absurd cc
    back r c d (inr k) = k

-- a round that decides closes with the value that it favours
decides_favoured : (x : Process) (c : Values) → decides x c ≡ true → c ≡ Only (favoured x.round)
decides_favoured x (Only v) e =
    ap Only (same_values v (favoured x.round) (and_parts (same_value v (favoured x.round)) (absent x.decision) e).0)
decides_favoured x Both e = absurd (both_ways false refl e)

-- it closes its round with the values c
module _ (S : Setting) (F : Fair S) (h : List Event) (i : ℕ) (x : Process) (l : 1 ≤ x.round) (c : Values) (O : Own S h i x) where
  -- the history with that closing
  abbrev pub with_close : List Event
  with_close = event (step i) (Ok (did (Close x.round c (decides x c)))) ∷ h

  same_close :
      (r : ℕ) (u : Values) (d : Bool)
      → event (step i) (Ok (did (Close r u d))) ≡ event (step i) (Ok (did (Close x.round c (decides x c))))
      → (r ≡ x.round) × (u ≡ c) × (d ≡ decides x c)
  same_close r u d p = let q = ap (λ (t : Event). t.answer) p in (cc, cc, cc)

  -- of a round before the new one: an earlier one, or the one that closes
  earlier : (P : ℕ → Type 0) → ((r : ℕ) → 1 ≤ r → r < x.round → P r) → P x.round → (r : ℕ) → 1 ≤ r → r < suc x.round → P r
  earlier P old here r lr mr = go (dec_lt r x.round)
    where
      go : Dec (r < x.round) → P r
      go (yes k) = old r lr k
      go (no k) = let e : x.round ≡ r = omega arith in subst P e here

  before : (r : ℕ) (u : Values) (d : Bool) → Closes with_close i r u d → (1 ≤ r) × (r < suc x.round)
  before r u d (inl p) = let t = same_close r u d p in let e = t.0 in (omega arith, omega arith)
  before r u d (inr k) = let t = O.closed_before r u d k in (omega arith, omega arith)

  why : values S.facts x x.round ≡ Some c → (r : ℕ) (u : Values) (d : Bool) → Closes with_close i r u d → Evidence S.facts x r u
  why e r u d (inl p) =
      let t = same_close r u d p in
      subst (λ (q : ℕ). Evidence S.facts x q u) (sym t.0)
      (subst (λ (w : Values). Evidence S.facts x x.round w) (sym t.1) (values_evidence S.facts x x.round c e))
  why e r u d (inr k) = O.evidence r u d k

  favour : (r : ℕ) (u : Values) → Closes with_close i r u true → u ≡ Only (favoured r)
  favour r u (inl p) =
      let t = same_close r u true p in
      t.1 ∙ (decides_favoured x c (sym t.2) ∙ ap (λ (q : ℕ). Only (favoured q)) (sym t.0))
  favour r u (inr k) = O.favours r u k

  pub own_close :
      EstSent S.facts S.rounds x → aux_sent x x.round ≡ true → values S.facts x x.round ≡ Some c
      → Own S with_close i (after (Close x.round c (decides x c)) x)
  own_close se sa e = record {
    entered = λ _. (new_estimate x.round c, refl, by_closing x.round c (decides x c) refl refl (inl refl));
    started = λ _ _. omega arith;
    closed_before = before;
    closed_all =
        earlier (λ r. (u : Values) × (d : Bool) × Closes with_close i r u d)
        (λ r lr mr. let t = O.closed_all r lr mr in (t.0, t.1, inr t.2)) (c, decides x c, inl refl);
    evidence = λ r u d p.
        evidence_grows S.facts F.laws x (after (Close x.round c (decides x c)) x) (λ _ _ _ k. k) r u (why e r u d p);
    favours = favour;
    in_rounds = O.in_rounds;
    est_held = λ r w k. held_longer S h with_close (newer h _) r w (O.est_held r w k);
    aux_once = O.aux_once;
    aux_in_bin = O.aux_in_bin;
    passed_est =
        earlier (λ r. (v : Value) × (x.sent r (Est v) ≡ true)) O.passed_est
        (let t = O.entered l in (t.0, se t.0 t.1));
    passed_aux =
        earlier (λ r. (u : Values) × (x.sent r (Aux u) ≡ true)) O.passed_aux (sent_content x x.round sa);
  }
