-- What the outcome of a step says of the process that makes it.
use Rattle.std.proofs.Common.{◌≡◌, ℕ, zero, suc, ◌+◌, ◌<◌, ◌≤◌, Bool, true, false, cond, not, ◌&&◌, leb, Some, None, Option, sym, refl, ◌∙◌, subst, arith}
use native.Mathlib.Decide.{dec_lt}
use Rattle.std.proofs.lemmas.Bool.{and_parts, and_from, both_ways, leb-true, leb-false, not_from_false}
use Rattle.protocol.specs.declared.value.Value.{Value}
use Rattle.protocol.specs.declared.value.Value.TheVariants.{Hold, Release}
use Rattle.protocol.specs.declared.value.Values.{Values}
use Rattle.protocol.specs.declared.payload.Payload.TheVariants as payload
use Rattle.protocol.specs.declared.outcome.Outcome.{Outcome}
use Rattle.protocol.specs.declared.outcome.Outcome.TheVariants.{Echo, Est, Aux, Close, Idle}
use Rattle.protocol.specs.Options.{first_of}
use Rattle.protocol.specs.Facts.{Facts}
use Rattle.protocol.specs.Processes.{Process}
use Rattle.protocol.specs.Rounds.{bin, values, decides}
use Rattle.protocol.specs.Steps.{echo_due, echo_from, est_rule, aux_sent, aux_rule, close_rule, own_rules, or_idle, outcome}
use Rattle.protocol.proofs.Closing.{values_bin}
use Rattle.protocol.proofs.Options.{some_same}

module _ (f : Facts) (last : ℕ) (x : Process) where
  -- all echoes of round r are sent
  abbrev pub Echoed : ℕ → Type 0
  Echoed r = (v : Value) → f.believed (x.noted r (payload.Est v)) ≡ true → x.sent r (payload.Est v) ≡ true

  -- the estimate, if there is one, is sent for the round
  abbrev pub EstSent : Type 0
  EstSent = (v : Value) → x.estimate ≡ Some v → x.sent x.round (payload.Est v) ≡ true

  -- AUX is sent for the round, if there is a bin
  abbrev pub AuxSent : Type 0
  AuxSent = (c : Values) → bin f x x.round ≡ Some c → aux_sent x x.round ≡ true

  -- nothing is left to do
  pub record Rests : Type 0 where
    pub echoed : (r : ℕ) → 1 ≤ r → r ≤ last → Echoed r
    pub est_done : x.round ≤ last → EstSent
    pub aux_done : x.round ≤ last → AuxSent
    pub no_values : x.round ≤ last → values f x x.round ≡ None

  pub data Due : Outcome → Type 0 where
    due_echo :
        (r : ℕ) (v : Value) → 1 ≤ r → r ≤ last → f.believed (x.noted r (payload.Est v)) ≡ true → Due (Echo r v)
    due_est : (v : Value) → x.round ≤ last → x.estimate ≡ Some v → Due (Est x.round v)
    due_aux :
        (c : Values) → x.round ≤ last → bin f x x.round ≡ Some c → aux_sent x x.round ≡ false
        → Due (Aux x.round c)
    due_close :
        (c : Values) → x.round ≤ last → EstSent → aux_sent x x.round ≡ true → values f x x.round ≡ Some c
        → Due (Close x.round c (decides x c))
    nothing_due : Rests → Due Idle

  est_first :
      (o : Option Outcome) → x.round ≤ last → (EstSent → Due (or_idle o))
      → Due (or_idle (first_of (est_rule x x.estimate) o))
  est_first o l k = go x.estimate refl
    where
      go : (e : Option Value) → x.estimate ≡ e → Due (or_idle (first_of (est_rule x e) o))
      go None q = k (λ v p. absurd cc)
      go (Some v) q = at (x.sent x.round (payload.Est v)) refl
        where
          at : (b : Bool) → x.sent x.round (payload.Est v) ≡ b
              → Due (or_idle (first_of (cond b None (Some (Est x.round v))) o))
          at true t =
              k (λ w p. subst (λ (u : Value). x.sent x.round (payload.Est u) ≡ true) (some_same v w (sym q ∙ p)) t)
          at false t = due_est v l q

  aux_first :
      (o : Option Outcome) → x.round ≤ last → (AuxSent → Due (or_idle o))
      → Due (or_idle (first_of (aux_rule x (bin f x x.round)) o))
  aux_first o l k = go (bin f x x.round) refl
    where
      go : (b : Option Values) → bin f x x.round ≡ b → Due (or_idle (first_of (aux_rule x b) o))
      go None q = k (λ c p. absurd cc)
      go (Some c) q = at (aux_sent x x.round) refl
        where
          at : (b : Bool) → aux_sent x x.round ≡ b → Due (or_idle (first_of (cond b None (Some (Aux x.round c))) o))
          at true t = k (λ _ _. t)
          at false t = due_aux c l q t

  close_last :
      ((r : ℕ) → 1 ≤ r → r ≤ last → Echoed r) → x.round ≤ last → EstSent → AuxSent
      → Due (or_idle (close_rule x (values f x x.round)))
  close_last e l s a = go (values f x x.round) refl
    where
      go : (c : Option Values) → values f x x.round ≡ c → Due (or_idle (close_rule x c))
      go None q = nothing_due (record { echoed = e; est_done = λ _. s; aux_done = λ _. a; no_values = λ _. q })
      go (Some c) q = let b = values_bin f x x.round c q in due_close c l s (a b.0 b.1) q

  own_due :
      ((r : ℕ) → 1 ≤ r → r ≤ last → Echoed r) → (b : Bool) → leb x.round last ≡ b
      → Due (or_idle (cond b (own_rules f x) None))
  unfolding own_rules
  own_due e true t =
      let l = leb-true x.round last t in
      est_first (first_of (aux_rule x (bin f x x.round)) (close_rule x (values f x x.round))) l
      (λ s. aux_first (close_rule x (values f x x.round)) l (λ a. close_last e l s a))
  own_due e false t =
      let over = leb-false x.round last t in
      nothing_due (record {
        echoed = e;
        est_done = λ l. absurd (omega arith);
        aux_done = λ l. absurd (omega arith);
        no_values = λ l. absurd (omega arith);
      })

  -- an echo that is not due was sent
  not_due : (r : ℕ) (v : Value) → echo_due f x r v ≡ false → f.believed (x.noted r (payload.Est v)) ≡ true → x.sent r (payload.Est v) ≡ true
  unfolding echo_due
  not_due r v e b = go (x.sent r (payload.Est v)) refl
    where
      go : (t : Bool) → x.sent r (payload.Est v) ≡ t → t ≡ true
      go true q = refl
      go false q =
          absurd (both_ways (f.believed (x.noted r (payload.Est v)) && not (x.sent r (payload.Est v))) e
          (and_from (f.believed (x.noted r (payload.Est v))) (not (x.sent r (payload.Est v))) b (not_from_false (x.sent r (payload.Est v)) q)))

  due_believed : (r : ℕ) (v : Value) → echo_due f x r v ≡ true → f.believed (x.noted r (payload.Est v)) ≡ true
  unfolding echo_due
  due_believed r v e = (and_parts (f.believed (x.noted r (payload.Est v))) (not (x.sent r (payload.Est v))) e).0

  -- echoes of the k rounds from r on are looked for, those of earlier rounds are sent
  echo_first :
      (o : Option Outcome) → (((r : ℕ) → 1 ≤ r → r ≤ last → Echoed r) → Due (or_idle o)) → (k r : ℕ) → 1 ≤ r → r + k ≡ suc last
      → ((q : ℕ) → 1 ≤ q → q < r → Echoed q) → Due (or_idle (first_of (echo_from f x k r) o))
  unfolding echo_from
  echo_first o rest zero r l e done = rest (λ q lq mq. done q lq (omega arith))
  echo_first o rest (suc k) r l e done =
      go (echo_due f x r Hold) (echo_due f x r Release) refl refl (echo_first o rest k (suc r) (omega arith) (omega arith))
    where
      go : (a b : Bool) → echo_due f x r Hold ≡ a → echo_due f x r Release ≡ b
          → (((q : ℕ) → 1 ≤ q → q < suc r → Echoed q) → Due (or_idle (first_of (echo_from f x k (suc r)) o)))
          → Due (or_idle (first_of (first_of (cond a (Some (Echo r Hold)) (cond b (Some (Echo r Release)) None)) (echo_from f x k (suc r))) o))
      go true b ea eb ih = due_echo r Hold l (omega arith) (due_believed r Hold ea)
      go false true ea eb ih = due_echo r Release l (omega arith) (due_believed r Release eb)
      go false false ea eb ih = ih more
        where
          here : Echoed r
          here Hold = not_due r Hold ea
          here Release = not_due r Release eb

          more : (q : ℕ) → 1 ≤ q → q < suc r → Echoed q
          more q lq mq = pick (dec_lt q r)
            where
              pick : Dec (q < r) → Echoed q
              pick (yes m) = done q lq m
              pick (no m) = let t : q ≡ r = omega arith in subst Echoed (sym t) here

  -- a step does what is due
  pub due : Due (outcome f last x)
  unfolding outcome
  due =
      echo_first (cond (leb x.round last) (own_rules f x) None) (λ e. own_due e (leb x.round last) refl) last 1 (omega arith)
      (omega arith) (λ q l m. absurd (omega arith))

  -- where it is nothing, nothing is left to do
  pub rests_of : Due Idle → Rests
  rests_of (nothing_due r) = r
