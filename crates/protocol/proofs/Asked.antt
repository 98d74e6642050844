-- What a call has been asked that is not refused, and what a message is that is not dropped.
use Rattle.std.proofs.Common.{◌≡◌, ℕ, ◌<◌, ◌≤◌, Bool, true, false, cond, not, ◌&&◌, eqb, ltb, leb, Some, None, Option, refl, ◌∙◌}
use Rattle.std.proofs.lemmas.Bool.{both_ways, and_parts, and_from, not-true, not_from_false, ltb-true, leb-true, eqb-true, lt-ltb, le-leb, cond-true}
use Rattle.protocol.specs.declared.payload.Payload.{Payload}
use Rattle.protocol.specs.Refusals.{first_no}
use Rattle.protocol.specs.Options.{absent}
use Rattle.protocol.specs.Messages.{Message, payload_of, payload_kind, payload_content, message}
use Rattle.protocol.specs.Wires.{Wire, waiting, free}
use Rattle.protocol.specs.Settings.{Setting, Correct}
use Rattle.protocol.specs.Calls.{propose, step, plant, deliver}
use Rattle.protocol.specs.Play.{Configuration, admitted, landing, outcome_of, needed, questions}
use Rattle.protocol.proofs.Asking.{asked_yes, asked_then}
use Rattle.protocol.proofs.Codes.{payload_back, payload_numbers}
use Rattle.protocol.proofs.Invariant.{Round}

-- some payload is there
there : (o : Option Payload) → not (absent o) ≡ true → (p : Payload) × (o ≡ Some p)
there (Some p) e = (p, refl)
there None e = absurd (both_ways false refl e)

module _ {A : Type 0} (b : Bool) (o : Option A) (x : A) where
  -- what is there only if a test says so
  some_test : cond b o None ≡ Some x → (b ≡ true) × (o ≡ Some x)
  some_test = go b
    where
      go : (t : Bool) → cond t o None ≡ Some x → (t ≡ true) × (o ≡ Some x)
      go true e = (refl, e)
      go false e = absurd cc

-- a message that may be sent, and what it says
pub record Admitted (S : Setting) (m : Message) (p : Payload) : Type 0 where
  pub round : Round S m.round
  pub kind : m.kind ≡ payload_kind p
  pub content : m.content ≡ payload_content p

pub admitted_is : (S : Setting) (m : Message) (p : Payload) → admitted S m ≡ Some p → Admitted S m p
admitted_is S m p e =
    let t = some_test (leb 1 m.round && leb m.round S.rounds) (payload_of m.kind m.content) p e in
    let u = and_parts (leb 1 m.round) (leb m.round S.rounds) t.0 in
    let n = payload_numbers m.kind m.content p t.1 in
    record { round = record { first = leb-true 1 _ u.0; last = leb-true _ S.rounds u.1 }; kind = n.0; content = n.1 }

-- such a message is the one between its sender and its receiver
pub admitted_message : (S : Setting) (m : Message) (p : Payload) → Admitted S m p → m ≡ message m.sender m.receiver m.round p
admitted_message S m p A =
    λ i. record { sender = m.sender; receiver = m.receiver; kind = A.kind i; round = m.round; content = A.content i }

-- a message that is not dropped
pub record Landed (S : Setting) (m : Message) (p : Payload) : Type 0 where
  pub sender : m.sender < S.facts.n
  pub receiver : Correct S m.receiver
  pub admits : Admitted S m p

pub landing_is : (S : Setting) (m : Message) (p : Payload) → landing S m ≡ Some p → Landed S m p
landing_is S m p e =
    let known = ltb m.receiver S.facts.n in
    let t = some_test (ltb m.sender S.facts.n && (known && not (S.faulty m.receiver))) (admitted S m) p e in
    let u = and_parts (ltb m.sender S.facts.n) (known && not (S.faulty m.receiver)) t.0 in
    let v = and_parts known (not (S.faulty m.receiver)) u.1 in
    record {
      sender = ltb-true _ S.facts.n u.0;
      receiver = record { below = ltb-true _ S.facts.n v.0; not_faulty = not-true (S.faulty m.receiver) v.1 };
      admits = admitted_is S m p t.1;
    }

-- what a process says to a correct one lands
pub lands : (S : Setting) (i j r : ℕ) (p : Payload) → i < S.facts.n → Correct S j → Round S r → landing S (message i j r p) ≡ Some p
lands S i j r p li cj R =
    cond-true _ (admitted S (message i j r p)) None
    (and_from (ltb i S.facts.n) _ (lt-ltb i _ li)
    (and_from (ltb j S.facts.n) _ (lt-ltb j _ cj.below) (not_from_false (S.faulty j) cj.not_faulty)))
    ∙ (cond-true _ (payload_of (payload_kind p) (payload_content p)) None
    (and_from (leb 1 r) _ (le-leb 1 r R.first) (le-leb r S.rounds R.last))
    ∙ payload_back p)

module _ {W : Type 0} (K : Wire W) (S : Setting) (s : Configuration W) where
  -- a process that may propose v
  pub record Proposes (i v : ℕ) : Type 0 where
    pub correct : Correct S i
    pub value : v ≤ 1
    pub first : (s.processes i).round ≡ 0

  pub proposes : (i v : ℕ) → first_no (questions K S s (propose i v)) ≡ None → Proposes i v
  proposes i v e =
      let e1 = asked_then S.live _ _ e in
      let e2 = asked_then (ltb i S.facts.n) _ _ e1 in
      let e3 = asked_then (not (S.faulty i)) _ _ e2 in
      let e4 = asked_then (leb v 1) _ _ e3 in
      record {
        correct = record {
          below = ltb-true i _ (asked_yes (ltb i S.facts.n) _ _ e1);
          not_faulty = not-true (S.faulty i) (asked_yes (not (S.faulty i)) _ _ e2);
        };
        value = leb-true v 1 (asked_yes (leb v 1) _ _ e3);
        first = eqb-true _ 0 (asked_yes (eqb (s.processes i).round 0) _ _ e4);
      }

  -- a process that may make a step
  pub record Steps (i : ℕ) : Type 0 where
    pub correct : Correct S i
    pub started : 1 ≤ (s.processes i).round
    pub room : needed S (outcome_of S s.processes i) ≤ free K s.wire

  pub steps : (i : ℕ) → first_no (questions K S s (step i)) ≡ None → Steps i
  steps i e =
      let e1 = asked_then S.live _ _ e in
      let e2 = asked_then (ltb i S.facts.n) _ _ e1 in
      let e3 = asked_then (not (S.faulty i)) _ _ e2 in
      let e4 = asked_then (leb 1 (s.processes i).round) _ _ e3 in
      record {
        correct = record {
          below = ltb-true i _ (asked_yes (ltb i S.facts.n) _ _ e1);
          not_faulty = not-true (S.faulty i) (asked_yes (not (S.faulty i)) _ _ e2);
        };
        started = leb-true 1 _ (asked_yes (leb 1 (s.processes i).round) _ _ e3);
        room = leb-true _ _ (asked_yes (leb (needed S (outcome_of S s.processes i)) (free K s.wire)) _ _ e4);
      }

  -- a message that may be planted
  pub record Plants (m : Message) : Type 0 where
    pub sender : m.sender < S.facts.n
    pub receiver : m.receiver < S.facts.n
    pub faulty : S.faulty m.sender ≡ true
    pub payload : Payload
    pub admits : Admitted S m payload
    pub room : 1 ≤ free K s.wire

  pub plants : (m : Message) → first_no (questions K S s (plant m)) ≡ None → Plants m
  plants m e =
      let known = ltb m.sender S.facts.n && ltb m.receiver S.facts.n in
      let e1 = asked_then S.live _ _ e in
      let e2 = asked_then known _ _ e1 in
      let e3 = asked_then (S.faulty m.sender) _ _ e2 in
      let e4 = asked_then (not (absent (admitted S m))) _ _ e3 in
      let k = and_parts (ltb m.sender S.facts.n) (ltb m.receiver S.facts.n) (asked_yes known _ _ e1) in
      let p = there (admitted S m) (asked_yes (not (absent (admitted S m))) _ _ e3) in
      record {
        sender = ltb-true _ S.facts.n k.0;
        receiver = ltb-true _ S.facts.n k.1;
        faulty = asked_yes (S.faulty m.sender) _ _ e2;
        payload = p.0;
        admits = admitted_is S m p.0 p.1;
        room = leb-true 1 _ (asked_yes (leb 1 (free K s.wire)) _ _ e4);
      }

  -- a message waits that can be delivered
  pub delivers : (k : ℕ) → first_no (questions K S s (deliver k)) ≡ None → 1 ≤ waiting (K.copies s.wire)
  delivers k e =
      let e1 = asked_then S.live _ _ e in
      leb-true 1 _ (asked_yes (leb 1 (waiting (K.copies s.wire))) _ _ e1)
