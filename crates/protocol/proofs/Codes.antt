-- Messages and their codes, each got back from the other.
use Rattle.std.proofs.Common.{◌≡◌, ℕ, suc, ◌/◌, ◌%◌, ◌<◌, ◌≤◌, Bool, true, false, cond, eqb, Some, None, sym, refl, ap, ◌∙◌, arith}
use Rattle.std.proofs.lemmas.Bool.{eqb-true}
use Rattle.protocol.specs.declared.value.Value.TheVariants.{Hold, Release}
use Rattle.protocol.specs.declared.value.Values.TheVariants.{Only, Both}
use Rattle.protocol.specs.declared.payload.Payload.{Payload}
use Rattle.protocol.specs.declared.payload.Payload.TheVariants.{Est, Aux}
use Rattle.protocol.specs.Messages.{Message, code, message_of, payload_kind, payload_content, payload_of, message, Writable}

-- a message in range is the one with its code
pub message_of_code : (m : Message) → Writable m → message_of (code m) ≡ m
unfolding code
message_of_code m w =
    let a = w.sender in let b = w.receiver in let k = w.kind in let l = w.first in let u = w.last in let c = w.content in
    let es : code m / 2048 ≡ m.sender = omega arith in
    let ed : code m / 128 % 16 ≡ m.receiver = omega arith in
    let ek : code m / 64 % 2 ≡ m.kind = omega arith in
    let er : suc (code m / 4 % 16) ≡ m.round = omega arith in
    let ec : code m % 4 ≡ m.content = omega arith in
    λ i. record { sender = es i; receiver = ed i; kind = ek i; round = er i; content = ec i }

-- a number is the code of its message
pub code_of_message : (x : ℕ) → code (message_of x) ≡ x
unfolding code
code_of_message x =
    let a : x / 4 / 16 ≡ x / 64 = omega arith in
    let b : x / 64 / 2 ≡ x / 128 = omega arith in
    let c : x / 128 / 16 ≡ x / 2048 = omega arith in
    omega arith

-- codes are below 32,768
pub code_below : (m : Message) → Writable m → code m < 32768
unfolding code
code_below m w =
    let a = w.sender in let b = w.receiver in let k = w.kind in let u = w.last in let c = w.content in
    omega arith

-- and the message of one is in range
pub writable_of : (x : ℕ) → x < 32768 → Writable (message_of x)
writable_of x l =
    record {
      sender = omega arith;
      receiver = omega arith;
      kind = omega arith;
      first = omega arith;
      last = omega arith;
      content = omega arith;
    }

-- a payload is got back from its numbers
pub payload_back : (p : Payload) → payload_of (payload_kind p) (payload_content p) ≡ Some p
payload_back (Est Hold) = refl
payload_back (Est Release) = refl
payload_back (Aux (Only Hold)) = refl
payload_back (Aux (Only Release)) = refl
payload_back (Aux Both) = refl

-- and has the numbers that it is read from
pub payload_numbers :
    (k c : ℕ) (p : Payload) → payload_of k c ≡ Some p → (k ≡ payload_kind p) × (c ≡ payload_content p)
payload_numbers k c p =
    kinds (eqb k 0) (eqb k 1) (eqb c 0) (eqb c 1) (eqb c 2) (eqb c 3) (eqb-true k 0) (eqb-true k 1) (eqb-true c 0) (eqb-true c 1)
    (eqb-true c 2) (eqb-true c 3)
  where
    is : (q : Payload) → k ≡ payload_kind q → c ≡ payload_content q → Some q ≡ Some p
        → (k ≡ payload_kind p) × (c ≡ payload_content p)
    is q ek ec e = let f : q ≡ p = cc in (ek ∙ ap payload_kind f, ec ∙ ap payload_content f)

    kinds :
        (k0 k1 c0 c1 c2 c3 : Bool) → (k0 ≡ true → k ≡ 0) → (k1 ≡ true → k ≡ 1) → (c0 ≡ true → c ≡ 0) → (c1 ≡ true → c ≡ 1)
        → (c2 ≡ true → c ≡ 2) → (c3 ≡ true → c ≡ 3)
        → cond k0 (cond c0 (Some (Est Hold)) (cond c1 (Some (Est Release)) None))
        (cond k1
        (cond c1 (Some (Aux (Only Hold))) (cond c2 (Some (Aux (Only Release))) (cond c3 (Some (Aux Both)) None))) None)
        ≡ Some p
        → (k ≡ payload_kind p) × (c ≡ payload_content p)
    kinds true k1 true c1 c2 c3 ek ek' a b d f e = is (Est Hold) (ek refl) (a refl) e
    kinds true k1 false true c2 c3 ek ek' a b d f e = is (Est Release) (ek refl) (b refl) e
    kinds true k1 false false c2 c3 ek ek' a b d f e = absurd cc
    kinds false true c0 true c2 c3 ek ek' a b d f e = is (Aux (Only Hold)) (ek' refl) (b refl) e
    kinds false true c0 false true c3 ek ek' a b d f e = is (Aux (Only Release)) (ek' refl) (d refl) e
    kinds false true c0 false false true ek ek' a b d f e = is (Aux Both) (ek' refl) (f refl) e
    kinds false true c0 false false false ek ek' a b d f e = absurd cc
    kinds false false c0 c1 c2 c3 ek ek' a b d f e = absurd cc

-- payloads with the same numbers are the same
pub same_payload : (p q : Payload) → payload_kind p ≡ payload_kind q → payload_content p ≡ payload_content q → p ≡ q
same_payload p q ek ec =
    let e : Some p ≡ Some q =
    sym (payload_back p)
    ∙ (ap (λ (k : ℕ). payload_of k (payload_content p)) ek ∙ (ap (payload_of (payload_kind q)) ec ∙ payload_back q)) in
    cc

-- the numbers of a payload are in range
pub kind_small : (p : Payload) → payload_kind p < 2
kind_small (Est v) = omega arith
kind_small (Aux c) = omega arith

pub content_small : (p : Payload) → payload_content p < 4
content_small (Est Hold) = omega arith
content_small (Est Release) = omega arith
content_small (Aux (Only Hold)) = omega arith
content_small (Aux (Only Release)) = omega arith
content_small (Aux Both) = omega arith

-- what a known process says to another in a round is in range
pub writable : (s d r : ℕ) (p : Payload) → s < 16 → d < 16 → 1 ≤ r → r ≤ 16 → Writable (message s d r p)
writable s d r p ls ld l u =
    record { sender = ls; receiver = ld; kind = kind_small p; first = l; last = u; content = content_small p }

-- messages with the same code
pub record Same (s d r : ℕ) (p : Payload) (s' d' r' : ℕ) (p' : Payload) : Type 0 where
  pub sender : s ≡ s'
  pub receiver : d ≡ d'
  pub round : r ≡ r'
  pub payload : p ≡ p'

pub same_code :
    (s d r : ℕ) (p : Payload) (s' d' r' : ℕ) (p' : Payload) → Writable (message s d r p) → Writable (message s' d' r' p')
    → code (message s d r p) ≡ code (message s' d' r' p') → Same s d r p s' d' r' p'
same_code s d r p s' d' r' p' w w' e =
    let m : message s d r p ≡ message s' d' r' p' =
    sym (message_of_code (message s d r p) w) ∙ (ap message_of e ∙ message_of_code (message s' d' r' p') w') in
    record {
      sender = ap (λ (x : Message). x.sender) m;
      receiver = ap (λ (x : Message). x.receiver) m;
      round = ap (λ (x : Message). x.round) m;
      payload = same_payload p p' (ap (λ (x : Message). x.kind) m) (ap (λ (x : Message). x.content) m);
    }
