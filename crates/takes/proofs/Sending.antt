-- Two sends and a take, over any kind of wire that keeps its laws.
use Rattle.std.proofs.Common.{◌≡◌, ℕ, ◌<◌, ◌≤◌, Ok, Err, Result, ap, ◌∙◌, arith}
use native.Mathlib.Decide.{dec_le}
use Rattle.std.proofs.lemmas.Bool.{le-leb, lt-leb}
use Rattle.protocol.specs.Refusals.{answer, leaves, told}
use Rattle.protocol.specs.Wires.{Wire, WireLaws, waiting, free}
use Rattle.protocol.proofs.Copies.{waiting_sent, free_sent}
use Rattle.wire.specs.declared.fault.WireFault.{WireFault}
use Rattle.wire.specs.declared.fault.WireFault.TheVariants.{Full}
use Rattle.wire.specs.Refused.{send_questions, take_questions, refusal_of}
use Rattle.wire.proofs.Calling.{sent, not_sent, taken}
use Rattle.takes.specs.Samples.{both_sent, both_questions, one_taken}

-- an answer is not both
ok_err : {A B : Type 0} (r : Result A WireFault) (x : A) (f : WireFault) → r ≡ Ok x → r ≡ Err f → B
ok_err r x f e h = grind arith

module _ {W : Type 0} (K : Wire W) (L : WireLaws K) (w : W) where
  -- a send of x on the wire v that answered s and left u
  pub record Sent (x : ℕ) (v : W) (s : Result (Unit {0}) WireFault) (u : W) : Type 0 where
    pub answer : told (λ y. y) refusal_of s ≡ answer (send_questions x (free K v)) tt
    pub after : u ≡ leaves (send_questions x (free K v)) v (K.send x v)

  -- a take with k on the wire v that answered r and left u
  pub record Taken (k : ℕ) (v : W) (r : Result ℕ WireFault) (u : W) : Type 0 where
    pub answer : told (λ y. y) refusal_of r ≡ answer (take_questions (waiting (K.copies v))) (K.pick v k)
    pub after : u ≡ leaves (take_questions (waiting (K.copies v))) v (K.rest v k)

  -- what is to be shown
  pub record Shown (k : ℕ) (r : Result ℕ WireFault) (u : W) : Type 0 where
    pub answer : told (λ y. y) refusal_of r ≡ answer (both_questions K w) (K.pick (both_sent K w) k)
    pub after : u ≡ one_taken K w k

  -- the first send is refused
  pub none :
      (k : ℕ) (s : Result (Unit {0}) WireFault) (r : Result ℕ WireFault) (u : W) (f : WireFault) → Sent 4097 w s u → s ≡ Err f → r ≡ Err f
      → Shown k r u
  none k s r u f a e h = elim (dec_le 1 (free K w)) [
    | yes l ↦ ok_err s tt f (sent K w u 4097 s (omega arith) a.answer a.after l).0 e
    | no l ↦
        let t = not_sent K w u 4097 s (omega arith) a.answer a.after (omega arith) in
        let full : r ≡ Err Full = h ∙ (cc (e, t.0)) in
        let two = lt-leb 2 (free K w) (omega arith) in
        let one = lt-leb 1 (free K w) (omega arith) in
        record { answer = ap (told (λ y. y) refusal_of) full ∙ rw two; after = t.1 ∙ rw (two, one) }
  ]

  -- a send that was not refused
  went :
      (x : ℕ) (v u : W) (s : Result (Unit {0}) WireFault) (y : Unit {0}) → x < 32768 → Sent x v s u → s ≡ Ok y
      → (1 ≤ free K v) × (u ≡ K.send x v)
  went x v u s y low a e = elim (dec_le 1 (free K v)) [
    | yes l ↦ (l, (sent K v u x s low a.answer a.after l).1)
    | no l ↦ ok_err s y Full e (not_sent K v u x s low a.answer a.after (omega arith)).0
  ]

  -- the second send is refused
  pub one :
      (k : ℕ) (s t : Result (Unit {0}) WireFault) (r : Result ℕ WireFault) (u v : W) (y : Unit {0}) (f : WireFault)
      → Sent 4097 w s u → s ≡ Ok y → Sent 2503 u t v → t ≡ Err f → r ≡ Err f → Shown k r v
  one k s t r u v y f a e b h is =
      let first = went 4097 w u s y (omega arith) a e in
      let l = first.0 in
      let less = ap (free K) first.1 ∙ free_sent K L 4097 w (omega arith) l in
      elim (dec_le 1 (free K u)) [
        | yes m ↦ ok_err t tt f (sent K u v 2503 t (omega arith) b.answer b.after m).0 h
        | no m ↦
            let n = not_sent K u v 2503 t (omega arith) b.answer b.after (omega arith) in
            let full : r ≡ Err Full = is ∙ (cc (h, n.0)) in
            let two = lt-leb 2 (free K w) (omega arith) in
            let some = le-leb 1 (free K w) l in
            record { answer = ap (told (λ z. z) refusal_of) full ∙ rw two; after = n.1 ∙ (first.1 ∙ rw (two, some)) }
      ]

  -- neither is, so a message waits
  pub both :
      (k : ℕ) (s t : Result (Unit {0}) WireFault) (r : Result ℕ WireFault) (u v q : W) (y z : Unit {0})
      → Sent 4097 w s u → s ≡ Ok y → Sent 2503 u t v → t ≡ Ok z → Taken k v r q → Shown k r q
  both k s t r u v q y z a e b h c =
      let first = went 4097 w u s y (omega arith) a e in
      let second = went 2503 u v t z (omega arith) b h in
      let l = first.0 in
      let m = second.0 in
      let less = ap (free K) first.1 ∙ free_sent K L 4097 w (omega arith) l in
      let more = ap (λ (o : W). waiting (K.copies o)) second.1 ∙ waiting_sent K L 2503 u (omega arith) m in
      let n = taken K v q k r c.answer c.after (omega arith) in
      let is : v ≡ both_sent K w = second.1 ∙ ap (K.send 2503) first.1 in
      let two = le-leb 2 (free K w) (omega arith) in
      record {
        answer = ap (told (λ x. x) refusal_of) (n.0 ∙ ap (λ (o : W). Ok (K.pick o k)) is) ∙ rw two;
        after = n.1 ∙ (ap (λ (o : W). K.rest o k) is ∙ rw two);
      }
