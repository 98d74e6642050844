-- What the questions of a wire come to.
use Rattle.std.proofs.Common.{◌≡◌, ℕ, ◌<◌, ◌≤◌, ltb, leb, Some, None, Ok}
use Rattle.std.proofs.lemmas.Bool.{lt-ltb, le-leb, lt-leb, ltb-true, leb-true}
use Rattle.protocol.specs.Refusals.{first_no, answer}
use Rattle.protocol.proofs.Asking.{granted_none, asked_yes, asked_then}
use Rattle.wire.specs.declared.fault.WireFault.TheVariants as fault
use Rattle.wire.specs.Refused.{send_questions, take_questions, refusal_of}

-- a code that there is, and a free place for it
pub may_send : (x room : ℕ) → x < 32768 → 1 ≤ room → first_no (send_questions x room) ≡ None
may_send x room l r = rw (lt-ltb x 32768 l, le-leb 1 room r)

-- no free place
pub full : (x room : ℕ) → x < 32768 → room < 1 → first_no (send_questions x room) ≡ Some (refusal_of fault.Full)
full x room l r = rw (lt-ltb x 32768 l, lt-leb 1 room r)

-- a message waits
pub may_take : (waits : ℕ) → 1 ≤ waits → first_no (take_questions waits) ≡ None
may_take waits l = rw (le-leb 1 waits l)

-- none does
pub empty : (waits : ℕ) → waits < 1 → first_no (take_questions waits) ≡ Some (refusal_of fault.Empty)
empty waits l = rw (lt-leb 1 waits l)

-- what a send that is accepted shows
pub sendable : (x room : ℕ) → Ok (tt {0}) ≡ answer (send_questions x room) (tt {0}) → (x < 32768) × (1 ≤ room)
sendable x room e =
    let yes = (granted_none (first_no (send_questions x room)) (tt {0}) (tt {0}) e).0 in
    let a_code = asked_yes (ltb x 32768) _ _ yes in
    let a_place = asked_yes (leb 1 room) _ _ (asked_then (ltb x 32768) _ _ yes) in
    (ltb-true x 32768 a_code, leb-true 1 room a_place)
