-- One correct process: its record, and how messages are noted in it.
use Rattle.std.specs.Prelude.{ℕ, Bool, false, cond, not, ◌&&◌, ◌||◌, Some, None, Option, ◌==◌}
use Rattle.protocol.specs.declared.value.Value.{Value}
use Rattle.protocol.specs.declared.value.Value.TheVariants.{Hold, Release}
use Rattle.protocol.specs.declared.value.Values.TheVariants.{Only, Both}
use Rattle.protocol.specs.declared.payload.Payload.{Payload}
use Rattle.protocol.specs.declared.payload.Payload.TheVariants.{Est, Aux}
use Rattle.protocol.specs.Sets.{Set, empty, joined, either}
use Rattle.protocol.specs.Messages.{payload_kind, payload_content}

-- what a process keeps
pub record Process : Type 0 where
  -- the round it is in, 0 before it proposes
  pub round : ℕ
  pub estimate : Option Value
  pub decision : Option Value
  -- what it has sent for each round
  pub sent : ℕ → Payload → Bool
  -- from whom it has noted what for each round
  pub noted : ℕ → Payload → Set

-- a process that has done nothing and noted nothing
abbrev pub blank : Process
blank = record { round = 0; estimate = None; decision = None; sent = λ r p. false; noted = λ r p. empty }

-- a process that proposes v
abbrev pub proposing : Value → Process → Process
proposing v x = record { round = 1; estimate = Some v; decision = x.decision; sent = x.sent; noted = x.noted }

-- whether r and p are the round and the payload q and o
abbrev pub same_saying : ℕ → Payload → ℕ → Payload → Bool
same_saying r p q o = r == q && (payload_kind p == payload_kind o && payload_content p == payload_content o)

-- p is marked as sent for round r
unfoldable pub marked : ℕ → Payload → (ℕ → Payload → Bool) → ℕ → Payload → Bool
marked r p g q o = same_saying r p q o || g q o

-- s joins those that said p for round r
unfoldable pub heard : ℕ → Payload → ℕ → (ℕ → Payload → Set) → ℕ → Payload → Set
heard r p s g q o = cond (same_saying r p q o) (joined (g q o) s) (g q o)

-- a process that sends p for round r
abbrev pub sending : ℕ → Payload → Process → Process
sending r p x =
    record { round = x.round; estimate = x.estimate; decision = x.decision; sent = marked r p x.sent; noted = x.noted }

-- those that sent any AUX for round r
abbrev pub any_aux : Process → ℕ → Set
any_aux x r = either (x.noted r (Aux (Only Hold))) (either (x.noted r (Aux (Only Release))) (x.noted r (Aux Both)))

-- whether s is known to have said p for round r; of AUX, only the first that a sender says in a round counts
abbrev pub known : ℕ → ℕ → Payload → Process → Bool
known s r (Est v) x = x.noted r (Est v) s
known s r (Aux c) x = any_aux x r s

-- a process that notes p for round r from s: the sender joins its set, unless it is known
abbrev pub noting : ℕ → ℕ → Payload → Process → Process
noting s r p x = record {
  round = x.round;
  estimate = x.estimate;
  decision = x.decision;
  sent = x.sent;
  noted = cond (known s r p x) x.noted (heard r p s x.noted);
}

-- whether that makes a set grow
abbrev pub grows : ℕ → ℕ → Payload → Process → Bool
grows s r p x = not (known s r p x)
