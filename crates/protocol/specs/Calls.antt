-- The calls of a run, and what they can answer.
use Rattle.std.specs.Prelude.{ℕ, Bool, Result}
use Rattle.protocol.specs.declared.refusal.Refusal.{Refusal}
use Rattle.protocol.specs.declared.outcome.Outcome.{Outcome}
use Rattle.protocol.specs.Messages.{Message}

-- a call, with numbers as they come
pub data Call : Type 0 where
  -- a process proposes a value
  propose : ℕ → ℕ → Call
  -- a process makes a step
  step : ℕ → Call
  -- a faulty process sends a message
  plant : Message → Call
  -- the wire hands out a message, chosen by a number
  deliver : ℕ → Call
  -- a process is asked how it stands
  standing : ℕ → Call

-- what a call answers that is not refused
pub data Reply : Type 0 where
  done : Reply
  did : Outcome → Reply
  -- the code of the message, and whether a set grew
  got : ℕ → Bool → Reply
  -- round, estimate and decision, with 2 for an absent one
  stands : ℕ → ℕ → ℕ → Reply

-- what a call answers
abbrev pub Answer : Type 0
Answer = Result Reply Refusal
