-- Both sample codes sent on a wire, and one of them taken.
use Rattle.std.specs.Prelude.{ℕ, cond, List, [], ◌∷◌, nat_le}
use Rattle.protocol.specs.declared.refusal.Layer.TheVariants as layer
use Rattle.protocol.specs.Refusals.{Question, ask}
use Rattle.protocol.specs.Wires.{Wire, free}

module _ {W : Type 0} (K : Wire W) (w : W) where
  -- the wire after 4097 was sent, and then 2503
  abbrev pub both_sent : W
  both_sent = K.send 2503 (K.send 4097 w)

  -- two free places are asked for
  abbrev pub both_questions : List Question
  both_questions = ask 9 layer.Wire (nat_le 2 (free K w)) ∷ []

  -- what is left after one was taken with k; where one place is free, only the first was sent
  abbrev pub one_taken : ℕ → W
  one_taken k = cond (nat_le 2 (free K w)) (K.rest both_sent k) (cond (nat_le 1 (free K w)) (K.send 4097 w) w)
