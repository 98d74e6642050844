-- When a franchise is refused.
use Rattle.std.specs.Prelude.{ℕ, ◌*◌, Bool, ◌&&◌, List, [], ◌∷◌, length, nat_le, nat_lt}
use Rattle.std.specs.List.{list_all}
use Rattle.protocol.specs.declared.refusal.Layer.TheVariants.{Franchise}
use Rattle.protocol.specs.declared.refusal.Refusal.{Refusal}
use Rattle.protocol.specs.Refusals.{Question, ask, in_range}
use Rattle.franchise.specs.Weights.{whole}
use Rattle.franchise.specs.Polls.{Poll, heads, votes}
use Rattle.franchise.specs.declared.fault.FranchiseFault.{FranchiseFault}
use Rattle.franchise.specs.declared.fault.FranchiseFault.TheVariants as fault

-- a vote from 1 to 1,000
abbrev pub fair_vote : ℕ → Bool
fair_vote v = nat_le 1 v && nat_le v 1000

-- every vote is
abbrev pub fair : List ℕ → Bool
fair vs = list_all fair_vote vs

-- the sum of the votes is above three times the threshold
abbrev pub outvotes : Poll → Bool
outvotes p = nat_lt (3 * p.threshold) (whole p.votes p.size)

-- what is asked of one vote each
abbrev pub heads_vote_questions : ℕ → ℕ → List Question
heads_vote_questions n t = ask 14 Franchise (outvotes (heads n t)) ∷ []

-- what is asked of a list of votes
abbrev pub listed_vote_questions : List ℕ → ℕ → List Question
listed_vote_questions vs t = ask 13 Franchise (fair vs) ∷ ask 14 Franchise (outvotes (votes vs t)) ∷ []

-- what making heads asks
abbrev pub heads_questions : ℕ → ℕ → List Question
heads_questions n t = ask 11 Franchise (in_range n) ∷ heads_vote_questions n t

-- what making votes asks
abbrev pub votes_questions : List ℕ → ℕ → List Question
votes_questions vs t = ask 11 Franchise (in_range (length vs)) ∷ listed_vote_questions vs t

-- the number and the layer of each fault
abbrev pub refusal_of : FranchiseFault → Refusal
refusal_of fault.Size = record { number = 11; layer = Franchise }
refusal_of fault.Vote = record { number = 13; layer = Franchise }
refusal_of fault.Threshold = record { number = 14; layer = Franchise }
