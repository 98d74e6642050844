-- A franchise by votes.
use Rattle.std.specs.Prelude.{ℕ, ◌+◌, ◌-◌, ◌*◌, ◌<◌, Bool, List, length, nat_le}
use Rattle.protocol.specs.Sets.{Set}
use Rattle.protocol.specs.Facts.{Facts}
use Rattle.franchise.specs.Weights.{weight, whole, one_each, listed}
use Rattle.franchise.specs.declared.tally.Tally.{Tally}

-- how many processes there are, the votes of each, and how many votes may be faulty together
pub record Poll : Type 0 where
  pub size : ℕ
  pub votes : ℕ → ℕ
  pub threshold : ℕ

-- one vote for each of n processes
abbrev pub heads : ℕ → ℕ → Poll
heads n t = record { size = n; votes = one_each; threshold = t }

-- as many votes as the list has for each process
abbrev pub votes : List ℕ → ℕ → Poll
votes vs t = record { size = length vs; votes = listed vs; threshold = t }

-- three times the threshold is below the sum of all votes
abbrev pub BelowAThird : Poll → Type 0
BelowAThird p = 3 * p.threshold < whole p.votes p.size

-- the votes of a set, the sum of all votes, and the threshold
abbrev pub tally : Poll → Set → Tally
tally p s = record {
  votes = weight p.votes s p.size;
  total = whole p.votes p.size;
  threshold = p.threshold;
}

-- a set is tolerable with at most T votes
abbrev pub tolerable : Tally → Bool
tolerable t = nat_le t.votes t.threshold

-- believed with at least T + 1
abbrev pub believed : Tally → Bool
believed t = nat_le (t.threshold + 1) t.votes

-- accepted with at least 2 × T + 1
abbrev pub accepted : Tally → Bool
accepted t = nat_le (2 * t.threshold + 1) t.votes

-- closing with at least all votes but T
abbrev pub closing : Tally → Bool
closing t = nat_le (t.total - t.threshold) t.votes

-- the facts that the votes give
abbrev pub facts_of : Poll → Facts
facts_of p = record {
  n = p.size;
  tolerable = λ s. tolerable (tally p s);
  believed = λ s. believed (tally p s);
  accepted = λ s. accepted (tally p s);
  closing = λ s. closing (tally p s);
}
