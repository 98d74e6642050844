-- The votes in a table.
use Rattle.std.specs.Prelude.{ℕ, List, take}
use Rattle.franchise.specs.Weights.{listed}
use Rattle.franchise.specs.Polls.{Poll}
use Rattle.franchise.specs.declared.table.Table.{Table}

-- the votes of the processes that there are
abbrev pub votes_in : Table → List ℕ
votes_in t = take t.size t.votes

-- as many votes for each process as the table has
abbrev pub table_poll : Table → ℕ → Poll
table_poll table t = record { size = table.size; votes = listed (votes_in table); threshold = t }
