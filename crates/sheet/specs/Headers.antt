-- The header of a sheet, and what is asked of it.
use Rattle.std.specs.Prelude.{ℕ, zero, suc, ◌+◌, Bool, true, cond, not, ◌&&◌, ◌||◌, List, [], ◌∷◌, ◌++◌, take, Some, is_ok, Option, nat_lt}
use Rattle.protocol.specs.declared.refusal.Layer.TheVariants as layer
use Rattle.protocol.specs.Refusals.{Question, ask}
use Rattle.protocol.specs.Sets.{Set, bits}
use Rattle.franchise.specs.Polls.{Poll, heads, votes, facts_of}
use Rattle.franchise.specs.Refused.{heads_vote_questions, listed_vote_questions}
use Rattle.roll.specs.Refused.{open_questions}
use Rattle.roll.specs.Views.{Terms}
use Rattle.sheet.specs.declared.header.Ballot.{Ballot}
use Rattle.sheet.specs.declared.header.Ballot.TheVariants as ballot
use Rattle.sheet.specs.declared.header.Header.{Header}
use Rattle.sheet.specs.Bytes.{byte, word, words}
use Rattle.sheet.specs.declared.kind.Kind.{Kind}
use Rattle.sheet.specs.declared.kind.Kind.TheVariants as kind
use Rattle.sheet.specs.Kinds.{is, kind_of}
use Rattle.sheet.specs.WireKinds.{wire_kind}

-- what a header says with the ballot b, where its other fields stand from the offset k on
abbrev pub header_with : List ℕ → Ballot → ℕ → Header
header_with bs b k = record {
  size = byte bs 1;
  rounds = byte bs k;
  faulty = word bs (k + 1);
  wire = wire_kind (byte bs (k + 3));
  ballot = b;
}

-- what a header `H` says
abbrev pub heads_header : List ℕ → Header
heads_header bs = header_with bs (ballot.Heads (byte bs 2)) 3

-- what a header `W` says
abbrev pub votes_header : List ℕ → Header
votes_header bs = header_with bs (ballot.Votes (word bs 2) (words bs 8 16)) 4

-- what the first entry says, if it is a header
abbrev pub header_at : List ℕ → Header
header_at bs = cond (is "H" (byte bs 0)) (heads_header bs) (votes_header bs)

-- the kind and the header that a sheet begins with
abbrev pub first_entry : List ℕ → Option Kind × Header
first_entry bs = (kind_of (byte bs 0), header_at bs)

-- the kind of a header, by how its processes vote
abbrev pub kind_by : Ballot → Kind
kind_by (ballot.Heads t) = kind.Heads
kind_by (ballot.Votes t vs) = kind.Votes

-- a header with its kind
abbrev pub known_kind : Header → Option Kind × Header
known_kind h = (Some (kind_by h.ballot), h)

-- the votes of n processes; those of others are skipped
abbrev pub poll_of : ℕ → Ballot → Poll
poll_of n (ballot.Heads t) = heads n t
poll_of n (ballot.Votes t vs) = votes (take n vs) t

-- every member below k is below n
unfoldable pub members_below : ℕ → Set → ℕ → Bool
members_below n s zero = true
members_below n s (suc k) = members_below n s k && (not (s k) || nat_lt k n)

-- whether the processes that are named are below n
abbrev pub naming_questions : ℕ → ℕ → List Question
naming_questions n faulty = ask 2 layer.Roll (members_below n (bits faulty) 16) ∷ []

-- whether the roll can be opened, and the faulty processes named on it
abbrev pub roll_questions : Header → List Question
roll_questions h = open_questions h.size h.rounds ++ naming_questions h.size h.faulty

-- whether the franchise can be made; the roll's questions have judged the number of processes
abbrev pub ballot_questions : ℕ → Ballot → List Question
ballot_questions n (ballot.Heads t) = heads_vote_questions n t
ballot_questions n (ballot.Votes t vs) = listed_vote_questions (take n vs) t

-- whether the franchise can be made, and the processes of s are tolerable
abbrev pub franchise_questions : ℕ → Ballot → Set → List Question
franchise_questions n b s = ballot_questions n b ++ (ask 16 layer.Run ((facts_of (poll_of n b)).tolerable s) ∷ [])

-- refusals 25; 11, 12, 2; 13, 14, 16: the kind of wire, the roll, and the franchise, in which the faulty are tolerable
abbrev pub header_questions : Header → List Question
header_questions h =
    ask 25 layer.Sheet (is_ok h.wire) ∷ roll_questions h ++ franchise_questions h.size h.ballot (bits h.faulty)

-- the roll that a header asks for
abbrev pub roll_at : Header → Terms
roll_at h = record { size = h.size; rounds = h.rounds; faulty = h.faulty }

-- a roll with other faulty processes
abbrev pub all_named : Terms → ℕ → Terms
all_named r faulty = record { size = r.size; rounds = r.rounds; faulty = faulty }
