-- Count wires: the counts that are lent to one, and what its calls leave there.
use Rattle.std.specs.Prelude.{ℕ, ◌+◌, ◌-◌, cond, List, [], length, replicate, ◌==◌, slice_index, slice_set}
use denote.Ref.{MutBor, at_last}
use Rattle.protocol.specs.Wires.{Wire, Pool}
use Rattle.wire.specs.declared.counts.CountWire.{CountWire}
use Rattle.wire.specs.PlainWires.{chosen, or_zero}

-- a, if some memory has a count for each code, and else b
abbrev pub if_whole : {A : Type 0} → List ℕ → A → A → A
if_whole xs a b = cond (length xs == 32768) a b

-- a count wire over some memory: the counts are cleared, and memory of another length is not written
abbrev pub cleared : MutBor (List ℕ) → ℕ → CountWire
cleared memory n = record {
  counts = at_last memory (if_whole memory.now (replicate (length memory.now) 0) memory.now);
  places = n;
}

-- the count of a code in some memory
abbrev pub count_in : List ℕ → ℕ → ℕ
count_in xs y = slice_index xs y

-- the counts of a wire: where its memory is of another length, nothing waits
abbrev pub counts_of : CountWire → ℕ → ℕ
counts_of w = count_in (if_whole w.counts.now w.counts.now [])

-- its places: where its memory is of another length, there are none
abbrev pub places_of : CountWire → ℕ
places_of w = if_whole w.counts.now w.places 0

-- a wire with another count of a code
abbrev pub recounted : CountWire → ℕ → ℕ → CountWire
recounted w x n = record { counts = at_last w.counts (slice_set w.counts.now x n); places = w.places }

-- the code that a take with k removes
abbrev pub picked : CountWire → ℕ → ℕ
picked w k = or_zero (chosen (counts_of w) k)

-- a count wire as a wire, by its memory
abbrev pub counts_kind : Wire CountWire
counts_kind = record {
  copies = counts_of;
  places = places_of;
  send = λ x w. recounted w x (count_in w.counts.now x + 1);
  pick = picked;
  rest = λ w k. recounted w (picked w k) (count_in w.counts.now (picked w k) - 1);
}

-- what a count wire holds
abbrev pub pool_of : CountWire → Pool
pool_of w = record { copies = counts_of w; places = places_of w }
