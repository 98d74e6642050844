-- The kinds of wire that a header names.
use Rattle.std.specs.Prelude.{ℕ, cond, ◌==◌, Ok, Err, Result}
use Rattle.sheet.specs.declared.wire_kind.WireKind.{WireKind}
use Rattle.sheet.specs.declared.wire_kind.WireKind.TheVariants.{Bag, Counts}
use Rattle.sheet.specs.declared.wire_kind.UnknownWire.{UnknownWire}

-- the kind of wire that a byte names: a bag for 0, a count wire for 1
abbrev pub wire_kind : ℕ → Result WireKind UnknownWire
wire_kind b = cond (b == 0) (Ok Bag) (cond (b == 1) (Ok Counts) (Err (record { byte = b })))
