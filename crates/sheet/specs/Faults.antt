-- The faults of a sheet: their refusals, and their places.
use Rattle.std.specs.Prelude.{ℕ, Ok, Err, Result}
use Rattle.protocol.specs.declared.refusal.Layer.TheVariants as layer
use Rattle.protocol.specs.declared.refusal.Refusal.{Refusal}
use Rattle.franchise.specs.Refused as franchise
use Rattle.roll.specs.Refused as roll
use Rattle.sheet.specs.declared.fault.SheetFault.{SheetFault}
use Rattle.sheet.specs.declared.fault.SheetFault.TheVariants as fault
use Rattle.sheet.specs.declared.fault.PlacedFault.{PlacedFault}

-- what comes from a roll or a franchise keeps its number and its layer
abbrev pub refusal_of : SheetFault → Refusal
refusal_of fault.TooLong = record { number = 20; layer = layer.Sheet }
refusal_of fault.FirstKind = record { number = 21; layer = layer.Sheet }
refusal_of fault.LaterKind = record { number = 22; layer = layer.Sheet }
refusal_of fault.UnknownKind = record { number = 23; layer = layer.Sheet }
refusal_of fault.Short = record { number = 24; layer = layer.Sheet }
refusal_of fault.WireByte = record { number = 25; layer = layer.Sheet }
refusal_of (fault.Roll e) = roll.refusal_of e
refusal_of (fault.Franchise e) = franchise.refusal_of e
refusal_of fault.Untolerable = record { number = 16; layer = layer.Run }

-- an answer whose fault stands at p
abbrev pub at_place : {A : Type 0} → ℕ → Result A SheetFault → Result A PlacedFault
at_place p (Ok x) = Ok x
at_place p (Err e) = Err (record { place = p; fault = e })
