-- The two histories happen.
use Rattle.std.proofs.Common.{ℕ, [], ◌∷◌, reverse, refl, arith}
use Rattle.protocol.specs.declared.refusal.Layer.TheVariants as layer
use Rattle.protocol.specs.declared.value.Value.TheVariants.{Hold}
use Rattle.protocol.specs.declared.value.Values.TheVariants.{Only}
use Rattle.protocol.specs.declared.payload.Payload.TheVariants as payload
use Rattle.protocol.specs.Messages.{code, message}
use Rattle.protocol.specs.Processes.{marked, heard}
use Rattle.protocol.specs.Rounds.{bin, values}
use Rattle.protocol.specs.Steps.{echo_due, echo_from, aux_sent, own_rules, outcome}
use Rattle.protocol.specs.Wires.{one_more, one_less}
use Rattle.protocol.specs.Settings.{InRange}
use Rattle.protocol.specs.Calls.{propose}
use Rattle.protocol.specs.Play.{put, sent_to}
use Rattle.protocol.specs.Histories.{State}
use Rattle.franchise.specs.Polls.{heads, votes}
use Rattle.franchise.specs.Lawful.{laws}
use Rattle.examples.specs.Histories.{Happens, alone, alone_decides, outvoted, outvoted_decides}
use Rattle.examples.proofs.Counted.{Stop, start, refused, proposed, stood, stepped, planted, delivered}

alone_range : InRange alone
alone_range =
    record { some_processes = omega arith; few_processes = omega arith; some_rounds = omega arith; few_rounds = omega arith }

alone_stop : (s : State) × (k : ℕ) × Stop alone (reverse alone_decides) s k
unfolding code marked heard bin values echo_due echo_from aux_sent own_rules outcome one_more one_less put sent_to
alone_stop =
    let a = proposed (start alone) 0 1 refl in
    let b = stepped a alone_range 0 refl in
    let c = delivered b 0 1 (omega arith) (omega arith) refl in
    let d = stepped c alone_range 0 refl in
    let e = delivered d 0 66 (omega arith) (omega arith) refl in
    let f = stepped e alone_range 0 refl in
    let g = stood f 0 refl in
    (_, _, stepped g alone_range 0 refl)

pub alone_happens : Happens alone alone_decides
alone_happens = record {
  fair = record { laws = laws (heads 1 0) (omega arith); in_range = alone_range; tolerated = refl };
  begins = record { blank_processes = λ _ _. refl; empty_wire = λ _ _. refl };
  final = alone_stop.0;
  leads = alone_stop.2.leads;
}

outvoted_range : InRange outvoted
outvoted_range =
    record { some_processes = omega arith; few_processes = omega arith; some_rounds = omega arith; few_rounds = omega arith }

outvoted_stop : (s : State) × (k : ℕ) × Stop outvoted (reverse outvoted_decides) s k
unfolding code marked heard bin values echo_due echo_from aux_sent own_rules outcome one_more one_less put sent_to
outvoted_stop =
    let a = proposed (start outvoted) 0 1 refl in
    let b = proposed a 1 1 refl in
    let c = refused b (propose 2 0) (record { number = 3; layer = layer.Run }) refl in
    let d = stepped c outvoted_range 0 refl in
    let e = stepped d outvoted_range 1 refl in
    let f = planted e outvoted_range (message 2 0 1 (payload.Est Hold)) refl in
    let g = delivered f 0 4096 (omega arith) (omega arith) refl in
    let h = delivered g 0 1 (omega arith) (omega arith) refl in
    let i = delivered h 0 2049 (omega arith) (omega arith) refl in
    let j = delivered i 0 129 (omega arith) (omega arith) refl in
    let k = delivered j 0 2177 (omega arith) (omega arith) refl in
    let l = stepped k outvoted_range 0 refl in
    let m = stepped l outvoted_range 1 refl in
    let n = planted m outvoted_range (message 2 0 1 (payload.Aux (Only Hold))) refl in
    let o = delivered n 0 4161 (omega arith) (omega arith) refl in
    let p = delivered o 0 66 (omega arith) (omega arith) refl in
    let q = delivered p 0 2114 (omega arith) (omega arith) refl in
    (_, _, stepped q outvoted_range 0 refl)

pub outvoted_happens : Happens outvoted outvoted_decides
outvoted_happens = record {
  fair = record { laws = laws (votes (2 ∷ 2 ∷ 1 ∷ []) 1) (omega arith); in_range = outvoted_range; tolerated = refl };
  begins = record { blank_processes = λ _ _. refl; empty_wire = λ _ _. refl };
  final = outvoted_stop.0;
  leads = outvoted_stop.2.leads;
}
