-- What a history tells of closings and decisions.
use Rattle.std.proofs.Common.{◌≡◌, ℕ, Bool, true, false, cond, List, [], ◌∷◌, Ok, refl, subst, arith}
use Rattle.protocol.specs.declared.value.Value.{Value}
use Rattle.protocol.specs.declared.value.Value.TheVariants.{Hold, Release}
use Rattle.protocol.specs.declared.value.Values.{Values}
use Rattle.protocol.specs.declared.value.Values.TheVariants.{Only, Both}
use Rattle.protocol.specs.declared.outcome.Outcome.{Outcome}
use Rattle.protocol.specs.declared.outcome.Outcome.TheVariants.{Echo, Est, Aux, Close, Idle}
use Rattle.protocol.specs.Values.{values_number}
use Rattle.protocol.specs.Outcomes.{close, word, numbers}
use Rattle.protocol.specs.Calls.{step, did}
use Rattle.protocol.specs.Histories.{Event, event, Among, Closed, Decided}
use Rattle.protocol.proofs.Invariant.{Closes}

only_number : (c : Values) (v : Value) → values_number c ≡ values_number (Only v) → c ≡ Only v
only_number (Only Hold) Hold e = refl
only_number (Only Release) Release e = refl
only_number (Only Hold) Release e = absurd (omega arith)
only_number (Only Release) Hold e = absurd (omega arith)
only_number Both Hold e = absurd (omega arith)
only_number Both Release e = absurd (omega arith)

one_true : (d : Bool) → ◌≡◌ {A = ℕ} (cond d 1 0) 1 → d ≡ true
one_true true e = refl
one_true false e = absurd (omega arith)

-- a decision is a closing with one value
pub decided_closes : (h : List Event) (i : ℕ) (v : Value) → Decided h i v → (r : ℕ) × Closes h i r (Only v) true
decided_closes h i v t = (t.0, go t.1.0 t.1.1 t.1.2 t.1.3)
  where
    go : (o : Outcome) → Among (event (step i) (Ok (did o))) h → word o ≡ close
        → numbers o ≡ t.0 ∷ values_number (Only v) ∷ 1 ∷ [] → Closes h i t.0 (Only v) true
    go (Close r c d) a w n =
        let er : r ≡ t.0 = cc in
        let ec : values_number c ≡ values_number (Only v) = cc in
        let ed : ◌≡◌ {A = ℕ} (cond d 1 0) 1 = cc in
        subst (λ (u : ℕ). Closes h i u (Only v) true) er
        (subst (λ (u : Values). Closes h i r u true) (only_number c v ec) (subst (λ (u : Bool). Closes h i r c u) (one_true d ed) a))
    go (Echo r c) a w n = absurd cc
    go (Est r c) a w n = absurd cc
    go (Aux r c) a w n = absurd cc
    go Idle a w n = absurd cc

-- a closing is told as one
pub closes_closed : (h : List Event) (i r : ℕ) (c : Values) (d : Bool) → Closes h i r c d → Closed h i r
closes_closed h i r c d a = (values_number c, cond d 1 0, (Close r c d, a, refl, refl))
