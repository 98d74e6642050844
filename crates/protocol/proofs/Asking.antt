-- Asking one list of questions after another.
use Rattle.std.proofs.Common.{◌≡◌, Bool, true, false, cond, List, [], ◌∷◌, ◌++◌, Some, None, Ok, Err, Option, sym, refl, ap, ◌∙◌}
use Rattle.protocol.specs.declared.refusal.Refusal.{Refusal}
use Rattle.protocol.specs.Refusals.{Question, first_no, granted, answer, changed, leaves}

-- no question of the first list is answered no
pub then_asked : (xs ys : List Question) → first_no xs ≡ None → first_no (xs ++ ys) ≡ first_no ys
then_asked [] ys e = refl
then_asked (x ∷ xs) ys e = go x.holds (then_asked xs ys) e where
  go :
      (b : Bool) → (first_no xs ≡ None → first_no (xs ++ ys) ≡ first_no ys)
      → cond b (first_no xs) (Some x.refusal) ≡ None → cond b (first_no (xs ++ ys)) (Some x.refusal) ≡ first_no ys
  go true rest h = rest h
  go false rest h = absurd cc

-- one is
pub still_refused : (xs ys : List Question) (r : Refusal) → first_no xs ≡ Some r → first_no (xs ++ ys) ≡ Some r
still_refused [] ys r e = absurd cc
still_refused (x ∷ xs) ys r e = go x.holds (still_refused xs ys r) e where
  go :
      (b : Bool) → (first_no xs ≡ Some r → first_no (xs ++ ys) ≡ Some r)
      → cond b (first_no xs) (Some x.refusal) ≡ Some r → cond b (first_no (xs ++ ys)) (Some x.refusal) ≡ Some r
  go true rest h = rest h
  go false rest h = h

-- what an answer says of the questions
pub granted_none : {A : Type 0} (o : Option Refusal) (x z : A) → Ok z ≡ granted x o → (o ≡ None) × (z ≡ x)
granted_none None x z e = (refl, cc)
granted_none (Some r) x z e = absurd cc

pub refused_some : {A : Type 0} (o : Option Refusal) (x : A) (r : Refusal) → Err r ≡ granted x o → o ≡ Some r
refused_some None x r e = absurd cc
refused_some (Some q) x r e = cc

-- a question that is answered yes, and those that follow it
pub asked_yes : (b : Bool) (r : Refusal) (rest : Option Refusal) → cond b rest (Some r) ≡ None → b ≡ true
asked_yes true r rest e = refl
asked_yes false r rest e = absurd cc

pub asked_then : (b : Bool) (r : Refusal) (rest : Option Refusal) → cond b rest (Some r) ≡ None → rest ≡ None
asked_then true r rest e = e
asked_then false r rest e = absurd cc

-- a last question that is answered no
pub asked_no : (b : Bool) (q r : Refusal) → cond b None (Some q) ≡ Some r → (b ≡ false) × (q ≡ r)
asked_no true q r e = absurd cc
asked_no false q r e = (refl, cc)

-- a call whose questions are all answered yes
pub grants : {A : Type 0} (qs : List Question) (x z : A) → first_no qs ≡ None → z ≡ x → Ok z ≡ answer qs x
grants qs x z e is = ap Ok is ∙ ap (granted x) (sym e)

pub does_change : {A : Type 0} (qs : List Question) (before after z : A) → first_no qs ≡ None → z ≡ after → z ≡ leaves qs before after
does_change qs before after z e is = is ∙ ap (changed before after) (sym e)

-- and one that is refused
pub refuses : {A : Type 0} (qs : List Question) (x : A) (r : Refusal) → first_no qs ≡ Some r → Err r ≡ answer qs x
refuses qs x r e = ap (granted x) (sym e)

pub does_nothing : {A : Type 0} (qs : List Question) (before after : A) (r : Refusal) → first_no qs ≡ Some r → before ≡ leaves qs before after
does_nothing qs before after r e = ap (changed before after) (sym e)
