-- What the bin and the values of a round say of those that were noted.
use Rattle.std.proofs.Common.{◌≡◌, ℕ, Bool, true, false, cond, ◌&&◌, Some, None, Option, refl, subst, arith}
use Rattle.std.proofs.lemmas.Bool.{and_parts, both_ways, eqb-true}
use Rattle.protocol.specs.declared.value.Value.{Value}
use Rattle.protocol.specs.declared.value.Value.TheVariants.{Hold, Release}
use Rattle.protocol.specs.declared.value.Values.{Values}
use Rattle.protocol.specs.declared.value.Values.TheVariants.{Only, Both}
use Rattle.protocol.specs.declared.payload.Payload.TheVariants.{Aux}
use Rattle.protocol.specs.Facts.{Facts}
use Rattle.protocol.specs.Values.{same_value, values_with, has}
use Rattle.protocol.specs.Processes.{Process, any_aux}
use Rattle.protocol.specs.Rounds.{in_bin, bin, single, double, values}
use Rattle.protocol.proofs.Options.{some_same}

-- values that test as the same are the same
pub same_values : (v w : Value) → same_value v w ≡ true → v ≡ w
same_values Hold Hold e = refl
same_values Hold Release e = let z = eqb-true 0 1 e in absurd (omega arith)
same_values Release Hold e = let z = eqb-true 1 0 e in absurd (omega arith)
same_values Release Release e = refl

-- why round r can close with these values
pub data Evidence (f : Facts) (x : Process) (r : ℕ) : Values → Type 0 where
  alone :
      (v : Value) → in_bin f x r v ≡ true → f.closing (x.noted r (Aux (Only v))) ≡ true → Evidence f x r (Only v)
  mixed :
      in_bin f x r Hold ≡ true → in_bin f x r Release ≡ true → f.closing (any_aux x r) ≡ true → Evidence f x r Both

module _ (f : Facts) (x : Process) (r : ℕ) where
  -- the values of the round, by what can close it
  abbrev chosen : Bool → Bool → Bool → Option Values
  chosen h l b = cond h (Some (Only Hold)) (cond l (Some (Only Release)) (cond b (Some Both) None))

  alone_by : (v : Value) → single f x r v ≡ true → Evidence f x r (Only v)
  alone_by v e = let t = and_parts (in_bin f x r v) (f.closing (x.noted r (Aux (Only v)))) e in alone v t.0 t.1

  mixed_by : double f x r ≡ true → Evidence f x r Both
  mixed_by e =
      let t = and_parts (in_bin f x r Hold) (in_bin f x r Release && f.closing (any_aux x r)) e in
      let u = and_parts (in_bin f x r Release) (f.closing (any_aux x r)) t.1 in mixed t.0 u.0 u.1

  pub values_evidence : (c : Values) → values f x r ≡ Some c → Evidence f x r c
  unfolding values
  values_evidence c = go (single f x r Hold) (single f x r Release) (double f x r) refl refl refl
    where
      go : (h l b : Bool) → single f x r Hold ≡ h → single f x r Release ≡ l → double f x r ≡ b → chosen h l b ≡ Some c
          → Evidence f x r c
      go true l b eh el eb e = subst (Evidence f x r) (some_same (Only Hold) c e) (alone_by Hold eh)
      go false true b eh el eb e = subst (Evidence f x r) (some_same (Only Release) c e) (alone_by Release el)
      go false false true eh el eb e = subst (Evidence f x r) (some_same Both c e) (mixed_by eb)
      go false false false eh el eb e = absurd cc

  -- a round without values cannot close with one value, nor with both
  pub none_single : (v : Value) → values f x r ≡ None → single f x r v ≡ true → ⊥
  unfolding values
  none_single v = go v (single f x r Hold) (single f x r Release) (double f x r) refl refl
    where
      go : (v : Value) (h l b : Bool) → single f x r Hold ≡ h → single f x r Release ≡ l → chosen h l b ≡ None
          → single f x r v ≡ true → ⊥
      go Hold true l b eh el e k = absurd cc
      go Hold false l b eh el e k = both_ways (single f x r Hold) eh k
      go Release true l b eh el e k = absurd cc
      go Release false true b eh el e k = absurd cc
      go Release false false b eh el e k = both_ways (single f x r Release) el k

  pub none_double : values f x r ≡ None → double f x r ≡ true → ⊥
  unfolding values
  none_double = go (single f x r Hold) (single f x r Release) (double f x r)
    where
      go : (h l b : Bool) → chosen h l b ≡ None → b ≡ true → ⊥
      go true l b e k = absurd cc
      go false true b e k = absurd cc
      go false false true e k = absurd cc
      go false false false e k = both_ways false refl k

  -- a value that is accepted makes a bin
  pub bin_some : (v : Value) → in_bin f x r v ≡ true → (c : Values) × (bin f x r ≡ Some c)
  unfolding bin
  bin_some v = go v (in_bin f x r Hold) (in_bin f x r Release) refl refl
    where
      go : (v : Value) (h l : Bool) → in_bin f x r Hold ≡ h → in_bin f x r Release ≡ l → in_bin f x r v ≡ true
          → (c : Values) × (values_with h l ≡ Some c)
      go v true true eh el k = (Both, refl)
      go v true false eh el k = (Only Hold, refl)
      go v false true eh el k = (Only Release, refl)
      go Hold false false eh el k = absurd (both_ways (in_bin f x r Hold) eh k)
      go Release false false eh el k = absurd (both_ways (in_bin f x r Release) el k)

  -- the bin has only what is accepted
  pub bin_has : (c : Values) → bin f x r ≡ Some c → (v : Value) → has c v ≡ true → in_bin f x r v ≡ true
  unfolding bin
  bin_has c e v = go v (in_bin f x r Hold) (in_bin f x r Release) refl refl e
    where
      lacks : (d : Values) (v : Value) → d ≡ c → has d v ≡ false → has c v ≡ true → in_bin f x r v ≡ true
      lacks d v q n k = absurd (both_ways (has c v) (subst (λ (u : Values). has u v ≡ false) q n) k)

      go : (v : Value) (h l : Bool) → in_bin f x r Hold ≡ h → in_bin f x r Release ≡ l → values_with h l ≡ Some c
          → has c v ≡ true → in_bin f x r v ≡ true
      go Hold true l eh el q k = eh
      go Release h true eh el q k = el
      go Hold false true eh el q k = lacks (Only Release) Hold (some_same (Only Release) c q) refl k
      go Hold false false eh el q k = absurd cc
      go Release true false eh el q k = lacks (Only Hold) Release (some_same (Only Hold) c q) refl k
      go Release false false eh el q k = absurd cc

  -- a round with values has a bin
  pub values_bin : (c : Values) → values f x r ≡ Some c → (b : Values) × (bin f x r ≡ Some b)
  values_bin c e = go (values_evidence c e)
    where
      go : {d : Values} → Evidence f x r d → (b : Values) × (bin f x r ≡ Some b)
      go (alone v a k) = bin_some v a
      go (mixed a b k) = bin_some Hold a
