-- Tests of the three contents of AUX, one after the other.
use Rattle.std.proofs.Common.{◌≡◌, Bool, true, ◌||◌, ◌⊎◌, inl, inr}
use Rattle.std.proofs.lemmas.Bool.{or_left, or_right, or_cases}
use Rattle.protocol.specs.declared.value.Value.TheVariants.{Hold, Release}
use Rattle.protocol.specs.declared.value.Values.{Values}
use Rattle.protocol.specs.declared.value.Values.TheVariants.{Only, Both}

module _ (test : Values → Bool) where
  -- some content passes
  abbrev pub any : Bool
  any = test (Only Hold) || (test (Only Release) || test Both)

  pub any_by : (c : Values) → test c ≡ true → any ≡ true
  any_by (Only Hold) e = or_left (test (Only Hold)) (test (Only Release) || test Both) e
  any_by (Only Release) e =
      or_right (test (Only Hold)) (test (Only Release) || test Both) (or_left (test (Only Release)) (test Both) e)
  any_by Both e =
      or_right (test (Only Hold)) (test (Only Release) || test Both) (or_right (test (Only Release)) (test Both) e)

  pub any_which : any ≡ true → (c : Values) × (test c ≡ true)
  any_which e = first (or_cases (test (Only Hold)) (test (Only Release) || test Both) e)
    where
      second : (test (Only Release) ≡ true) ⊎ (test Both ≡ true) → (c : Values) × (test c ≡ true)
      second (inl k) = (Only Release, k)
      second (inr k) = (Both, k)

      first : (test (Only Hold) ≡ true) ⊎ ((test (Only Release) || test Both) ≡ true) → (c : Values) × (test c ≡ true)
      first (inl k) = (Only Hold, k)
      first (inr k) = second (or_cases (test (Only Release)) (test Both) k)
