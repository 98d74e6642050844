-- Naming the faulty processes of a header one after another.
use Rattle.std.proofs.Common.{◌≡◌, ℕ, zero, suc, ◌+◌, ◌*◌, ◌/◌, ◌%◌, ◌^◌, ◌<◌, true, false, not, ◌||◌, ltb, Ok, Err, sym, refl, ap, ◌∙◌, rules, mod-lt, one-mul, add-one, arith, pow_pos}
use native.Mathlib.Nat.{mod-one}
use lib.Bits.{bit_or, or_shifted_r}
use lib.Pow.{mod-pow-add}
use Rattle.std.proofs.lemmas.Grind.{common_steps}
use Rattle.std.proofs.lemmas.Bool.{eqb-true, eqb-false}
use Rattle.protocol.specs.declared.refusal.Refusal.{Refusal}
use Rattle.protocol.specs.Refusals.{answer, leaves}
use Rattle.protocol.specs.Sets.{Set, bits}
use Rattle.protocol.proofs.Asking.{granted_none, refused_some, asked_yes, asked_no}
use Rattle.roll.specs.Refused.{name_questions}
use Rattle.roll.specs.Views.{Terms, named}
use Rattle.sheet.specs.Headers.{all_named, members_below, naming_questions}

-- the bits below i + 1 are those below i and the bit i
low_bits : (f i : ℕ) → f % 2 ^ (i + 1) ≡ (f / 2 ^ i % 2) * 2 ^ i + f % 2 ^ i
low_bits f i = let e : i + 1 ≡ 1 + i = omega arith in rw e (mod-pow-add f 1 i)

low_yes : (f i : ℕ) → bits f i ≡ true → bit_or (f % 2 ^ i) (2 ^ i) ≡ f % 2 ^ (i + 1)
low_yes f i e =
    let one : f / 2 ^ i % 2 ≡ 1 = eqb-true _ _ e in
    let set : bit_or (f % 2 ^ i) (1 * 2 ^ i) ≡ 1 * 2 ^ i + f % 2 ^ i = or_shifted_r 1 i (f % 2 ^ i) (mod-lt f (pow_pos i)) in
    rw (low_bits, one, one-mul) (simp one-mul at set)

low_no : (f i : ℕ) → bits f i ≡ false → f % 2 ^ i ≡ f % 2 ^ (i + 1)
low_no f i e =
    let none : f / 2 ^ i % 2 ≡ 0 = omega (arith, eqb-false (f / 2 ^ i % 2) 1 e) in
    rw (low_bits, none) (omega arith)

module _ (n : ℕ) (s : Set) where
  below_more : (i : ℕ) → members_below n s i ≡ true → (not (s i) || ltb i n) ≡ true → members_below n s (i + 1) ≡ true
  unfolding members_below
  below_more i h e = rw add-one (grind (arith, common_steps))

  below_not : (k i : ℕ) → i < k → (not (s i) || ltb i n) ≡ false → members_below n s k ≡ false
  unfolding members_below
  below_not zero i h e = absurd (omega arith)
  below_not (suc k) i h e = grind (arith, common_steps, below_not k i)

-- on a roll that names none, no process below 0 is named
pub none_named :
    (r : Terms) (f : ℕ) → r.faulty ≡ 0 → (r ≡ all_named r (f % 2 ^ 0)) × (members_below r.size (bits f) 0 ≡ true)
unfolding members_below
none_named r f e = (ap (all_named r) (e ∙ sym (mod-one f)), refl)

-- on a roll that names none at first, the processes below i are named
module _ (r : Terms) (f i : ℕ) (now : Terms) (same : now ≡ all_named r (f % 2 ^ i)) (below : members_below r.size (bits f) i ≡ true) where
  size_is : now.size ≡ r.size
  size_is = ap (λ x. x.size) same

  pub passed_over :
      bits f i ≡ false → (now ≡ all_named r (f % 2 ^ (i + 1))) × (members_below r.size (bits f) (i + 1) ≡ true)
  passed_over e = (
    same ∙ ap (all_named r) (low_no f i e),
    below_more r.size (bits f) i below (search rules),
  )

  pub named_more :
      bits f i ≡ true → (next : Terms) → Ok (tt {0}) ≡ answer (name_questions now i) (tt {0})
      → next ≡ leaves (name_questions now i) now (named now i)
      → (next ≡ all_named r (f % 2 ^ (i + 1))) × (members_below r.size (bits f) (i + 1) ≡ true)
  named_more e next a left =
      let within : ltb i now.size ≡ true = asked_yes (ltb i now.size) _ _ (granted_none _ (tt {0}) (tt {0}) a).0 in
      let done : next ≡ named now i = rw within at left in (
        done ∙ ap (λ x. named x i) same ∙ ap (all_named r) (low_yes f i e),
        below_more r.size (bits f) i below (grind (arith, common_steps, size_is)),
      )

  pub named_beyond :
      bits f i ≡ true → i < 16 → (q : Refusal) → Err q ≡ answer (name_questions now i) (tt {0})
      → Err q ≡ answer (naming_questions r.size f) (tt {0})
  named_beyond e h q a =
      let no_more = asked_no (ltb i now.size) _ q (refused_some _ (tt {0}) q a) in
      let out : ltb i r.size ≡ false = rw size_is at no_more.0 in
      let missed = below_not r.size (bits f) 16 i h (search rules) in
      rw missed (ap Err (sym no_more.1))
