-- How many of some messages have a code.
use Rattle.std.proofs.Common.{◌≡◌, ℕ, zero, suc, ◌-◌, ◌<◌, ◌≤◌, Bool, true, cond, eqb, List, [], ◌∷◌, ◌++◌, length, get_or, take, drop, refl, subst, arith}
use Rattle.std.proofs.lemmas.Bool.{eqb-true}
use Rattle.protocol.specs.Wires.{waiting, waiting_below, one_more, one_less}
use Rattle.protocol.proofs.Copies.{waiting_more}
use Rattle.wire.specs.declared.message.Message.{Message}
use Rattle.wire.specs.Messages.{code_of}
use Rattle.wire.specs.PlainWires.{copies_in}
use Rattle.wire.proofs.Coding.{code_low}

-- where there is no copy of any code, nothing waits
pub none_waiting : (g : ℕ → ℕ) → ((y : ℕ) → g y ≡ 0) → (m : ℕ) → waiting_below g m ≡ 0
unfolding waiting_below
none_waiting g is zero = refl
none_waiting g is (suc m) = let e = none_waiting g is m in let f = is m in omega arith

-- each message counts once
pub waiting_in : (ms : List Message) → waiting (copies_in ms) ≡ length ms
waiting_in [] = none_waiting (copies_in []) (λ y. refl) 32768
waiting_in (m ∷ ms) =
    let e = waiting_in ms in
    let more = waiting_more (code_of m) (copies_in ms) 32768 (code_low m) in
    omega arith

-- one message more at the end
pub copies_push : (ms : List Message) (m : Message) (y : ℕ) → copies_in (ms ++ m ∷ []) y ≡ one_more (code_of m) (copies_in ms) y
unfolding one_more
copies_push [] m y = refl
copies_push (n ∷ ms) m y = let e = copies_push ms m y in grind arith

-- a message that is there counts
pub copies_at : (ms : List Message) (i : ℕ) (d : Message) → i < length ms → 1 ≤ copies_in ms (code_of (get_or ms i d))
unfolding one_more
copies_at [] i d l = absurd (omega arith)
copies_at (m ∷ ms) zero d l = grind arith
copies_at (m ∷ ms) (suc i) d l = let e = copies_at ms i d (omega arith) in grind arith

-- and one less of it is there when it is gone
pub copies_gone :
    (ms : List Message) (i y : ℕ) (d : Message) → i < length ms
    → copies_in (take i ms ++ drop (suc i) ms) y ≡ one_less (code_of (get_or ms i d)) (copies_in ms) y
unfolding one_more one_less
copies_gone [] i y d l = absurd (omega arith)
copies_gone (m ∷ ms) zero y d l = grind arith
copies_gone (m ∷ ms) (suc i) y d l =
    go (eqb (code_of m) y) (eqb x y) (λ e. subst (λ (u : ℕ). 1 ≤ copies_in ms u) (eqb-true x y e) (copies_at ms i d (omega arith)))
    (copies_gone ms i y d (omega arith))
  where
    x : ℕ
    x = code_of (get_or ms i d)

    rest : ℕ
    rest = copies_in (take i ms ++ drop (suc i) ms) y

    go :
        (a b : Bool) → (b ≡ true → 1 ≤ copies_in ms y) → rest ≡ cond b (copies_in ms y - 1) (copies_in ms y)
        → cond a (suc rest) rest
        ≡ cond b (cond a (suc (copies_in ms y)) (copies_in ms y) - 1) (cond a (suc (copies_in ms y)) (copies_in ms y))
    go a b h e = grind arith
