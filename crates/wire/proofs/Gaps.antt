-- An element taken out of a list, and those after it moved down.
use Rattle.std.proofs.Common.{◌≡◌, ℕ, suc, ◌+◌, ◌-◌, ◌<◌, ◌≤◌, List, [], ◌∷◌, ◌++◌, length, get_or, take, drop, set, sym, ap, ◌∙◌, arith}
use Rattle.std.proofs.lemmas.List.{length-take, length-drop, length-append, take-append-drop, drop_more, set_at, take_more, get_or-drop, append_assoc, append-nil, get_or-append_right, take_at, take-take, drop-take}
use Rattle.wire.specs.Bags.{moved_down}

-- what stands before j while the gap moves
abbrev front : {A : Type 0} → List A → ℕ → ℕ → List A
front xs i j = take i xs ++ take (j - i) (drop (suc i) xs)

length_front : {A : Type 0} (xs : List A) (i j : ℕ) → i ≤ j → j < length xs → length (front xs i j) ≡ j
length_front xs i j le lt = simp (length-append, length-take, length-drop) (omega arith)

pub length_moved : {A : Type 0} (xs : List A) (i j : ℕ) → i ≤ j → j < length xs → length (moved_down xs i j) ≡ length xs
length_moved xs i j le lt = simp (length-append, length-take, length-drop) (omega arith)

-- at the beginning nothing has moved
pub moved_none : {A : Type 0} (xs : List A) (i : ℕ) → xs ≡ moved_down xs i i
moved_none xs i = let z : i - i ≡ 0 = omega arith in sym (simp (z, append-nil) (take-append-drop i xs))

-- one more element moves down
pub moved_more :
    {A : Type 0} (xs : List A) (i j : ℕ) (a : A) → i ≤ j → j + 1 < length xs → a ≡ get_or (moved_down xs i j) (j + 1) a
    → set (moved_down xs i j) j a ≡ moved_down xs i (j + 1)
moved_more xs i j a le lt is =
    let lf : length (front xs i j) ≡ j = length_front xs i j le (omega arith) in
    let e : drop j xs ≡ get_or xs j a ∷ drop (j + 1) xs = drop_more xs j a (omega arith) in
    let at : a ≡ get_or xs (j + 1) a =
    is ∙ get_or-append_right (front xs i j) (drop j xs) j (j + 1) a lf (omega arith)
    ∙ get_or-drop j xs (j + 1 - j) a ∙ ap (λ n. get_or xs n a) (omega arith) in
    let k : j + 1 - i ≡ j - i + 1 = omega arith in
    let lk : j - i < length (drop (suc i) xs) = simp length-drop (omega arith) in
    let last : get_or (drop (suc i) xs) (j - i) a ≡ a =
    get_or-drop (suc i) xs (j - i) a ∙ ap (λ n. get_or xs n a) (omega arith) ∙ sym at in
    let grow : take (j + 1 - i) (drop (suc i) xs) ≡ take (j - i) (drop (suc i) xs) ++ a ∷ [] =
    ap (λ n. take n (drop (suc i) xs)) k ∙ take_more (drop (suc i) xs) (j - i) a lk
    ∙ ap (λ y. take (j - i) (drop (suc i) xs) ++ y ∷ []) last in
    ap (λ r. set (front xs i j ++ r) j a) e
    ∙ set_at (front xs i j) (get_or xs j a) (drop (j + 1) xs) a j lf
    ∙ sym (ap (λ r. (take i xs ++ r) ++ drop (j + 1) xs) grow ∙ simp append_assoc)

-- of the first n elements, the one at i is gone
pub moved_front :
    {A : Type 0} (xs : List A) (i n : ℕ) → i < n → n ≤ length xs
    → take (n - 1) (moved_down xs i (n - 1)) ≡ take i (take n xs) ++ drop (suc i) (take n xs)
moved_front xs i n lt le =
    let lf = length_front xs i (n - 1) (omega arith) (omega arith) in
    let whole : suc i + (n - 1 - i) ≡ n = omega arith in
    let back : drop (suc i) (take n xs) ≡ take (n - 1 - i) (drop (suc i) xs) =
    ap (λ k. drop (suc i) (take k xs)) (sym whole) ∙ drop-take (suc i) (n - 1 - i) xs in
    take_at (front xs i (n - 1)) (drop (n - 1) xs) (n - 1) lf
    ∙ sym (ap (λ ys. ys ++ drop (suc i) (take n xs)) (take-take i n xs (omega arith)) ∙ ap (λ ys. take i xs ++ ys) back)
