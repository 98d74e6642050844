-- What a wire means, and what every kind of wire shows.
use Rattle.std.specs.Prelude.{◌≡◌, ℕ, zero, suc, ◌+◌, ◌-◌, ◌<◌, ◌≤◌, cond, ◌==◌, nat_lt}

-- a kind of wire, by what can be asked of its values and done to them
pub record Wire (W : Type 0) : Type 0 where
  -- how many copies of a code wait
  pub copies : W → ℕ → ℕ
  -- how many copies there is room for
  pub places : W → ℕ
  -- what is there after a code was sent
  pub send : ℕ → W → W
  -- the code that a take with the number k answers
  pub pick : W → ℕ → ℕ
  -- what is there after that take
  pub rest : W → ℕ → W

-- how many copies of the codes below m wait
unfoldable pub waiting_below : (ℕ → ℕ) → ℕ → ℕ
waiting_below copies zero = 0
waiting_below copies (suc m) = waiting_below copies m + copies m

-- how many copies wait in all: every code is below 32,768
abbrev pub waiting : (ℕ → ℕ) → ℕ
waiting copies = waiting_below copies 32768

-- one copy of x more
unfoldable pub one_more : ℕ → (ℕ → ℕ) → ℕ → ℕ
one_more x copies y = cond (x == y) (suc (copies y)) (copies y)

-- one copy of x less
unfoldable pub one_less : ℕ → (ℕ → ℕ) → ℕ → ℕ
one_less x copies y = cond (x == y) (copies y - 1) (copies y)

module _ {W : Type 0} (K : Wire W) where
  -- the places that no copy takes
  abbrev pub free : W → ℕ
  free w = K.places w - waiting (K.copies w)

  -- what every kind of wire shows; what it says of codes, it says of those below 32,768
  pub record WireLaws : Type 0 where
    -- where a place is free, a send adds one copy of its code
    pub sends :
        (x : ℕ) (w : W) → x < 32768 → 1 ≤ free w
        → (y : ℕ) → y < 32768 → K.copies (K.send x w) y ≡ one_more x (K.copies w) y
    pub send_keeps : (x : ℕ) (w : W) → x < 32768 → 1 ≤ free w → K.places (K.send x w) ≡ K.places w
    -- where a copy waits, a take answers a code of which a copy waits
    pub picks :
        (w : W) (k : ℕ) → 1 ≤ waiting (K.copies w) → (K.pick w k < 32768) × (1 ≤ K.copies w (K.pick w k))
    -- and removes one copy of it
    pub takes :
        (w : W) (k : ℕ) → 1 ≤ waiting (K.copies w)
        → (y : ℕ) → y < 32768 → K.copies (K.rest w k) y ≡ one_less (K.pick w k) (K.copies w) y
    pub take_keeps : (w : W) (k : ℕ) → 1 ≤ waiting (K.copies w) → K.places (K.rest w k) ≡ K.places w

-- values of the kind K seen as values of the kind P: what is asked of them and done to them agrees
pub record Seen {W V : Type 0} (K : Wire W) (P : Wire V) (see : W → V) : Type 0 where
  pub copies : (w : W) → K.copies w ≡ P.copies (see w)
  pub places : (w : W) → K.places w ≡ P.places (see w)
  -- where a place is free, it does not matter whether one sends first or sees first
  pub sends : (x : ℕ) (w : W) → x < 32768 → 1 ≤ free K w → see (K.send x w) ≡ P.send x (see w)
  -- where a copy waits, both answer the same code
  pub picks : (w : W) (k : ℕ) → 1 ≤ waiting (K.copies w) → K.pick w k ≡ P.pick (see w) k
  -- and it does not matter whether one takes first or sees first
  pub takes : (w : W) (k : ℕ) → 1 ≤ waiting (K.copies w) → see (K.rest w k) ≡ P.rest (see w) k

-- what waits, and the places: all that the meaning of a wire is
pub record Pool : Type 0 where
  pub copies : ℕ → ℕ
  pub places : ℕ

-- what a value of a wire means: codes from 32,768 on do not count
abbrev pub pooled : {W : Type 0} → Wire W → W → Pool
pooled K w = record { copies = λ y. cond (nat_lt y 32768) (K.copies w y) 0; places = K.places w }

-- the wire that is nothing but its meaning, and of which the next take removes a copy of x
abbrev pub pool : ℕ → Wire Pool
pool x = record {
  copies = λ w. w.copies;
  places = λ w. w.places;
  send = λ y w. record { copies = one_more y w.copies; places = w.places };
  pick = λ w k. x;
  rest = λ w k. record { copies = one_less x w.copies; places = w.places };
}
