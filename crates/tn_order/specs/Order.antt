-- The invariant of order: along the one way to the receiver a letter that is farther has the smaller number.
use Rattle.std.specs.Prelude.{ℕ, zero, suc, ◌<◌, ◌≤◌, ◌≡◌, ◌⊎◌, List, [], ◌∷◌, map}
use Rattle.tn_order.specs.Net.{Net, In, World}

-- k steps lead from p to q
abbrev pub Leads : {P : Type 0} → Net P → ℕ → P → P → Type 0
Leads net zero p q = p ≡ q
Leads {P} net (suc k) p q = (m : P) × net.Next p m × Leads net k m q

-- a letter by its number, and how many steps it made
pub record Aged : Type 0 where
  pub number : ℕ
  pub age : ℕ

abbrev pub number_of : Aged → ℕ
number_of x = x.number

abbrev pub Among : Aged → List Aged → Type 0
Among x [] = ⊥
Among x (y ∷ ys) = (x ≡ y) ⊎ Among x ys

-- of two letters of one age the first one has the smaller number
abbrev pub InTurn : List Aged → Type 0
InTurn [] = Unit {0}
InTurn (x ∷ xs) = ((y : Aged) → Among y xs → x.age ≡ y.age → x.number < y.number) × InTurn xs

pub record Ordered {P : Type 0} (net : Net P) (w : World P) : Type 0 where
  -- the letters of each place with their ages
  pub letters : P → List Aged
  pub shows : (p : P) → map number_of (letters p) ≡ w.place p
  -- as many steps as a letter made lead from the start to its place
  pub on_way : (p : P) (x : Aged) → Among x (letters p) → Leads net x.age net.start p
  -- of two letters the one with the smaller number made no fewer steps
  pub ahead : (p q : P) (x y : Aged) → Among x (letters p) → Among y (letters q) → x.number ≤ y.number → y.age ≤ x.age
  pub in_turn : (p : P) → InTurn (letters p)
  -- what stands was sent
  pub known : (p : P) (n : ℕ) → In n (w.place p) → In n w.sent
  -- what was sent stands, or was handed or dropped
  pub kept : (n : ℕ) → In n w.sent → In n w.gone ⊎ ((p : P) × In n (w.place p))
