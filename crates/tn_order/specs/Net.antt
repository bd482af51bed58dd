-- Letters of one origin for one receiver, as numbers in places, and what can happen to them.
use Rattle.std.specs.Prelude.{ℕ, ◌<◌, ◌≡◌, ◌≢◌, ◌⊎◌, List, [], ◌∷◌, ◌++◌}

-- the place at which the letters are sent, and to which place they go from each place
pub record Net (P : Type 0) : Type 1 where
  pub start : P
  pub Next : P → P → Type 0

-- at most one place comes next, and it is another place
pub record IsNet {P : Type 0} (net : Net P) : Type 0 where
  pub one : (p q r : P) → net.Next p q → net.Next p r → q ≡ r
  pub onward : (p q : P) → net.Next p q → q ≢ p

abbrev pub In : ℕ → List ℕ → Type 0
In n [] = ⊥
In n (x ∷ xs) = (n ≡ x) ⊎ In n xs

-- by place the numbers of the letters that stand there, the first one first; the numbers that were sent; and those that were
-- handed or dropped
pub record World (P : Type 0) : Type 0 where
  pub place : P → List ℕ
  pub sent : List ℕ
  pub gone : List ℕ

-- a letter is sent: its number is above all that were sent
pub record Sends {P : Type 0} (net : Net P) (n : ℕ) (old new : World P) : Type 0 where
  pub above : (m : ℕ) → In m old.sent → m < n
  pub put : new.place net.start ≡ old.place net.start ++ n ∷ []
  pub each : (r : P) → (r ≡ net.start) ⊎ (new.place r ≡ old.place r)
  pub sent : new.sent ≡ n ∷ old.sent
  pub gone : new.gone ≡ old.gone

-- the first letter of a place goes to the next place, behind all that stand there
pub record Moves {P : Type 0} (net : Net P) (p q : P) (old new : World P) : Type 0 where
  pub first : ℕ
  pub is : old.place p ≡ first ∷ new.place p
  pub way : net.Next p q
  pub put : new.place q ≡ old.place q ++ first ∷ []
  pub each : (r : P) → (r ≡ q) ⊎ ((r ≡ p) ⊎ ((r ≢ p) × (new.place r ≡ old.place r)))
  pub sent : new.sent ≡ old.sent
  pub gone : new.gone ≡ old.gone

-- the first letter of a place leaves: it is dropped anywhere, or handed
pub record Leaves {P : Type 0} (p : P) (n : ℕ) (old new : World P) : Type 0 where
  pub is : old.place p ≡ n ∷ new.place p
  pub each : (r : P) → (r ≡ p) ⊎ ((r ≢ p) × (new.place r ≡ old.place r))
  pub sent : new.sent ≡ old.sent
  pub gone : new.gone ≡ n ∷ old.gone

-- all letters of a place are dropped
pub record Clears {P : Type 0} (p : P) (old new : World P) : Type 0 where
  pub none : new.place p ≡ []
  pub each : (r : P) → (r ≡ p) ⊎ (new.place r ≡ old.place r)
  pub sent : new.sent ≡ old.sent
  pub gone : (n : ℕ) → In n (old.place p) ⊎ In n old.gone → In n new.gone

-- nothing changes for this origin and this receiver
pub record Rests {P : Type 0} (old new : World P) : Type 0 where
  pub each : (r : P) → new.place r ≡ old.place r
  pub sent : new.sent ≡ old.sent
  pub gone : new.gone ≡ old.gone

pub data Change (P : Type 0) : Type 0 where
  Send : (n : ℕ) → Change P
  Move : (from to : P) → Change P
  Leave : (from : P) (n : ℕ) → Change P
  Clear : (from : P) → Change P
  Rest : Change P

abbrev pub Does : {P : Type 0} → Net P → Change P → World P → World P → Type 0
Does net (Send n) old new = Sends net n old new
Does net (Move p q) old new = Moves net p q old new
Does net (Leave p n) old new = Leaves p n old new
Does net (Clear p) old new = Clears p old new
Does net Rest old new = Rests old new
