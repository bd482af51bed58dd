-- Items that stand at places and go from place to place, each place with a rank.
use Rattle.std.specs.Prelude.{ℕ, ◌≡◌, ◌⊎◌, Bool, true, List, [], ◌∷◌, ◌++◌}
use Rattle.std.specs.List.{AllByRecursion}

-- where the first item of a place goes: to another place, or out of all places
pub data Way (P : Type 0) : Type 0 where
  Out : Way P
  To : (place : P) → Way P

-- the way of a place's first item, what becomes of an item that comes to a place, whether a place with these items takes another
-- item, and the rank of a place
pub record Net (P K : Type 0) : Type 0 where
  pub next : P → K → Way P
  pub becomes : P → K → List K
  pub has_room : P → List K → Bool
  pub rank : P → ℕ

-- each item of each place meets what the place asks
abbrev pub AreOnWay : {P K : Type 0} → (P → K → Type 0) → (P → List K) → Type 0
AreOnWay {P} {K} Fits w = (p : P) → AllByRecursion (Fits p) (w p)

-- the first item of a place can move
pub record IsFree {P K : Type 0} (net : Net P K) (w : P → List K) : Type 0 where
  pub at : P
  pub first : K
  pub rest : List K
  pub is : w at ≡ first ∷ rest
  pub free : (q : P) → net.next at first ≡ To q → net.has_room q (w q) ≡ true

-- the first item of p goes out
pub record Leaves {P K : Type 0} (net : Net P K) (p : P) (old new : P → List K) : Type 0 where
  pub first : K
  pub is : old p ≡ first ∷ new p
  pub way : net.next p first ≡ Out
  pub each : (r : P) → (r ≡ p) ⊎ (new r ≡ old r)

-- the first item of p goes to q
pub record Goes {P K : Type 0} (net : Net P K) (p q : P) (old new : P → List K) : Type 0 where
  pub first : K
  pub is : old p ≡ first ∷ new p
  pub way : net.next p first ≡ To q
  pub room : net.has_room q (old q) ≡ true
  pub put : new q ≡ old q ++ net.becomes q first
  pub each : (r : P) → (r ≡ q) ⊎ ((r ≡ p) ⊎ (new r ≡ old r))

-- an item is new at p
pub record Enters {P K : Type 0} (p : P) (k : K) (old new : P → List K) : Type 0 where
  pub put : new p ≡ old p ++ k ∷ []
  pub each : (r : P) → (r ≡ p) ⊎ (new r ≡ old r)
