-- How far the search has come.
use Rattle.std.specs.Prelude.{ℕ, Bool, true, false, ◌≡◌, ◌<◌, ◌≤◌, List, [], ◌∷◌, ◌++◌, length, slice_index_or, take, if◌then◌else◌}
use Rattle.polite_place.specs.Order.{AllBelow, bfs, has, targets, times}

-- a vertex at the end of the order, if it has no place yet
abbrev pub add : List ℕ → ℕ → List ℕ
add order v = if has order v then order else order ++ v ∷ []

abbrev pub add_all : List ℕ → List ℕ → List ℕ
add_all order [] = order
add_all order (v ∷ vs) = add_all (add order v) vs

-- the flags say which vertices have a place
pub record Synced (order : List ℕ) (met : List Bool) : Type 0 where
  pub flags : (v : ℕ) → v < length met → slice_index_or met v false ≡ has order v

abbrev pub AllHave : List ℕ → List ℕ → Type 0
AllHave placed [] = Unit {0}
AllHave placed (v ∷ vs) = (has placed v ≡ true) × AllHave placed vs

-- the order so far is the beginning of the order, and all targets of its first vertices have a place
pub record Scan (outs : List (List ℕ)) (order : List ℕ) (done : ℕ) : Type 0 where
  pub ordered : order ≡ bfs outs (length order)
  pub within : done ≤ length order
  pub scanned : AllHave order (targets outs (take done order))

-- no vertex has two places
pub record Distinct (n : ℕ) (order : List ℕ) : Type 0 where
  pub below : AllBelow n order
  pub once : (v : ℕ) → times order v ≡ (if has order v then 1 else 0)

-- what had a place keeps it
pub record Extends (old new : List ℕ) : Type 0 where
  pub keeps : (v : ℕ) → has old v ≡ true → has new v ≡ true
