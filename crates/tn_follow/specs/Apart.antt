-- Lists of spots that may be looked at one after the other.
use Rattle.std.specs.Prelude.{◌≡◌, List, [], ◌∷◌, ◌++◌, None}
use Rattle.tn_follow.specs.declared.spots.Spot.{Spot}
use Rattle.tn_follow.specs.Follow.{new_spots, without}

-- the second list has none of the spots of the first
abbrev pub HasNone : List Spot → List Spot → Type 0
HasNone [] ys = Unit {0}
HasNone (x ∷ xs) ys = (without x ys ≡ None) × HasNone xs ys

-- if two places of a machine share no spot, what is new in both is what is new in each
abbrev pub NewInEach : Type 0
NewInEach = (xs more ys others : List Spot) → HasNone xs others → HasNone more ys → new_spots (xs ++ more) (ys ++ others) ≡ new_spots xs ys ++ new_spots more others
