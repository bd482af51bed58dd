-- Spots that stay are not new.
use Rattle.std.proofs.Common.{◌≡◌, ◌∙◌, ℕ, true, eqb, List, [], ◌∷◌, Option, Some, refl, ap}
use Rattle.std.proofs.lemmas.Bool.{eq-eqb}
use Rattle.tn_letters.specs.declared.place.Place.{Place}
use Rattle.tn_letters.specs.declared.place.Place.TheVariants as place
use Rattle.tn_follow.specs.declared.spots.Spot.{Spot}
use Rattle.tn_follow.specs.Follow.{new_by, new_spots, port_number, same_place, same_spot, without}

eqb-same : (a : ℕ) → eqb a a ≡ true
eqb-same a = eq-eqb a a refl

place-same : (p : Place) → same_place p p ≡ true
place-same (place.Pending t) = eqb-same t.0
place-same (place.Transit p way) = rw (eqb-same p.0) (eqb-same (port_number way))
place-same (place.OnLink p i) = rw (eqb-same p.0) (eqb-same i)
place-same (place.InProcess p side) = rw (eqb-same p.0) (eqb-same (port_number side))
place-same (place.Slot tile slot t) = rw (eqb-same tile.0, eqb-same slot) (eqb-same t.0)

spot-same : (s : Spot) → same_spot s s ≡ true
spot-same s = rw (place-same s.place) (eqb-same s.receiver)

without-first : (x : Spot) (xs : List Spot) → without x (x ∷ xs) ≡ Some xs
without-first x xs = rw (spot-same x) refl

pub none_new : (xs : List Spot) → new_spots xs xs ≡ []
none_new [] = refl
none_new (x ∷ xs) = ap (λ (o : Option (List Spot)). new_by o x (x ∷ xs) (λ others. new_spots xs others)) (without-first x xs) ∙ none_new xs
