-- What is new on each part of a machine.
use Rattle.std.specs.Prelude.{ℕ, ◌≡◌, ◌<◌, List, [], ◌∷◌, ◌++◌, Some, map}
use Rattle.std.specs.List.{filter_map}
use Rattle.tn_base.specs.declared.event.Event.{Event}
use Rattle.tn_base.specs.declared.shape.ShapeNumbers.{ShapeNumbers}
use Rattle.tn_base.specs.Address.{tile_of, tile_place}
use Rattle.tn_base.specs.Parts.{part_count, tile_part}
use Rattle.tn_base.specs.Shape.{WithinLimits}
use Rattle.tn_keys.specs.Copies.{each_below}
use Rattle.tn_letters.specs.declared.place.Place.{Place}
use Rattle.tn_letters.specs.declared.place.Place.TheVariants as place
use Rattle.tn_letters.specs.Standing.{standing_on}
use Rattle.tn_rows.specs.Events.{IsWorld, happened}
use Rattle.tn_rows.specs.Places.{Places, Nowhere, One, Two, places}
use Rattle.tn_rows.specs.WorldView.{WorldView}
use Rattle.tn_letters.specs.declared.steps.BagStep.{BagStep}
use Rattle.tn_stamped.specs.declared.placing.EventParts.{EventParts}
use Rattle.tn_stamped.specs.declared.placing.EventParts.TheVariants as parts
use Rattle.tn_follow.specs.declared.sighting.Sighting.{Sighting}
use Rattle.tn_follow.specs.declared.sighting.Sighting.TheVariants as sighting
use Rattle.tn_follow.specs.declared.spots.Spot.{Spot}
use Rattle.tn_follow.specs.Follow.{letter_dropped, letter_handed, new_spots, receivers, spots, spots_in}

-- the part that a place is on
abbrev pub part_at : ShapeNumbers → Place → ℕ
part_at n (place.Pending t) = tile_part (tile_place n (tile_of t.0))
part_at n (place.Transit p way) = p.0
part_at n (place.OnLink p i) = p.0
part_at n (place.InProcess p side) = p.0
part_at n (place.Slot tile slot t) = tile_part (tile_place n tile.0)

-- each of these spots is on this part
abbrev pub AreOn : ShapeNumbers → ℕ → List Spot → Type 0
AreOn n p [] = Unit {0}
AreOn n p (s ∷ ss) = (part_at n s.place ≡ p) × AreOn n p ss

-- where the send's letters are on the part of this number
abbrev pub spots_on : ℕ → ℕ → WorldView → ℕ → List Spot
spots_on origin number w p = spots_in origin number (standing_on w p)

-- the letters that are listed on a part are in places on this part. So two parts share no spot
abbrev pub StandOnTheirPart : Type 0
StandOnTheirPart = (origin number : ℕ) (w : WorldView) (p : ℕ) → WithinLimits w.shape → IsWorld w → p < part_count w.shape → AreOn w.shape p (spots_on origin number w p)

-- the spots on the part of this number that are new
abbrev pub new_on : ℕ → ℕ → WorldView → WorldView → ℕ → List Spot
new_on origin number old new p = new_spots (spots_on origin number new p) (spots_on origin number old p)

-- what is new in a whole machine is what is new on each part, by part
abbrev pub NewByPart : Type 0
NewByPart = (origin number : ℕ) (old new : WorldView) → WithinLimits old.shape → new.shape ≡ old.shape → IsWorld old → IsWorld new
    → new_spots (spots origin number new) (spots origin number old) ≡ each_below (part_count old.shape) (new_on origin number old new)

-- what is new on the parts of an event
abbrev pub new_at : ℕ → ℕ → WorldView → WorldView → Places → List Spot
new_at origin number old new Nowhere = []
new_at origin number old new (One p) = new_on origin number old new p
new_at origin number old new (Two p q) = new_on origin number old new p ++ new_on origin number old new q

-- of two parts the lesser one comes first, and each is a part of the machine
abbrev pub AreInOrder : ShapeNumbers → Places → Type 0
AreInOrder n Nowhere = Unit {0}
AreInOrder n (One p) = p < part_count n
AreInOrder n (Two p q) = (p < q) × (q < part_count n)

-- an event makes nothing new but on its own parts
abbrev pub NewAtItsParts : Type 0
NewAtItsParts = (origin number : ℕ) (e : Event) (old new : WorldView) → WithinLimits old.shape → IsWorld old → happened e old ≡ Some new → AreInOrder old.shape (places old.shape e)
    → new_spots (spots origin number new) (spots origin number old) ≡ new_at origin number old new (places old.shape e)

-- where an event is, by what code knows of its parts
abbrev pub places_of : EventParts → Places
places_of parts.Nowhere = Nowhere
places_of (parts.One p) = One p.0
places_of (parts.Two p q port) = Two p.0 q.0

-- where the send's letters are on the only part, or on the lesser of two parts; and on the greater one
abbrev pub lesser_spots : ℕ → ℕ → WorldView → Places → List Spot
lesser_spots origin number w Nowhere = []
lesser_spots origin number w (One p) = spots_on origin number w p
lesser_spots origin number w (Two p q) = spots_on origin number w p

abbrev pub greater_spots : ℕ → ℕ → WorldView → Places → List Spot
greater_spots origin number w Nowhere = []
greater_spots origin number w (One p) = []
greater_spots origin number w (Two p q) = spots_on origin number w q

-- the send's letters that steps hand, then those that they drop
abbrev pub ends_in : ℕ → ℕ → ℕ → List BagStep → List Sighting
ends_in origin number k steps =
    map (λ r. sighting.Handed k r) (receivers origin number (filter_map letter_handed steps)) ++ map (λ r. sighting.Dropped k r) (receivers origin number (filter_map letter_dropped steps))
