-- Where the letters of one send are, event by event.
use Rattle.std.specs.Prelude.{ℕ, ◌+◌, ◌==◌, ◌&&◌, Bool, false, List, [], ◌∷◌, ◌++◌, map, Option, Some, None, if◌then◌else◌}
use Rattle.std.specs.List.{filter, filter_map}
use Rattle.tn_base.specs.declared.event.Event.{Event}
use Rattle.tn_base.specs.declared.message.Letter.{Letter}
use Rattle.tn_base.specs.declared.port.Port.{Port}
use Rattle.tn_base.specs.declared.port.Port.TheVariants as port
use Rattle.tn_letters.specs.declared.place.Place.{Place}
use Rattle.tn_letters.specs.declared.place.Place.TheVariants as place
use Rattle.tn_letters.specs.declared.steps.BagStep.{BagStep}
use Rattle.tn_letters.specs.declared.steps.BagStep.TheVariants as bag
use Rattle.tn_letters.specs.Standing.{standing}
use Rattle.tn_letters.specs.Steps.{event_steps}
use Rattle.tn_rows.specs.Events.{happened}
use Rattle.tn_rows.specs.WorldView.{WorldView}
use Rattle.tn_follow.specs.declared.spots.Spot.{Spot}
use Rattle.tn_follow.specs.declared.sighting.Sighting.{Sighting}
use Rattle.tn_follow.specs.declared.sighting.Sighting.TheVariants as sighting

-- the number of a port in their order
abbrev pub port_number : Port → ℕ
port_number port.East = 0
port_number port.West = 1
port_number port.South = 2
port_number port.North = 3
port_number port.Up = 4
port_number port.Down = 5
port_number port.HostPort = 6
port_number port.Here = 7

abbrev pub same_place : Place → Place → Bool
same_place (place.Pending t) (place.Pending u) = t.0 == u.0
same_place (place.Transit p way) (place.Transit q to) = p.0 == q.0 && port_number way == port_number to
same_place (place.OnLink p i) (place.OnLink q j) = p.0 == q.0 && i == j
same_place (place.InProcess p side) (place.InProcess q from) = p.0 == q.0 && port_number side == port_number from
same_place (place.Slot tile slot t) (place.Slot at room u) = tile.0 == at.0 && slot == room && t.0 == u.0
same_place _ _ = false

-- two letters of the send are in one place, for one receiver
abbrev pub same_spot : Spot → Spot → Bool
same_spot a b = same_place a.place b.place && a.receiver == b.receiver

-- the letter is of the send of this number by this origin
abbrev pub is_sent_by : ℕ → ℕ → Letter → Bool
is_sent_by origin number l = l.origin == origin && l.number == number

-- where the send's letters are among these letters in their places
abbrev pub spots_in : ℕ → ℕ → List (Place × Letter) → List Spot
spots_in origin number all = map (λ (q : Place × Letter). record { place = q.0; receiver = q.1.receiver }) (filter (λ (q : Place × Letter). is_sent_by origin number q.1) all)

abbrev pub spots : ℕ → ℕ → WorldView → List Spot
spots origin number w = spots_in origin number (standing w)

abbrev pub with_first : Spot → Option (List Spot) → Option (List Spot)
with_first y None = None
with_first y (Some ys) = Some (y ∷ ys)

-- a list without the first spot that is the same as this one, if it has such a spot
abbrev pub without : Spot → List Spot → Option (List Spot)
without x [] = None
without x (y ∷ ys) = if same_spot x y then Some ys else with_first y (without x ys)

-- the spots of a list that another list does not have, each as often as it is missing there. Of spots that are the same the first are
-- those that the other list has
abbrev pub new_by : Option (List Spot) → Spot → List Spot → (List Spot → List Spot) → List Spot
new_by None x old rest = x ∷ rest old
new_by (Some less) x old rest = rest less

abbrev pub new_spots : List Spot → List Spot → List Spot
new_spots [] old = []
new_spots (x ∷ xs) old = new_by (without x old) x old (λ others. new_spots xs others)

-- the letter that a step hands, and the letter that it drops
abbrev pub letter_handed : BagStep → Option Letter
letter_handed (bag.Hand thread seen letter) = Some letter
letter_handed (bag.HostHand letter) = Some letter
letter_handed _ = None

abbrev pub letter_dropped : BagStep → Option Letter
letter_dropped (bag.Discard letter) = Some letter
letter_dropped _ = None

abbrev pub receivers : ℕ → ℕ → List Letter → List ℕ
receivers origin number letters = map (λ (l : Letter). l.receiver) (filter (is_sent_by origin number) letters)

-- the same of one letter, if there is a letter
abbrev pub received_by : ℕ → ℕ → Option Letter → List ℕ
received_by origin number None = []
received_by origin number (Some l) = if is_sent_by origin number l then l.receiver ∷ [] else []

-- what an event, which has this number, does with the send's letters: the places that they are in now and were not in before, then those
-- that it hands, then those that it drops
abbrev pub sighted_in : ℕ → ℕ → ℕ → Event → WorldView → WorldView → List Sighting
sighted_in origin number k e old new =
    map (λ (s : Spot). sighting.At k s.place s.receiver) (new_spots (spots origin number new) (spots origin number old))
    ++ map (λ r. sighting.Handed k r) (receivers origin number (filter_map letter_handed (event_steps e old)))
    ++ map (λ r. sighting.Dropped k r) (receivers origin number (filter_map letter_dropped (event_steps e old)))

abbrev pub sighted_then : ℕ → ℕ → ℕ → Event → WorldView → Option WorldView → (WorldView → List Sighting) → List Sighting
sighted_then origin number k e old None rest = []
sighted_then origin number k e old (Some new) rest = sighted_in origin number (k + 1) e old new ++ rest new

-- the same of all events in order, the first of which has the number k + 1; behind an event that is not enabled there is nothing
abbrev pub sighted_from : ℕ → ℕ → ℕ → WorldView → List Event → List Sighting
sighted_from origin number k w [] = []
sighted_from origin number k w (e ∷ es) = sighted_then origin number k e w (happened e w) (λ mid. sighted_from origin number (k + 1) mid es)

-- what is told of the send of this number by this origin
abbrev pub sightings : WorldView → List Event → ℕ → ℕ → List Sighting
sightings start events origin number = sighted_from origin number 0 start events
