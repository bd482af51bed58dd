-- The lines of what is told of a send.
use Rattle.std.specs.Prelude.{ℕ, List, ◌++◌, codes, decimal, flat_map}
use Rattle.tn_base.specs.declared.port.Port.{Port}
use Rattle.tn_base.specs.declared.port.Port.TheVariants as port
use Rattle.tn_letters.specs.declared.place.Place.{Place}
use Rattle.tn_letters.specs.declared.place.Place.TheVariants as place
use Rattle.tn_text.specs.Lines.{feed}
use Rattle.tn_text.specs.Words.{spaced}
use Rattle.tn_follow.specs.declared.sighting.Sighting.{Sighting}
use Rattle.tn_follow.specs.declared.sighting.Sighting.TheVariants as sighting

-- the name of a port
abbrev pub port_text : Port → List ℕ
port_text port.East = codes "east"
port_text port.West = codes "west"
port_text port.South = codes "south"
port_text port.North = codes "north"
port_text port.Up = codes "up"
port_text port.Down = codes "down"
port_text port.HostPort = codes "hostport"
port_text port.Here = codes "here"

-- `pending T`, `transit P PORT`, `link P I`, `process P PORT`, `slot TILE S`
abbrev pub place_text : Place → List ℕ
place_text (place.Pending t) = codes "pending" ++ spaced (decimal t.0)
place_text (place.Transit p way) = codes "transit" ++ spaced (decimal p.0) ++ spaced (port_text way)
place_text (place.OnLink p i) = codes "link" ++ spaced (decimal p.0) ++ spaced (decimal i)
place_text (place.InProcess p side) = codes "process" ++ spaced (decimal p.0) ++ spaced (port_text side)
place_text (place.Slot tile slot t) = codes "slot" ++ spaced (decimal tile.0) ++ spaced (decimal slot)

-- `at K PLACE RECEIVER`, `handed K RECEIVER`, `dropped K RECEIVER`, K being the number of the event
abbrev pub sighting_text : Sighting → List ℕ
sighting_text (sighting.At k place receiver) = codes "at" ++ spaced (decimal k) ++ spaced (place_text place) ++ spaced (decimal receiver) ++ feed
sighting_text (sighting.Handed k receiver) = codes "handed" ++ spaced (decimal k) ++ spaced (decimal receiver) ++ feed
sighting_text (sighting.Dropped k receiver) = codes "dropped" ++ spaced (decimal k) ++ spaced (decimal receiver) ++ feed

-- the lines of all, in order
abbrev pub sightings_text : List Sighting → List ℕ
sightings_text all = flat_map sighting_text all
