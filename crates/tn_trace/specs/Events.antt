-- The lines of events.
use Rattle.std.specs.Prelude.{ℕ, ◌^◌, ◌<◌, List, [], ◌∷◌, ◌++◌, codes, decimal, flat_map}
use Rattle.tn_base.specs.declared.event.Event.{Event}
use Rattle.tn_text.specs.Lines.{feed}
use Rattle.tn_text.specs.Words.{spaced}
use Rattle.tn_base.specs.declared.event.Event.TheVariants.{Turn, Deliver, Depart, Arrive, Route, HostPut, HostTake, Report, Begin, Confirm, Announce, Release, Go}

-- a name alone, and a name followed by one number or two
abbrev pub alone : List ℕ → List ℕ
alone name = name ++ feed

abbrev pub with_one : List ℕ → ℕ → List ℕ
with_one name a = name ++ spaced (decimal a) ++ feed

abbrev pub with_two : List ℕ → ℕ → ℕ → List ℕ
with_two name a b = name ++ spaced (decimal a) ++ spaced (decimal b) ++ feed

-- the line of an event
abbrev pub event_text : Event → List ℕ
event_text (Turn thread steps) = with_two (codes "turn") thread.0 steps
event_text (Deliver thread) = with_one (codes "deliver") thread.0
event_text (Depart part link) = with_two (codes "depart") part.0 link.0
event_text (Arrive link part) = with_two (codes "arrive") link.0 part.0
event_text (Route router) = with_one (codes "route") router.0
event_text HostPut = alone (codes "hostput")
event_text HostTake = alone (codes "hosttake")
event_text (Report part) = with_one (codes "report") part.0
event_text Begin = alone (codes "begin")
event_text (Confirm part) = with_one (codes "confirm") part.0
event_text Announce = alone (codes "announce")
event_text (Release part) = with_one (codes "release") part.0
event_text (Go part) = with_one (codes "go") part.0

-- the lines of events, in order
abbrev pub events_text : List Event → List ℕ
events_text events = flat_map event_text events

-- the numbers of an event have 32 bits, as those of each event of a program have
abbrev pub IsEvent : Event → Type 0
IsEvent (Turn thread steps) = (thread.0 < 2 ^ 32) × (steps < 2 ^ 32)
IsEvent (Deliver thread) = thread.0 < 2 ^ 32
IsEvent (Depart part link) = (part.0 < 2 ^ 32) × (link.0 < 2 ^ 32)
IsEvent (Arrive link part) = (link.0 < 2 ^ 32) × (part.0 < 2 ^ 32)
IsEvent (Route router) = router.0 < 2 ^ 32
IsEvent HostPut = Unit {0}
IsEvent HostTake = Unit {0}
IsEvent (Report part) = part.0 < 2 ^ 32
IsEvent Begin = Unit {0}
IsEvent (Confirm part) = part.0 < 2 ^ 32
IsEvent Announce = Unit {0}
IsEvent (Release part) = part.0 < 2 ^ 32
IsEvent (Go part) = part.0 < 2 ^ 32

abbrev pub AreEvents : List Event → Type 0
AreEvents [] = Unit {0}
AreEvents (e ∷ es) = IsEvent e × AreEvents es
