-- The parts of an event, with what a call on them asks.
use Rattle.std.specs.Prelude.{ℕ, ◌≡◌, ◌-◌, ◌<◌, Some}
use Rattle.tn_base.specs.declared.event.Event.{Event}
use Rattle.tn_base.specs.declared.event.Event.TheVariants as event
use Rattle.tn_base.specs.declared.port.Port.{Port}
use Rattle.tn_base.specs.declared.shape.ShapeNumbers.{ShapeNumbers}
use Rattle.tn_base.specs.Parts.{part_count}
use Rattle.tn_part.specs.Meeting.{port_of}
use Rattle.tn_rows.specs.Places.{Nowhere, One, Two, places}
use Rattle.tn_stamped.specs.declared.placing.EventParts.{EventParts}
use Rattle.tn_stamped.specs.declared.placing.EventParts.TheVariants as parts

-- an event is on these two parts of the machine, the lesser one first, and they are joined at this port
pub record IsPair (n : ShapeNumbers) (e : Event) (low high : ℕ) (at : Port) : Type 0 where
  pub here : places n e ≡ Two low high
  pub order : low < high
  pub within : high < part_count n
  pub port : port_of n e ≡ Some at

-- the parts of an event: none, one part of the machine, or two
abbrev pub ArePartsOf : ShapeNumbers → Event → EventParts → Type 0
ArePartsOf n e parts.Nowhere = places n e ≡ Nowhere
ArePartsOf n e (parts.One p) = (places n e ≡ One p.0) × (p.0 < part_count n)
ArePartsOf n e (parts.Two low high at) = IsPair n e low.0 high.0 at

-- the lesser part of an event on two parts, and the greater one
abbrev pub lesser_of : Event → ℕ
lesser_of (event.Turn t steps) = 0
lesser_of (event.Deliver t) = 0
lesser_of (event.Depart p l) = p.0
lesser_of (event.Arrive l p) = p.0
lesser_of (event.Route p) = 0
lesser_of event.HostPut = 0
lesser_of event.HostTake = 0
lesser_of (event.Report p) = p.0
lesser_of event.Begin = 0
lesser_of (event.Confirm p) = p.0
lesser_of event.Announce = 0
lesser_of (event.Release p) = p.0
lesser_of (event.Go p) = p.0

abbrev pub greater_of : ShapeNumbers → Event → ℕ
greater_of n (event.Turn t steps) = part_count n - 1
greater_of n (event.Deliver t) = part_count n - 1
greater_of n (event.Depart p l) = l.0
greater_of n (event.Arrive l p) = l.0
greater_of n (event.Route p) = part_count n - 1
greater_of n event.HostPut = part_count n - 2
greater_of n event.HostTake = part_count n - 3
greater_of n (event.Report p) = part_count n - 1
greater_of n event.Begin = part_count n - 1
greater_of n (event.Confirm p) = part_count n - 1
greater_of n event.Announce = part_count n - 1
greater_of n (event.Release p) = part_count n - 1
greater_of n (event.Go p) = part_count n - 1
