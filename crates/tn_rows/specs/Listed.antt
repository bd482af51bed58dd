-- The events that can be enabled, in their order.
use Rattle.std.specs.Prelude.{ℕ, ◌++◌, ◌∷◌, [], List, Bool, map, if◌then◌else◌}
use Rattle.std.specs.List.{flat_map, range_with_len}
use Rattle.tn_base.specs.declared.event.Event.{Event}
use Rattle.tn_base.specs.declared.event.Event.TheVariants as event
use Rattle.tn_base.specs.declared.ids.PartId.{PartId}
use Rattle.tn_base.specs.declared.ids.ThreadId.{ThreadId}
use Rattle.tn_base.specs.declared.shape.ShapeNumbers.{ShapeNumbers}
use Rattle.tn_base.specs.Address.{thread_at}
use Rattle.tn_base.specs.Parts.{kind_of, part_count, visited}
use Rattle.tn_base.specs.Shape.{thread_count}
use Rattle.tn_rows.specs.Places.{is_router, leads_from, leads_to}

-- the thread at a place of the machine by ascending address
abbrev pub nth_thread : ShapeNumbers → ℕ → ThreadId
nth_thread n i = record { 0 = thread_at n i }

abbrev pub part_id : ℕ → PartId
part_id p = record { 0 = p }

abbrev pub event_if : Bool → Event → List Event
event_if there e = if there then e ∷ [] else []

-- turns, by thread; a turn of one step stands for all
abbrev pub turns : ShapeNumbers → List Event
turns n = map (λ i. event.Turn (nth_thread n i) 1) (range_with_len 0 (thread_count n))

-- deliveries, by thread
abbrev pub deliveries : ShapeNumbers → List Event
deliveries n = map (λ i. event.Deliver (nth_thread n i)) (range_with_len 0 (thread_count n))

-- departures from a part, by link; and all of them, by part
abbrev pub departures_from : ShapeNumbers → ℕ → List Event
departures_from n p = flat_map (λ l. event_if (leads_from p (kind_of n l)) (event.Depart (part_id p) (part_id l))) (range_with_len 0 (part_count n))

abbrev pub departures : ShapeNumbers → List Event
departures n = flat_map (departures_from n) (range_with_len 0 (part_count n))

-- arrivals from a link; and all of them, by link
abbrev pub arrivals_from : ShapeNumbers → ℕ → List Event
arrivals_from n l = flat_map (λ p. event_if (leads_to p (kind_of n l)) (event.Arrive (part_id l) (part_id p))) (range_with_len 0 (part_count n))

abbrev pub arrivals : ShapeNumbers → List Event
arrivals n = flat_map (arrivals_from n) (range_with_len 0 (part_count n))

-- routings, by router
abbrev pub routings : ShapeNumbers → List Event
routings n = flat_map (λ p. event_if (is_router (kind_of n p)) (event.Route (part_id p))) (range_with_len 0 (part_count n))

-- the host's events: it puts a message on its link, and it takes a packet from its link
abbrev pub of_host : List Event
of_host = event.HostPut ∷ event.HostTake ∷ []

-- an event of the detector with each part that it visits, by part
abbrev pub by_part : (PartId → Event) → ShapeNumbers → List Event
by_part e n = map (λ i. e (part_id i)) (range_with_len 0 (visited n))

-- the detector's events: parts report, it begins, it confirms parts, it announces, it releases parts and lets them go on
abbrev pub reports : ShapeNumbers → List Event
reports n = by_part event.Report n

abbrev pub confirmations : ShapeNumbers → List Event
confirmations n = by_part event.Confirm n

abbrev pub releases : ShapeNumbers → List Event
releases n = by_part event.Release n

abbrev pub goings : ShapeNumbers → List Event
goings n = by_part event.Go n

abbrev pub of_detector : ShapeNumbers → List Event
of_detector n = reports n ++ (event.Begin ∷ []) ++ confirmations n ++ (event.Announce ∷ []) ++ releases n ++ goings n

-- the events that can be enabled, in their order
abbrev pub listed : ShapeNumbers → List Event
listed n = turns n ++ deliveries n ++ departures n ++ arrivals n ++ routings n ++ of_host ++ of_detector n
