-- A machine as the laws of rest see it: what its parts show, and its events.
use Rattle.std.specs.Prelude.{ℕ, ◌-◌, List, Option, Some, length, map, option_map}
use Rattle.tn_base.specs.declared.event.Event.{Event}
use Rattle.tn_base.specs.declared.event.Event.TheVariants as event
use Rattle.tn_base.specs.declared.shape.ShapeNumbers.{ShapeNumbers}
use Rattle.tn_base.specs.Parts.{part_count, visited}
use Rattle.tn_detect.specs.DetectorView.{fresh_state}
use Rattle.tn_rest.specs.Happens.{Announce, Arrive, Begin, Confirm, Depart, Go, Release, Report, RestEvent, Work}
use Rattle.tn_rest.specs.RestView.{RestView}
use Rattle.tn_rest.specs.Seen.{Detector, Link, SeenPart, Visited, seen}
use Rattle.tn_rows.specs.PartView.{PartView, TileV, RouterV, LinkV, HostV, DetectorV, AbsentV}
use Rattle.tn_rows.specs.Places.{part_of}
use Rattle.tn_rows.specs.WorldView.{WorldView}
use Rattle.tn_quiet.specs.Shows.{host_shows, router_shows, tile_shows}

-- what a part shows. Where no part is, a fresh detector is shown
abbrev pub shows : PartView → SeenPart
shows (TileV v) = Visited (tile_shows v.now)
shows (RouterV v) = Visited (router_shows v.now)
shows (LinkV v) = Link (length v.packets)
shows (HostV s) = Visited (host_shows s)
shows (DetectorV v) = Detector v.now
shows AbsentV = Detector (fresh_state 0)

abbrev pub shown : WorldView → List SeenPart
shown w = map shows w.parts

-- how many links there are: all parts behind the visited ones, but for the last, which is the detector
abbrev pub link_count : ShapeNumbers → ℕ
link_count n = part_count n - 1 - visited n

-- the number of a part among the links
abbrev pub link_number : ShapeNumbers → ℕ → ℕ
link_number n l = l - visited n

-- the event of the laws that an event of a machine is
abbrev pub as_rest : ShapeNumbers → Event → Option RestEvent
as_rest n (event.Turn t k) = option_map Work (part_of n t)
as_rest n (event.Deliver t) = option_map Work (part_of n t)
as_rest n (event.Depart p l) = Some (Depart p.0 (link_number n l.0))
as_rest n (event.Arrive l p) = Some (Arrive (link_number n l.0) p.0)
as_rest n (event.Route p) = Some (Work p.0)
as_rest n event.HostPut = Some (Depart 0 (link_number n (part_count n - 2)))
as_rest n event.HostTake = Some (Arrive (link_number n (part_count n - 3)) 0)
as_rest n (event.Report p) = Some (Report p.0)
as_rest n event.Begin = Some Begin
as_rest n (event.Confirm p) = Some (Confirm p.0)
as_rest n event.Announce = Some Announce
as_rest n (event.Release p) = Some (Release p.0)
as_rest n (event.Go p) = Some (Go p.0)

-- the machine as the laws of rest see it
abbrev pub rest_of : WorldView → RestView
rest_of w = seen (visited w.shape) (link_count w.shape) (shown w)
