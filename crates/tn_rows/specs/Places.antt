-- Which parts each event is on, and by which way a link leads away from a part.
use Rattle.std.specs.Prelude.{ℕ, ◌-◌, ◌==◌, Bool, true, false, Option, Some, None, nat_lt, if◌then◌else◌}
use Rattle.tn_base.specs.declared.event.Event.{Event}
use Rattle.tn_base.specs.declared.event.Event.TheVariants as event
use Rattle.tn_base.specs.declared.ids.ThreadId.{ThreadId}
use Rattle.tn_base.specs.declared.part.Kind.{Kind}
use Rattle.tn_base.specs.declared.part.Kind.TheVariants as kind
use Rattle.tn_base.specs.declared.port.Port.{Port}
use Rattle.tn_base.specs.declared.port.Port.TheVariants as port
use Rattle.tn_base.specs.declared.shape.ShapeNumbers.{ShapeNumbers}
use Rattle.tn_base.specs.Address.{has_thread, tile_of, tile_place}
use Rattle.tn_base.specs.Parts.{kind_of, part_count, tile_part, visited}
use Rattle.tn_base.specs.Ports.{to_tile, toward}

-- the parts that an event is on: none where the machine has no such threads or parts, or they are not joined so; one; or
-- two, the host, tile or router first and the link or the detector behind it
pub data Places : Type 0 where
  Nowhere : Places
  One : ℕ → Places
  Two : ℕ → ℕ → Places

-- the part of a thread's tile, where the machine has the thread
abbrev pub part_of : ShapeNumbers → ThreadId → Option ℕ
part_of n t = if has_thread n t.0 then Some (tile_part (tile_place n (tile_of t.0))) else None

abbrev pub at_part : Option ℕ → Places
at_part None = Nowhere
at_part (Some p) = One p

-- a part is a link that leads away from part p
abbrev pub leads_from : ℕ → Kind → Bool
leads_from p kind.Host = false
leads_from p (kind.Tile tile) = false
leads_from p (kind.Router board) = false
leads_from p (kind.Link from onto) = from.0 == p
leads_from p kind.Detector = false

-- and that leads to part p
abbrev pub leads_to : ℕ → Kind → Bool
leads_to p kind.Host = false
leads_to p (kind.Tile tile) = false
leads_to p (kind.Router board) = false
leads_to p (kind.Link from onto) = onto.0 == p
leads_to p kind.Detector = false

abbrev pub is_router : Kind → Bool
is_router kind.Host = false
is_router (kind.Tile tile) = false
is_router (kind.Router board) = true
is_router (kind.Link from onto) = false
is_router kind.Detector = false

abbrev pub one_if : Bool → ℕ → Places
one_if there p = if there then One p else Nowhere

abbrev pub two_if : Bool → ℕ → ℕ → Places
two_if there p q = if there then Two p q else Nowhere

-- the detector is the last part; the link from the host comes before it, and the link to the host before that one
abbrev pub detector_part : ShapeNumbers → ℕ
detector_part n = part_count n - 1

-- the parts that an event is on
abbrev pub places : ShapeNumbers → Event → Places
places n (event.Turn t steps) = at_part (part_of n t)
places n (event.Deliver t) = at_part (part_of n t)
places n (event.Depart p l) = two_if (leads_from p.0 (kind_of n l.0)) p.0 l.0
places n (event.Arrive l p) = two_if (leads_to p.0 (kind_of n l.0)) p.0 l.0
places n (event.Route p) = one_if (is_router (kind_of n p.0)) p.0
places n event.HostPut = Two 0 (part_count n - 2)
places n event.HostTake = Two 0 (part_count n - 3)
places n (event.Report p) = two_if (nat_lt p.0 (visited n)) p.0 (detector_part n)
places n event.Begin = One (detector_part n)
places n (event.Confirm p) = two_if (nat_lt p.0 (visited n)) p.0 (detector_part n)
places n event.Announce = One (detector_part n)
places n (event.Release p) = two_if (nat_lt p.0 (visited n)) p.0 (detector_part n)
places n (event.Go p) = two_if (nat_lt p.0 (visited n)) p.0 (detector_part n)

-- the way between two neighbours, by what they are; `Here` where no link joins such parts
abbrev pub way_between : Kind → Kind → Port
way_between (kind.Tile a) (kind.Tile b) = to_tile a.0 b.0
way_between (kind.Tile a) (kind.Router b) = port.Up
way_between (kind.Tile a) kind.Host = port.Here
way_between (kind.Tile a) (kind.Link from onto) = port.Here
way_between (kind.Tile a) kind.Detector = port.Here
way_between (kind.Router a) (kind.Tile b) = port.Down
way_between (kind.Router a) (kind.Router b) = toward a.x a.y b.x b.y port.Here
way_between (kind.Router a) kind.Host = port.HostPort
way_between (kind.Router a) (kind.Link from onto) = port.Here
way_between (kind.Router a) kind.Detector = port.Here
way_between kind.Host b = port.Here
way_between (kind.Link from onto) b = port.Here
way_between kind.Detector b = port.Here

abbrev pub way_of_kind : ShapeNumbers → Kind → Port
way_of_kind n kind.Host = port.Here
way_of_kind n (kind.Tile tile) = port.Here
way_of_kind n (kind.Router board) = port.Here
way_of_kind n (kind.Link from onto) = way_between (kind_of n from.0) (kind_of n onto.0)
way_of_kind n kind.Detector = port.Here

-- the way by which a link leads away from the part that it comes from
abbrev pub link_way : ShapeNumbers → ℕ → Port
link_way n l = way_of_kind n (kind_of n l)

-- the side of a router from which a packet comes that came from a part of this kind: from the first tile of its board it
-- comes from Up; `Here` where no link leads from such a part to a router
abbrev pub side_between : Kind → Kind → Port
side_between (kind.Router a) (kind.Tile b) = port.Up
side_between (kind.Router a) (kind.Router b) = toward a.x a.y b.x b.y port.Here
side_between (kind.Router a) kind.Host = port.HostPort
side_between (kind.Router a) (kind.Link from onto) = port.Here
side_between (kind.Router a) kind.Detector = port.Here
side_between kind.Host b = port.Here
side_between (kind.Tile a) b = port.Here
side_between (kind.Link from onto) b = port.Here
side_between kind.Detector b = port.Here

abbrev pub side_of_kind : ShapeNumbers → Kind → Port
side_of_kind n kind.Host = port.Here
side_of_kind n (kind.Tile tile) = port.Here
side_of_kind n (kind.Router board) = port.Here
side_of_kind n (kind.Link from onto) = side_between (kind_of n onto.0) (kind_of n from.0)
side_of_kind n kind.Detector = port.Here

-- the side from which a link leads to a router
abbrev pub link_side : ShapeNumbers → ℕ → Port
link_side n l = side_of_kind n (kind_of n l)
