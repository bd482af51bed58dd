-- What each event makes of a machine, if the event is enabled. A part does a deed of its own, which `deed_of` finds from the event and
-- what crosses; an event on two parts is a deed of each with the same crossing.
use Rattle.std.specs.Prelude.{ℕ, ◌≡◌, ◌<◌, ◌∷◌, [], List, length, Option, Some, None, option_and_then, option_map, slice_get, slice_index_or, slice_set, if◌then◌else◌}
use Rattle.tn_base.specs.declared.event.Event.{Event}
use Rattle.tn_base.specs.declared.event.Event.TheVariants as event
use Rattle.tn_base.specs.declared.message.Packet.{Packet}
use Rattle.tn_base.specs.declared.part.Kind.{Kind}
use Rattle.tn_base.specs.declared.part.Kind.TheVariants as kind
use Rattle.tn_base.specs.declared.shape.ShapeNumbers.{ShapeNumbers}
use Rattle.tn_base.specs.Parts.{kind_of, part_count, visited}
use Rattle.tn_host.specs.HostView.{HostState}
use Rattle.tn_host.specs.Rows.{host_deed, offered as host_offers, host_facts}
use Rattle.tn_detect.specs.declared.state.DetectorState.{DetectorState}
use Rattle.tn_detect.specs.DetectorView.{DetectorView, IsDetector, now_by as detector_now_by}
use Rattle.tn_detect.specs.Notes.{value_of}
use Rattle.tn_node.specs.declared.facts.PartFacts.{PartFacts}
use Rattle.tn_rows.specs.DetectorDeed.{detector_deed}
use Rattle.tn_link.specs.LinkRows.{front_of, put_in, take_from}
use Rattle.tn_link.specs.LinkView.{LinkView}
use Rattle.tn_node.specs.Deed.{Deed}
use Rattle.tn_node.specs.Deed as deed
use Rattle.tn_node.specs.NodeRows.{offered}
use Rattle.tn_node.specs.SamePacket.{is_packet}
use Rattle.tn_rows.specs.PartView.{PartView, TileV, RouterV, LinkV, HostV, DetectorV, AbsentV}
use Rattle.tn_rows.specs.Places.{Places, Nowhere, One, Two, link_side, link_way, places}
use Rattle.tn_rows.specs.WorldView.{WorldView}
use Rattle.tn_router.specs.RouterView.{RouterPlan, RouterView, now_by as router_now_by}
use Rattle.tn_router.specs.declared.state.RouterState.{RouterState}
use Rattle.tn_router.specs.Rows.{router_deed, router_facts}
use Rattle.tn_stamp.specs.declared.entry.Crossing.{Crossing}
use Rattle.tn_stamp.specs.declared.entry.Crossing.TheVariants as crossing
use Rattle.tn_stamp.specs.declared.entry.Entry.{Entry}
use Rattle.tn_tile.specs.Rows.{tile_deed, tile_facts}
use Rattle.tn_tile.specs.declared.state.TileState.{TileState}
use Rattle.tn_tile.specs.TileView.{TilePlan, TileView, now_by}

-- the deed of a part in an event with this crossing, if no link is named
abbrev pub plain_deed : Event → Crossing → Option Deed
plain_deed (event.Turn t k) crossing.None = Some (deed.Turn t k)
plain_deed (event.Deliver t) crossing.None = Some (deed.Deliver t)
plain_deed (event.Route p) crossing.None = Some deed.Route
plain_deed event.HostPut (crossing.Packet k) = Some (deed.HostPut k)
plain_deed event.HostTake (crossing.Packet k) = Some (deed.HostTake k)
plain_deed (event.Report p) (crossing.View f) = Some (deed.Report p.0 f)
plain_deed event.Begin crossing.None = Some deed.Begin
plain_deed (event.Confirm p) (crossing.View f) = Some (deed.Confirm p.0 f)
plain_deed event.Announce crossing.None = Some deed.Announce
plain_deed (event.Release p) (crossing.View f) = Some (deed.Release p.0 f)
plain_deed (event.Go p) (crossing.View f) = Some (deed.Go p.0 f)
plain_deed e c = None

-- the deed of a tile or router in an event with this crossing. Here and in `given_to` alone a part's ports are found from the number
-- of a link
abbrev pub deed_of : ShapeNumbers → Event → Crossing → Option Deed
deed_of n (event.Depart p l) (crossing.Packet k) = Some (deed.Give (link_way n l.0) k)
deed_of n (event.Arrive l p) (crossing.Packet k) = Some (deed.Take (link_side n l.0) k)
deed_of n e c = plain_deed e c

-- a tile's state after a deed, if there is a deed and the tile can do it; a router's and the host's
abbrev pub tile_did : TilePlan → TileState → Option Deed → Option TileState
tile_did plan s None = None
tile_did plan s (Some d) = tile_deed plan d s

abbrev pub router_did : RouterPlan → RouterState → Option Deed → Option RouterState
router_did plan s None = None
router_did plan s (Some d) = router_deed plan d s

abbrev pub host_did : HostState → Option Deed → Option HostState
host_did s None = None
host_did s (Some d) = host_deed d s

abbrev pub detector_did : ℕ → DetectorState → Option Deed → Option DetectorState
detector_did visited s None = None
detector_did visited s (Some d) = detector_deed visited d s

-- a tile after its side of an event, a router, the host, and the detector. No event changes a plan
abbrev pub tile_row : Event → Crossing → TileView → Option TileView
tile_row e c v = now_by v (tile_did v.plan v.now (deed_of v.plan.shape e c))

abbrev pub router_row : Event → Crossing → RouterView → Option RouterView
router_row e c v = router_now_by v (router_did v.plan v.now (deed_of v.plan.shape e c))

abbrev pub host_row : Event → Crossing → HostState → Option HostState
host_row e c s = host_did s (plain_deed e c)

abbrev pub detector_row : Event → Crossing → DetectorView → Option DetectorView
detector_row e c v = detector_now_by v (detector_did v.visited v.now (plain_deed e c))

-- a link after its side. It takes any packet where there is room, and gives the first one
abbrev pub link_row : Event → Crossing → LinkView → Option LinkView
link_row (event.Depart p l) (crossing.Packet k) v = put_in k v
link_row (event.Arrive l p) (crossing.Packet k) v = if is_packet k (front_of v) then take_from v else None
link_row event.HostPut (crossing.Packet k) v = put_in k v
link_row event.HostTake (crossing.Packet k) v = if is_packet k (front_of v) then take_from v else None
link_row e c v = None

-- a part after its side of an event with this crossing, where that side may be
abbrev pub after : Event → Crossing → PartView → Option PartView
after e c (TileV v) = option_map TileV (tile_row e c v)
after e c (RouterV v) = option_map RouterV (router_row e c v)
after e c (LinkV v) = option_map LinkV (link_row e c v)
after e c (HostV s) = option_map HostV (host_row e c s)
after e c (DetectorV v) = option_map DetectorV (detector_row e c v)
after e c AbsentV = None

-- a part after the entries of its journal, each by its row
abbrev pub replay : List Entry → PartView → Option PartView
replay [] part = Some part
replay (entry ∷ entries) part = option_and_then (replay entries) (after entry.event entry.crossing part)

-- the packet that a part gives to link l
abbrev pub given_to : ℕ → PartView → Option Packet
given_to l (TileV v) = offered (link_way v.plan.shape l) v.now.node
given_to l (RouterV v) = offered (link_way v.plan.shape l) v.now.node
given_to l (LinkV v) = None
given_to l (HostV s) = None
given_to l (DetectorV v) = None
given_to l AbsentV = None

-- the packet that the host puts on its link
abbrev pub put_by : PartView → Option Packet
put_by (TileV v) = None
put_by (RouterV v) = None
put_by (LinkV v) = None
put_by (HostV s) = host_offers s
put_by (DetectorV v) = None
put_by AbsentV = None

-- the packet that a link gives
abbrev pub carried : PartView → Option Packet
carried (TileV v) = None
carried (RouterV v) = None
carried (LinkV v) = front_of v
carried (HostV s) = None
carried (DetectorV v) = None
carried AbsentV = None

-- what a part tells the detector, and the detector's answer
abbrev pub told_by : PartView → Option PartFacts
told_by (TileV v) = Some (tile_facts v.now)
told_by (RouterV v) = Some (router_facts v.now)
told_by (LinkV v) = None
told_by (HostV s) = Some (host_facts s)
told_by (DetectorV v) = None
told_by AbsentV = None

abbrev pub answer_at : PartView → ℕ
answer_at (TileV v) = 0
answer_at (RouterV v) = 0
answer_at (LinkV v) = 0
answer_at (HostV s) = 0
answer_at (DetectorV v) = value_of v.now.answer
answer_at AbsentV = 0

-- the facts that pass between a part and the detector
abbrev pub told : PartView → PartView → Option PartFacts
told low high = option_map (λ (f : PartFacts). record f { value = answer_at high }) (told_by low)

-- what passes in an event on two parts, if anything does: the giver says it
abbrev pub crossing_of : Event → PartView → PartView → Option Crossing
crossing_of (event.Depart p l) low high = option_map crossing.Packet (given_to l.0 low)
crossing_of (event.Arrive l p) low high = option_map crossing.Packet (carried high)
crossing_of event.HostPut low high = option_map crossing.Packet (put_by low)
crossing_of event.HostTake low high = option_map crossing.Packet (carried high)
crossing_of (event.Report p) low high = option_map crossing.View (told low high)
crossing_of (event.Confirm p) low high = option_map crossing.View (told low high)
crossing_of (event.Release p) low high = option_map crossing.View (told low high)
crossing_of (event.Go p) low high = option_map crossing.View (told low high)
crossing_of e low high = None

-- what two parts are after an event on both
pub record Met : Type 0 where
  pub low : PartView
  pub high : PartView

abbrev pub met_by : Option PartView → Option PartView → Option Met
met_by (Some low) (Some high) = Some (record { low = low; high = high })
met_by (Some low) None = None
met_by None high = None

abbrev pub met_with : Event → PartView → PartView → Option Crossing → Option Met
met_with e low high None = None
met_with e low high (Some c) = met_by (after e c low) (after e c high)

-- an event on two parts: enabled where the rows of both are, with one crossing
abbrev pub meets : Event → PartView → PartView → Option Met
meets e low high = met_with e low high (crossing_of e low high)

abbrev pub meets_at : Event → Option PartView → Option PartView → Option Met
meets_at e (Some low) (Some high) = meets e low high
meets_at e (Some low) None = None
meets_at e None high = None

-- the machine with another part in a place, or in two
abbrev pub with_part : WorldView → ℕ → PartView → WorldView
with_part w p part = record w { parts = slice_set w.parts p part }

abbrev pub with_both : WorldView → ℕ → ℕ → Met → WorldView
with_both w p q m = with_part (with_part w p m.low) q m.high

abbrev pub happened_at : Event → WorldView → Places → Option WorldView
happened_at e w Nowhere = None
happened_at e w (One p) = option_map (with_part w p) (option_and_then (after e crossing.None) (slice_get w.parts p))
happened_at e w (Two p q) = option_map (with_both w p q) (meets_at e (slice_get w.parts p) (slice_get w.parts q))

-- the machine after an event, where the event is enabled
abbrev pub happened : Event → WorldView → Option WorldView
happened e w = happened_at e w (places w.shape e)

-- no event is enabled
abbrev pub Rests : WorldView → Type 0
Rests w = (e : Event) → happened e w ≡ None

-- a part is what the shape names at its place
abbrev pub FitsKind : ShapeNumbers → Kind → PartView → Type 0
FitsKind n (kind.Tile tile) (TileV v) = (v.plan.shape ≡ n) × (v.plan.tile ≡ tile.0)
FitsKind n (kind.Tile tile) (RouterV v) = ⊥
FitsKind n (kind.Tile tile) (LinkV v) = ⊥
FitsKind n (kind.Tile tile) (HostV s) = ⊥
FitsKind n (kind.Tile tile) (DetectorV v) = ⊥
FitsKind n (kind.Tile tile) AbsentV = ⊥
FitsKind n (kind.Router board) (TileV v) = ⊥
FitsKind n (kind.Router board) (RouterV v) = (v.plan.shape ≡ n) × (v.plan.board ≡ board)
FitsKind n (kind.Router board) (LinkV v) = ⊥
FitsKind n (kind.Router board) (HostV s) = ⊥
FitsKind n (kind.Router board) (DetectorV v) = ⊥
FitsKind n (kind.Router board) AbsentV = ⊥
FitsKind n (kind.Link from onto) (TileV v) = ⊥
FitsKind n (kind.Link from onto) (RouterV v) = ⊥
FitsKind n (kind.Link from onto) (LinkV v) = v.capacity ≡ n.link
FitsKind n (kind.Link from onto) (HostV s) = ⊥
FitsKind n (kind.Link from onto) (DetectorV v) = ⊥
FitsKind n (kind.Link from onto) AbsentV = ⊥
FitsKind n kind.Host (TileV v) = ⊥
FitsKind n kind.Host (RouterV v) = ⊥
FitsKind n kind.Host (LinkV v) = ⊥
FitsKind n kind.Host (HostV s) = Unit {0}
FitsKind n kind.Host (DetectorV v) = ⊥
FitsKind n kind.Host AbsentV = ⊥
FitsKind n kind.Detector (TileV v) = ⊥
FitsKind n kind.Detector (RouterV v) = ⊥
FitsKind n kind.Detector (LinkV v) = ⊥
FitsKind n kind.Detector (HostV s) = ⊥
FitsKind n kind.Detector (DetectorV v) = (v.visited ≡ visited n) × IsDetector v
FitsKind n kind.Detector AbsentV = ⊥

-- a machine has one part for each part of its shape, and each is what the shape names there
pub record IsWorld (w : WorldView) : Type 0 where
  pub count : length w.parts ≡ part_count w.shape
  pub each : (p : ℕ) → p < part_count w.shape → FitsKind w.shape (kind_of w.shape p) (slice_index_or w.parts p AbsentV)
