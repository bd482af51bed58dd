-- If a packet stands anywhere on a machine, an event is enabled: the packet of a place moves, or a packet stands at a place of smaller rank.
use Rattle.std.proofs.Common.{ℕ, zero, suc, ◌≡◌, ◌<◌, refl, sym, subst, true, List, length, get_or, inl, inr, arith, Option, Some, None, is_some}
use Rattle.std.specs.Prelude.{slice_get}
use Rattle.std.proofs.lemmas.Bool.{cases_lt}
use Rattle.std.proofs.lemmas.List.{get_or_past}
use Rattle.std.proofs.lemmas.Option.{slice_get-get_or}
use Rattle.tn_base.specs.declared.event.Event.{Event}
use Rattle.tn_base.specs.declared.event.Event.TheVariants as event
use Rattle.tn_base.specs.declared.ids.Board.{Board}
use Rattle.tn_base.specs.declared.ids.PartId.{PartId}
use Rattle.tn_base.specs.declared.part.Kind.{Kind}
use Rattle.tn_base.specs.declared.part.Kind.TheVariants as kind
use Rattle.tn_base.specs.declared.port.Port.{Port}
use Rattle.tn_base.specs.Address.{in_tile}
use Rattle.tn_base.specs.Parts.{kind_of}
use Rattle.tn_keys.specs.Tables.{Table}
use Rattle.tn_link.specs.LinkRows.{front_of}
use Rattle.tn_node.specs.PortRows.{at}
use Rattle.tn_rows.specs.PartView.{PartView, TileV, RouterV, LinkV, HostV, DetectorV, AbsentV}
use Rattle.tn_rows.specs.Places.{link_way}
use Rattle.tn_rows.specs.WorldView.{WorldView}
use Rattle.tn_tile.specs.Step.{pending_at}
use Rattle.polite_flow.specs.Able.{CanFlow, PartAble, TileAble}
use Rattle.polite_flow.specs.Enabled.{LinkMoves, SomeEventIsEnabled}
use Rattle.polite_flow.specs.OnWay.{Fits}
use Rattle.polite_flow.specs.Places.{Item, Bound, Tile, Place, Pending, RouterLink, RouterWaits, TileLink, TileWaits, Works, tile_named}
use Rattle.polite_flow.specs.Ranks.{rank}
use Rattle.polite_flow.specs.Routers.{RouterOnWay, WaitsFit}
use Rattle.polite_flow.specs.Standing.{IsBlocked, IsEnabled, IsTaken, LinkPacket, MovesBy, PartHas, RouterPacket, RouterWork, Stands, TileLinkPacket, TilePacket}
use Rattle.polite_flow.specs.Tiles.{StandsFit, TileOnWay}
use Rattle.polite_flow.specs.World.{PartOnWay}
use Rattle.polite_flow.proofs.Arrived.{on_link, router_links_move, tile_links_move}
use Rattle.polite_flow.proofs.Delivered.{pending_moves, steps_on}
use Rattle.polite_flow.proofs.Departed.{routers_depart_to, tiles_depart_to}
use Rattle.polite_flow.proofs.PartsAt.{at_place, link_kind_at}
use Rattle.polite_flow.proofs.RoutedOn.{routers_route}
use Rattle.polite_flow.proofs.Steps.{fall}

-- ---- each packet that stands is on its way

pending_fits : (tables : List Table) (w : WorldView) (t : Tile) (thread : ℕ) → CanFlow tables w → (x : TilePacket w t (λ s. pending_at s thread)) → Fits w.shape tables (Pending t thread) (Bound x.packet.dest)
pending_fits tables w t thread g x =
    let on : TileOnWay w.shape tables x.view.plan.tile x.view.now = at_place (PartOnWay w.shape tables) w x.part (TileV x.view) g.on_way x.is in
    let fits = subst (StandsFit w.shape tables (Pending (tile_named x.view.plan.tile) thread)) x.there (on.pending thread) in
    subst (λ (s : Tile). Fits w.shape tables (Pending s thread) (Bound x.packet.dest)) x.named fits

tile_waits_fits : (tables : List Table) (w : WorldView) (t : Tile) (way : Port) → CanFlow tables w → (x : TilePacket w t (λ s. at way s.node.out)) → Fits w.shape tables (TileWaits t way) (Bound x.packet.dest)
tile_waits_fits tables w t way g x =
    let on : TileOnWay w.shape tables x.view.plan.tile x.view.now = at_place (PartOnWay w.shape tables) w x.part (TileV x.view) g.on_way x.is in
    let fits = subst (StandsFit w.shape tables (TileWaits (tile_named x.view.plan.tile) way)) x.there (on.waits way) in
    subst (λ (s : Tile). Fits w.shape tables (TileWaits s way) (Bound x.packet.dest)) x.named fits

router_waits_fits : (tables : List Table) (w : WorldView) (b : Board) (way : Port) → CanFlow tables w → (x : RouterPacket w b way) → Fits w.shape tables (RouterWaits b way) (Bound x.packet.dest)
router_waits_fits tables w b way g x =
    let on : RouterOnWay w.shape tables x.view.plan.board x.view.now = at_place (PartOnWay w.shape tables) w x.part (RouterV x.view) g.on_way x.is in
    let fits = subst (WaitsFit w.shape tables x.view.plan.board way) x.there (on.waits way) in
    subst (λ (c : Board). Fits w.shape tables (RouterWaits c way) (Bound x.packet.dest)) x.named fits

-- ---- a packet moves, or a packet stands at a place of smaller rank

taken_stands : (w : WorldView) (p : Place) → IsTaken w p → Stands w p
taken_stands w (Pending t thread) x = x
taken_stands w (TileWaits t way) x = x
taken_stands w (TileLink t way) x = x.0
taken_stands w (Works b side) x = x
taken_stands w (RouterWaits b way) x = x
taken_stands w (RouterLink b way) x = x.0

-- if a packet stands at a place of smaller rank, an event is enabled
abbrev Lower : WorldView → Place → Type 0
Lower w p = (q : Place) → rank w.shape q < rank w.shape p → Stands w q → IsEnabled w

blocked : (tables : List Table) (w : WorldView) (p : Place) (k : Item) → CanFlow tables w → Fits w.shape tables p k → Lower w p → IsBlocked w p k → IsEnabled w
blocked tables w p k g fits lower b = lower b.onto (fall w.shape tables p b.onto k g.ready.routes fits b.leads) (taken_stands w b.onto b.taken)

moves : (tables : List Table) (w : WorldView) (p : Place) (k : Item) (e : Event) → CanFlow tables w → Fits w.shape tables p k → Lower w p → MovesBy e w p k → IsEnabled w
moves tables w p k e g fits lower (inl h) = (e, h)
moves tables w p k e g fits lower (inr b) = blocked tables w p k g fits lower b

link_moves : (tables : List Table) (w : WorldView) (p : Place) (k : Item) (l onto : PartId) → CanFlow tables w → Fits w.shape tables p k → Lower w p → LinkMoves w p k l onto → IsEnabled w
link_moves tables w p k l onto g fits lower (inl m) = moves tables w p k (event.Arrive l onto) g fits lower m
link_moves tables w p k l onto g fits lower (inr (inl full)) =
    let able : TileAble full.tile = at_place (λ _ x. PartAble w.shape x) w onto.0 (TileV full.tile) g.able full.is in
    steps_on w onto.0 full.tile tables g full.is able (able.served full.full)
link_moves tables w p k l onto g fits lower (inr (inr h)) = (event.HostTake, h)

works : (tables : List Table) (w : WorldView) (b : Board) (side : Port) → CanFlow tables w → Lower w (Works b side) → RouterWork w b side → IsEnabled w
works tables w b side g lower x = elim (routers_route tables w b side g x) [
  | inl h ↦ (event.Route (record { 0 = x.part }), h)
  | inr next ↦ blocked tables w (Works b side) next.0 g next.1 lower next.2
]

tile_link : (tables : List Table) (w : WorldView) (t : Tile) (way : Port) (x : TileLinkPacket w t way) → CanFlow tables w → Lower w (TileLink t way) → IsEnabled w
tile_link tables w t way x g lower =
    let own : Lower w (TileLink (tile_named x.tile.0) way) = subst (λ (s : Tile). Lower w (TileLink s way)) (sym x.named) lower in
    link_moves tables w (TileLink (tile_named x.tile.0) way) (Bound x.carried.packet.dest) x.carried.part x.carried.onto g (on_link tables w x.carried g) own (tile_links_move tables w x.tile way g x.carried)

step : (tables : List Table) (w : WorldView) (p : Place) → CanFlow tables w → Lower w p → Stands w p → IsEnabled w
step tables w (Pending t thread) g lower x =
    moves tables w (Pending t thread) (Bound x.packet.dest) (event.Deliver (record { 0 = in_tile w.shape x.view.plan.tile thread })) g (pending_fits tables w t thread g x) lower (pending_moves tables w t thread g x)
step tables w (TileWaits t way) g lower x =
    let d = tiles_depart_to tables w t way g x in
    moves tables w (TileWaits t way) (Bound x.packet.dest) (event.Depart (record { 0 = x.part }) d.0) g (tile_waits_fits tables w t way g x) lower d.1
step tables w (TileLink t way) g lower x = tile_link tables w t way x g lower
step tables w (Works b side) g lower x = works tables w b side g lower x
step tables w (RouterWaits b way) g lower x =
    let d = routers_depart_to tables w b way g x in
    moves tables w (RouterWaits b way) (Bound x.packet.dest) (event.Depart (record { 0 = x.part }) d.0) g (router_waits_fits tables w b way g x) lower d.1
step tables w (RouterLink b way) g lower x =
    link_moves tables w (RouterLink b way) (Bound x.packet.dest) x.part x.onto g (on_link tables w x g) lower (router_links_move tables w b way g x)

descend : (tables : List Table) (w : WorldView) (most : ℕ) (p : Place) → CanFlow tables w → rank w.shape p < most → Stands w p → IsEnabled w
descend tables w zero p g less x = absurd (omega arith)
descend tables w (suc most) p g less x = step tables w p g (λ q below y. descend tables w most q g (omega arith) y) x

-- ---- a packet that stands on a part

some_of : {X : Type 0} (o : Option X) → is_some o ≡ true → (x : X) × (o ≡ Some x)
some_of None h = cc h
some_of (Some x) h = (x, refl)

-- the place of a link's packet, by the part from which the link leads
from_start : (tables : List Table) (w : WorldView) (start : Kind) (way : Port) → CanFlow tables w → LinkPacket w start way → (p : Place) × Stands w p
from_start tables w (kind.Tile a) way g x = (TileLink (tile_named a.0) way, record { tile = a; named = refl; carried = x })
from_start tables w (kind.Router b) way g x = (RouterLink b way, x)
from_start tables w (kind.Link from onto) way g x = absurd (on_link tables w x g)
from_start tables w kind.Host way g x = absurd (on_link tables w x g)
from_start tables w kind.Detector way g x = absurd (on_link tables w x g)

from_part : (tables : List Table) (w : WorldView) (p : ℕ) (x : PartView) → CanFlow tables w → slice_get w.parts p ≡ Some x → PartHas x → (q : Place) × Stands w q
from_part tables w p (TileV v) g is (inl has) =
    let k = some_of (pending_at v.now has.0) has.1 in
    (Pending (tile_named v.plan.tile) has.0, record { part = p; view = v; packet = k.0; is = is; named = refl; there = k.1 })
from_part tables w p (TileV v) g is (inr has) =
    let k = some_of (at has.0 v.now.node.out) has.1 in
    (TileWaits (tile_named v.plan.tile) has.0, record { part = p; view = v; packet = k.0; is = is; named = refl; there = k.1 })
from_part tables w p (RouterV v) g is (inl has) =
    let k = some_of (at has.0 v.now.inputs) has.1 in
    (Works v.plan.board has.0, record { part = p; view = v; work = k.0; is = is; named = refl; there = k.1 })
from_part tables w p (RouterV v) g is (inr has) =
    let k = some_of (at has.0 v.now.node.out) has.1 in
    (RouterWaits v.plan.board has.0, record { part = p; view = v; packet = k.0; is = is; named = refl; there = k.1 })
from_part tables w p (LinkV v) g is has =
    let k = some_of (front_of v) has in
    let ends = link_kind_at w p v g.world is in
    from_start tables w (kind_of w.shape ends.from.0) (link_way w.shape p) g
    (record { part = record { 0 = p }; from = ends.from; onto = ends.onto; view = v; packet = k.0; is = is; joins = ends.is; starts = refl; by = refl; there = k.1 })
from_part tables w p (HostV s) g is has = absurd has
from_part tables w p (DetectorV v) g is has = absurd has
from_part tables w p AbsentV g is has = absurd has

pub some_event : SomeEventIsEnabled
some_event tables w g has = elim (cases_lt has.0 (length w.parts)) [
  | inl within ↦
      let x = from_part tables w has.0 (get_or w.parts has.0 AbsentV) g (slice_get-get_or w.parts has.0 AbsentV within) has.1 in
      descend tables w (suc (rank w.shape x.0)) x.0 g (omega arith) x.1
  | inr past ↦ absurd (subst PartHas (get_or_past w.parts has.0 AbsentV past) has.1)
]
