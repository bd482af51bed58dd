-- Where packets stand on a whole machine, and when a packet cannot go on.
use Rattle.std.specs.Prelude.{ℕ, ◌≡◌, ◌⊎◌, false, Option, Some, IsSome, length, nat_lt, slice_get, slice_index_or}
use Rattle.tn_base.specs.declared.event.Event.{Event}
use Rattle.tn_base.specs.declared.ids.Board.{Board}
use Rattle.tn_base.specs.declared.ids.PartId.{PartId}
use Rattle.tn_base.specs.declared.ids.TileId.{TileId}
use Rattle.tn_base.specs.declared.message.Packet.{Packet}
use Rattle.tn_base.specs.declared.part.Kind.{Kind}
use Rattle.tn_base.specs.declared.part.Kind.TheVariants as kind
use Rattle.tn_base.specs.declared.port.Port.{Port}
use Rattle.tn_base.specs.Parts.{kind_of}
use Rattle.tn_link.specs.LinkRows.{front_of}
use Rattle.tn_link.specs.LinkView.{LinkView}
use Rattle.tn_node.specs.PortRows.{at}
use Rattle.tn_router.specs.declared.work.Work.{Work}
use Rattle.tn_router.specs.RouterView.{RouterView}
use Rattle.tn_rows.specs.Events.{happened}
use Rattle.tn_rows.specs.PartView.{PartView, TileV, RouterV, LinkV, HostV, DetectorV, AbsentV}
use Rattle.tn_rows.specs.Places.{link_way}
use Rattle.tn_rows.specs.WorldView.{WorldView}
use Rattle.tn_tile.specs.declared.state.TileState.{TileState}
use Rattle.tn_tile.specs.Step.{pending_at}
use Rattle.tn_tile.specs.TileView.{TileView}
use Rattle.polite_flow.specs.Flow.{To}
use Rattle.polite_flow.specs.Places.{Item, Tile, Place, Pending, RouterLink, RouterWaits, TileLink, TileWaits, Works, next, tile_named}

-- a tile of the machine has a packet at the place that `has` reads
pub record TilePacket (w : WorldView) (t : Tile) (has : TileState → Option Packet) : Type 0 where
  pub part : ℕ
  pub view : TileView
  pub packet : Packet
  pub is : slice_get w.parts part ≡ Some (TileV view)
  pub named : tile_named view.plan.tile ≡ t
  pub there : has view.now ≡ Some packet

-- a packet of a router waits for a way out
pub record RouterPacket (w : WorldView) (b : Board) (way : Port) : Type 0 where
  pub part : ℕ
  pub view : RouterView
  pub packet : Packet
  pub is : slice_get w.parts part ≡ Some (RouterV view)
  pub named : view.plan.board ≡ b
  pub there : at way view.now.node.out ≡ Some packet

-- a router works at a packet that came from a side
pub record RouterWork (w : WorldView) (b : Board) (side : Port) : Type 0 where
  pub part : ℕ
  pub view : RouterView
  pub work : Work
  pub is : slice_get w.parts part ≡ Some (RouterV view)
  pub named : view.plan.board ≡ b
  pub there : at side view.now.inputs ≡ Some work

-- a packet is the first on the link by a way out of a part of this kind
pub record LinkPacket (w : WorldView) (start : Kind) (way : Port) : Type 0 where
  pub part : PartId
  pub from : PartId
  pub onto : PartId
  pub view : LinkView
  pub packet : Packet
  pub is : slice_get w.parts part.0 ≡ Some (LinkV view)
  pub joins : kind_of w.shape part.0 ≡ kind.Link from onto
  pub starts : kind_of w.shape from.0 ≡ start
  pub by : link_way w.shape part.0 ≡ way
  pub there : front_of view ≡ Some packet

-- a packet is on the link by a way out of a tile
pub record TileLinkPacket (w : WorldView) (t : Tile) (way : Port) : Type 0 where
  pub tile : TileId
  pub named : tile_named tile.0 ≡ t
  pub carried : LinkPacket w (kind.Tile tile) way

-- a packet stands at a place of the machine
abbrev pub Stands : WorldView → Place → Type 0
Stands w (Pending t thread) = TilePacket w t (λ s. pending_at s thread)
Stands w (TileWaits t way) = TilePacket w t (λ s. at way s.node.out)
Stands w (TileLink t way) = TileLinkPacket w t way
Stands w (Works b side) = RouterWork w b side
Stands w (RouterWaits b way) = RouterPacket w b way
Stands w (RouterLink b way) = LinkPacket w (kind.Router b) way

-- a link has as many packets as it may hold
abbrev pub HasNoRoom : LinkView → Type 0
HasNoRoom v = nat_lt (length v.packets) v.capacity ≡ false

-- a place of the machine takes no further packet: a link is full, and at each other place a packet stands
abbrev pub IsTaken : WorldView → Place → Type 0
IsTaken w (Pending t thread) = Stands w (Pending t thread)
IsTaken w (TileWaits t way) = Stands w (TileWaits t way)
IsTaken w (TileLink t way) = (p : Stands w (TileLink t way)) × HasNoRoom p.carried.view
IsTaken w (Works b side) = Stands w (Works b side)
IsTaken w (RouterWaits b way) = Stands w (RouterWaits b way)
IsTaken w (RouterLink b way) = (p : Stands w (RouterLink b way)) × HasNoRoom p.view

-- a packet goes to a place that takes no further packet
pub record IsBlocked (w : WorldView) (p : Place) (k : Item) : Type 0 where
  pub onto : Place
  pub leads : next w.shape p k ≡ To onto
  pub taken : IsTaken w onto

-- the event is enabled, or the packet of a place is blocked
abbrev pub MovesBy : Event → WorldView → Place → Item → Type 0
MovesBy e w p k = IsSome (happened e w) ⊎ IsBlocked w p k

-- ---- the parts of a machine

-- a tile has a packet that a thread sent, or a packet that waits for a way out
abbrev pub TileHas : TileState → Type 0
TileHas s = ((k : ℕ) × IsSome (pending_at s k)) ⊎ ((way : Port) × IsSome (at way s.node.out))

-- a router works at a packet, or a packet waits for a way out
abbrev pub RouterHas : RouterView → Type 0
RouterHas v = ((side : Port) × IsSome (at side v.now.inputs)) ⊎ ((way : Port) × IsSome (at way v.now.node.out))

-- a packet stands on a part
abbrev pub PartHas : PartView → Type 0
PartHas (TileV v) = TileHas v.now
PartHas (RouterV v) = RouterHas v
PartHas (LinkV v) = IsSome (front_of v)
PartHas (HostV s) = ⊥
PartHas (DetectorV v) = ⊥
PartHas AbsentV = ⊥

-- a packet stands somewhere on the machine
abbrev pub HasPacket : WorldView → Type 0
HasPacket w = (p : ℕ) × PartHas (slice_index_or w.parts p AbsentV)

-- an event is enabled
abbrev pub IsEnabled : WorldView → Type 0
IsEnabled w = (e : Event) × IsSome (happened e w)
