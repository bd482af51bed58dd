-- The spots at which the letters for one receiver stand, and the one way from spot to spot.
use Rattle.std.specs.Prelude.{ℕ, ◌≡◌, ◌-◌, ◌==◌, Bool, List, [], ◌∷◌, map, Option, Some, None, slice_index_or, if◌then◌else◌}
use Rattle.tn_base.specs.declared.message.Dest.{Dest}
use Rattle.tn_base.specs.declared.message.Dest.TheVariants as dest
use Rattle.tn_base.specs.declared.message.Packet.{Packet}
use Rattle.tn_base.specs.declared.part.Kind.{Kind}
use Rattle.tn_base.specs.declared.part.Kind.TheVariants as kind
use Rattle.tn_base.specs.declared.port.Port.{Port}
use Rattle.tn_base.specs.declared.port.Port.TheVariants as port
use Rattle.tn_base.specs.declared.shape.ShapeNumbers.{ShapeNumbers}
use Rattle.tn_base.specs.Address.{place_in_tile, tile_of, tile_place}
use Rattle.tn_base.specs.Parts.{kind_of, part_count, tile_part}
use Rattle.tn_base.specs.Ports.{port_of}
use Rattle.tn_node.specs.PortRows.{at}
use Rattle.tn_router.specs.declared.work.Work.{Work}
use Rattle.tn_rows.specs.PartView.{PartView, TileV, RouterV, LinkV, HostV, DetectorV, AbsentV}
use Rattle.tn_rows.specs.Places.{link_side}
use Rattle.tn_rows.specs.WorldView.{WorldView}
use Rattle.tn_slots.specs.Pool.{queue_at}
use Rattle.tn_tile.specs.declared.sender.Sender.{Sender}
use Rattle.tn_tile.specs.Step.{pending_at}
use Rattle.tn_tile.specs.TileView.{TileView}
use Rattle.tn_letters.specs.Letters.{host_address}
use Rattle.tn_letters.specs.Tiles.{sender_at}
use Rattle.tn_ways.specs.Ways.{LeadsBy}
use Rattle.tn_order.specs.Net.{Net, World}

-- a place of the machine, or the queue of the one receiver
pub data Spot : Type 0 where
  -- where the packet stands that the thread at this place of a tile sent
  Pending : (part place : ℕ) → Spot
  -- where a packet of a part waits for a way out
  Waits : (part : ℕ) (way : Port) → Spot
  -- where the packet stands that a router works at, which came from this side
  Works : (part : ℕ) (side : Port) → Spot
  -- where the packets of a link stand
  Crosses : (link : ℕ) → Spot
  Queue : Spot

-- the spot behind a part by a way: a packet whose way ends here goes to the receiver's queue
abbrev pub onward : ℕ → Port → Spot
onward p port.East = Waits p port.East
onward p port.West = Waits p port.West
onward p port.South = Waits p port.South
onward p port.North = Waits p port.North
onward p port.Up = Waits p port.Up
onward p port.Down = Waits p port.Down
onward p port.HostPort = Waits p port.HostPort
onward p port.Here = Queue

-- the spot to which link l brings a packet for this destination: a tile passes it on, a router works at it, the host takes it
abbrev pub NextInto : ShapeNumbers → Dest → ℕ → ℕ → Kind → Spot → Type 0
NextInto n goal l p kind.Host q = ⊥
NextInto n goal l p (kind.Tile tile) q = q ≡ onward p (port_of n p goal)
NextInto n goal l p (kind.Router b) q = q ≡ Works p (link_side n l)
NextInto n goal l p (kind.Link from onto) q = ⊥
NextInto n goal l p kind.Detector q = ⊥

abbrev pub NextBehind : ShapeNumbers → Dest → ℕ → Kind → Spot → Type 0
NextBehind n goal l kind.Host q = ⊥
NextBehind n goal l (kind.Tile tile) q = ⊥
NextBehind n goal l (kind.Router b) q = ⊥
NextBehind n goal l (kind.Link from onto) q = NextInto n goal l onto.0 (kind_of n onto.0) q
NextBehind n goal l kind.Detector q = ⊥

-- where a packet for this destination, a thread or the host, goes next from a spot
abbrev pub NextSpot : ShapeNumbers → Dest → Spot → Spot → Type 0
NextSpot n goal (Pending p k) q = q ≡ onward p (port_of n p goal)
NextSpot n goal (Waits p way) q = (l : ℕ) × LeadsBy n p way l × (q ≡ Crosses l)
NextSpot n goal (Works p side) q = q ≡ Waits p (port_of n p goal)
NextSpot n goal (Crosses l) q = NextBehind n goal l (kind_of n l) q
NextSpot n goal Queue q = ⊥

-- the spot at which a sender's letters begin: at the thread, or on the link from the host
abbrev pub begins : ShapeNumbers → ℕ → Spot
begins n s = if s == host_address then Crosses (part_count n - 2) else Pending (tile_part (tile_place n (tile_of s))) (place_in_tile n s)

-- the way of the letters of one sender for one receiver
abbrev pub way_of : ShapeNumbers → ℕ → Dest → Net Spot
way_of n s goal = record { start = begins n s; Next = NextSpot n goal }

-- ---- what stands at a spot

-- a packet or a slot by its origin, its number and its destination. What stands in a queue has the queue's thread as its destination
pub record Item : Type 0 where
  pub origin : ℕ
  pub number : ℕ
  pub to : Dest

abbrev pub item_of : Packet → Item
item_of k = record { origin = k.origin; number = k.number; to = k.dest }

abbrev pub items_of : Option Packet → List Item
items_of None = []
items_of (Some k) = item_of k ∷ []

abbrev pub packet_in : Option Work → Option Packet
packet_in None = None
packet_in (Some w) = Some w.packet

-- what stands in a slot
abbrev pub slot_item : Dest → Sender → Item
slot_item goal from = record { origin = from.origin; number = from.number; to = goal }

-- what stands in the queue of the receiver, if the receiver is a thread of the tile
abbrev pub queue_items : Dest → TileView → List Item
queue_items (dest.Thread t) v = map (λ s. slot_item (dest.Thread t) (sender_at v s)) (queue_at v.now.pool (place_in_tile v.plan.shape t.0))
queue_items dest.Host v = []
queue_items (dest.Mask tile mask) v = []
queue_items (dest.Key key) v = []

-- what stands at a spot of a part
abbrev pub stands_in : Dest → PartView → Spot → List Item
stands_in goal (TileV v) (Pending p k) = items_of (pending_at v.now k)
stands_in goal (TileV v) (Waits p way) = items_of (at way v.now.node.out)
stands_in goal (TileV v) (Works p side) = []
stands_in goal (TileV v) (Crosses l) = []
stands_in goal (TileV v) Queue = queue_items goal v
stands_in goal (RouterV v) (Pending p k) = []
stands_in goal (RouterV v) (Waits p way) = items_of (at way v.now.node.out)
stands_in goal (RouterV v) (Works p side) = items_of (packet_in (at side v.now.inputs))
stands_in goal (RouterV v) (Crosses l) = []
stands_in goal (RouterV v) Queue = []
stands_in goal (LinkV v) (Pending p k) = []
stands_in goal (LinkV v) (Waits p way) = []
stands_in goal (LinkV v) (Works p side) = []
stands_in goal (LinkV v) (Crosses l) = map item_of v.packets
stands_in goal (LinkV v) Queue = []
stands_in goal (HostV s) r = []
stands_in goal (DetectorV v) r = []
stands_in goal AbsentV r = []

-- the part of the receiver's queue
abbrev pub queue_part : ShapeNumbers → Dest → ℕ
queue_part n (dest.Thread t) = tile_part (tile_place n (tile_of t.0))
queue_part n dest.Host = 0
queue_part n (dest.Mask tile mask) = 0
queue_part n (dest.Key key) = 0

-- the part of a spot
abbrev pub spot_part : ShapeNumbers → Dest → Spot → ℕ
spot_part n goal (Pending p k) = p
spot_part n goal (Waits p way) = p
spot_part n goal (Works p side) = p
spot_part n goal (Crosses l) = l
spot_part n goal Queue = queue_part n goal

-- what stands at each spot of a machine
abbrev pub standing_at : Dest → WorldView → Spot → List Item
standing_at goal w r = stands_in goal (slice_index_or w.parts (spot_part w.shape goal r) AbsentV) r

-- ---- the numbers of one sender for one receiver

-- the numbers of the items that are meant, in their order
abbrev pub numbers : (ℕ → ℕ → Bool) → List Item → List ℕ
numbers mine [] = []
numbers mine (x ∷ xs) = if mine x.origin x.number then x.number ∷ numbers mine xs else numbers mine xs

-- the machine as one sender and one receiver see it
abbrev pub seen : (ℕ → ℕ → Bool) → Dest → WorldView → List ℕ → List ℕ → World Spot
seen mine goal w sent gone = record { place = λ r. numbers mine (standing_at goal w r); sent = sent; gone = gone }
