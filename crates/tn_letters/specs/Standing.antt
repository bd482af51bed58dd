-- The named places in which letters stand that were sent and are neither handed nor dropped.
use Rattle.std.specs.Prelude.{ℕ, ◌==◌, List, [], ◌∷◌, ◌++◌, length, map, Option, Some, None, slice_get, slice_index_or}
use Rattle.std.specs.Int.{bit_at}
use Rattle.std.specs.List.{flat_map}
use Rattle.tn_base.specs.declared.message.Letter.{Letter}
use Rattle.tn_base.specs.declared.message.Packet.{Packet}
use Rattle.tn_base.specs.declared.port.Port.{Port}
use Rattle.tn_base.specs.declared.port.Port.TheVariants as port
use Rattle.tn_base.specs.declared.shape.ShapeNumbers.{ShapeNumbers}
use Rattle.tn_base.specs.Address.{in_tile, tile_threads}
use Rattle.tn_base.specs.Parts.{part_count}
use Rattle.tn_link.specs.LinkView.{LinkView}
use Rattle.tn_router.specs.declared.work.Work.{Work}
use Rattle.tn_router.specs.Left.{copies_left, copies_out}
use Rattle.tn_node.specs.PortRows.{at as waits_for}
use Rattle.tn_router.specs.RouterView.{RouterView}
use Rattle.tn_rows.specs.PartView.{PartView, TileV, RouterV, LinkV, HostV, DetectorV, AbsentV}
use Rattle.tn_rows.specs.WorldView.{WorldView}
use Rattle.tn_slots.specs.Pool.{slot_at}
use Rattle.tn_tile.specs.Step.{pending_at}
use Rattle.tn_tile.specs.TileView.{TileView}
use Rattle.tn_letters.specs.declared.place.Place.{Place}
use Rattle.tn_letters.specs.declared.place.Place.TheVariants as place
use Rattle.tn_keys.specs.Copies.{Copy, each_below, only_if}
use Rattle.tn_keys.specs.Reach.{Reach}
use Rattle.tn_letters.specs.Letters.{letter_for, letters_to, link_board, packet_letters}
use Rattle.tn_letters.specs.Settled.{settled}
use Rattle.tn_letters.specs.State.{BagState}
use Rattle.tn_letters.specs.Tiles.{held_of, host_on, letter_in, reach_of, thread_of}

-- the letters of a packet that waits at a place
abbrev pub waiting : ShapeNumbers → Reach → Place → Option Packet → List (Place × Letter)
waiting n reach at None = []
waiting n reach at (Some p) = map (λ l. (at, l)) (packet_letters n reach p)

-- of the packet that the thread at a place of a tile sent
abbrev pub pending_of : Reach → TileView → ℕ → List (Place × Letter)
pending_of reach v k = waiting v.plan.shape reach (place.Pending (record { 0 = in_tile v.plan.shape v.plan.tile k })) (pending_at v.now k)

-- of the packets that the threads of a tile sent, by thread
abbrev pub pending_standing : Reach → TileView → List (Place × Letter)
pending_standing reach v = each_below (tile_threads v.plan.shape) (pending_of reach v)

-- the ways out in their order
abbrev pub ports : List Port
ports = port.East ∷ port.West ∷ port.South ∷ port.North ∷ port.Up ∷ port.Down ∷ port.HostPort ∷ port.Here ∷ []

-- of the packet that goes on from a tile by a way out, and of those by all ways
abbrev pub transit_by : Reach → ℕ → TileView → Port → List (Place × Letter)
transit_by reach p v way = waiting v.plan.shape reach (place.Transit (record { 0 = p }) way) (waits_for way v.now.node.out)

abbrev pub transit_standing : Reach → ℕ → TileView → List (Place × Letter)
transit_standing reach p v = flat_map (transit_by reach p v) ports

-- in a slot: a letter for the thread at a place, where it is owed the slot and did not take it
abbrev pub owed_to : TileView → ℕ → ℕ → List (Place × Letter)
owed_to v s k =
    only_if (bit_at (slot_at v.now.pool s).owed k == 1) (place.Slot (record { 0 = v.plan.tile }) s (record { 0 = in_tile v.plan.shape v.plan.tile k }), letter_in v k s)

-- in a slot: for each thread that is owed it, by thread
abbrev pub owed_standing : TileView → ℕ → List (Place × Letter)
owed_standing v s = each_below (tile_threads v.plan.shape) (owed_to v s)

abbrev pub slots_standing : TileView → List (Place × Letter)
slots_standing v = each_below (length v.now.pool.slots) (owed_standing v)

-- on a tile, which has this part's number
abbrev pub tile_standing : Reach → ℕ → TileView → List (Place × Letter)
tile_standing reach p v = pending_standing reach v ++ transit_standing reach p v ++ slots_standing v

-- of the packet at a place of a link, which has this part's number
abbrev pub crossing_at : ShapeNumbers → Reach → ℕ → ℕ → Option Packet → List (Place × Letter)
crossing_at n reach p i None = []
crossing_at n reach p i (Some k) = map (λ l. (place.OnLink (record { 0 = p }) i, l)) (letters_to (link_board n p) n reach k)

-- of the packets on a link, the first one at 0
abbrev pub link_standing : ShapeNumbers → Reach → ℕ → LinkView → List (Place × Letter)
link_standing n reach p v = each_below (length v.packets) (λ i. crossing_at n reach p i (slice_get v.packets i))

-- the letters of copies of a packet, at a place
abbrev pub copied : Place → Packet → List Copy → List (Place × Letter)
copied at p copies = map (λ c. (at, letter_for p.origin p.number c)) copies

-- of the packet that waits in a router for a way out. Its key is looked up at the router to which it goes
abbrev pub leaving_by : Reach → ℕ → RouterView → Port → Option Packet → List (Place × Letter)
leaving_by reach p v way None = []
leaving_by reach p v way (Some k) = copied (place.Transit (record { 0 = p }) way) k (copies_out reach v.plan.shape v.plan.board way k)

-- of the packet that waits for a way out, and of those for all ways
abbrev pub out_by : Reach → ℕ → RouterView → Port → List (Place × Letter)
out_by reach p v way = leaving_by reach p v way (waits_for way v.now.node.out)

abbrev pub out_standing : Reach → ℕ → RouterView → List (Place × Letter)
out_standing reach p v = flat_map (out_by reach p v) ports

-- of the packet in process that came from a side: the copies still to come, those of its next records or, without a key,
-- its own
abbrev pub works_from : Reach → ℕ → RouterView → Port → Option Work → List (Place × Letter)
works_from reach p v side None = []
works_from reach p v side (Some w) = copied (place.InProcess (record { 0 = p }) side) w.packet (copies_left reach v.plan.shape v.plan.board v.plan.beats w)

-- of the packet in process that came from a side, and of those from all sides
abbrev pub work_by : Reach → ℕ → RouterView → Port → List (Place × Letter)
work_by reach p v side = works_from reach p v side (waits_for side v.now.inputs)

abbrev pub process_standing : Reach → ℕ → RouterView → List (Place × Letter)
process_standing reach p v = flat_map (work_by reach p v) ports

-- on a router, which has this part's number
abbrev pub router_standing : Reach → ℕ → RouterView → List (Place × Letter)
router_standing reach p v = out_standing reach p v ++ process_standing reach p v

-- on a part, which has this number
abbrev pub part_standing : ShapeNumbers → Reach → ℕ → PartView → List (Place × Letter)
part_standing n reach p (TileV v) = tile_standing reach p v
part_standing n reach p (RouterV v) = router_standing reach p v
part_standing n reach p (LinkV v) = link_standing n reach p v
part_standing n reach p (HostV s) = []
part_standing n reach p (DetectorV v) = []
part_standing n reach p AbsentV = []

-- on the part of this number of a machine
abbrev pub standing_on : WorldView → ℕ → List (Place × Letter)
standing_on w p = part_standing w.shape (reach_of w) p (slice_index_or w.parts p AbsentV)

-- the letters in their places, by part, then by the kind of place, then by what names it
abbrev pub standing : WorldView → List (Place × Letter)
standing w = each_below (part_count w.shape) (standing_on w)

-- the letters alone
abbrev pub standing_letters : WorldView → List Letter
standing_letters w = map (λ (q : Place × Letter). q.1) (standing w)

-- the bag machine's state of a machine before its first event. The machine shows no letter that was handed to a thread or dropped,
-- and not how often its rest was announced. Threads and script are those of the machine once a release that is under way is over
abbrev pub bag_at : WorldView → BagState
bag_at w = record {
  threads = thread_of (settled w);
  flight = standing_letters w;
  got = λ a. [];
  held = held_of w;
  dropped = [];
  host = (host_on w).got;
  script = (host_on (settled w)).script;
  host_sends = (host_on w).sends;
  announcements = 0;
}
