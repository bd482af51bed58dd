-- A slot keeps its message, from the put of the message until the slot is free again.
use Rattle.std.specs.Prelude.{ℕ, ◌≡◌, ◌≢◌, ◌≤◌, ◌<◌, false, List, [], ◌∷◌, MatchOption, Option, Some, None, option_and_then, slice_get, slice_index_or}
use Rattle.std.specs.Int.{bit_at}
use Rattle.tn_base.specs.declared.event.Event.{Event}
use Rattle.tn_base.specs.declared.event.Event.TheVariants as event
use Rattle.tn_base.specs.declared.message.Packet.{Packet}
use Rattle.tn_base.specs.Address.{in_tile, place_in_tile}
use Rattle.tn_rows.specs.Events.{carried, happened}
use Rattle.tn_rows.specs.PartView.{AbsentV}
use Rattle.tn_rows.specs.Runs.{Walk}
use Rattle.tn_rows.specs.WorldView.{WorldView}
use Rattle.tn_slots.specs.Pool.{slot_at}
use Rattle.tn_slots.specs.Slot.{is_free}
use Rattle.tn_tile.specs.Receivers.{alive_of, receivers}
use Rattle.tn_tile.specs.Step.{pending_at}
use Rattle.tn_tile.specs.TileView.{TileView}
use Rattle.tn_letters.specs.Law.{IsStart}
use Rattle.tn_letters.specs.Tiles.{sender_at, tile_in}

-- the tile that part p of a machine is. A part that is no tile is read as a tile without slots
abbrev pub tile_on : WorldView → ℕ → TileView
tile_on w p = tile_in (slice_index_or w.parts p AbsentV)

-- a thread of the tile is owed slot s or holds it
abbrev pub IsUsed : ℕ → TileView → Type 0
IsUsed s v = is_free (slot_at v.now.pool s) ≡ false

-- slot s of a tile has the bytes and the sender that it had. No thread is owed the slot that was not owed it
pub record KeepsSlot (s : ℕ) (old new : TileView) : Type 0 where
  pub bytes : (slot_at new.now.pool s).bytes ≡ (slot_at old.now.pool s).bytes
  pub sender : sender_at new s ≡ sender_at old s
  pub owed : (k : ℕ) → bit_at (slot_at new.now.pool s).owed k ≤ bit_at (slot_at old.now.pool s).owed k

-- each event keeps the slots that were used before it. So a message is put only into a free slot
abbrev pub EveryEventKeepsSlots : Type 0
EveryEventKeepsSlots = (e : Event) (old new : WorldView) (p s : ℕ) → happened e old ≡ Some new → IsUsed s (tile_on old p) → KeepsSlot s (tile_on old p) (tile_on new p)

-- if the events are enabled in turn, slot s of part p is used before each of them
abbrev pub UsedAll : ℕ → ℕ → WorldView → List Event → Type 0
UsedAll p s w [] = Unit {0}
UsedAll p s w (e ∷ es) = IsUsed s (tile_on w p) × ((mid : WorldView) → happened e w ≡ Some mid → UsedAll p s mid es)

-- if a slot is used before each event of a walk, the walk keeps the slot. Each run is a walk, and its last event may free the slot
abbrev pub EveryRunKeepsSlots : Type 0
EveryRunKeepsSlots = (start : WorldView) (events : List Event) (end : WorldView) (p s : ℕ) → Walk start events end → UsedAll p s start events → KeepsSlot s (tile_on start p) (tile_on end p)

-- the event is no turn of the thread at place k of the tile
abbrev pub IsOther : Event → TileView → ℕ → Type 0
IsOther (event.Turn t n) v k = t.0 ≢ in_tile v.plan.shape v.plan.tile k
IsOther _ v k = Unit {0}

-- the thread at place k is owed slot s if and only if it was owed the slot, and holds the slot if and only if it held the slot
pub record StaysWith (s k : ℕ) (old new : TileView) : Type 0 where
  pub owed : bit_at (slot_at new.now.pool s).owed k ≡ bit_at (slot_at old.now.pool s).owed k
  pub holders : bit_at (slot_at new.now.pool s).holders k ≡ bit_at (slot_at old.now.pool s).holders k

-- a used slot stays with each thread, unless that thread makes a turn. So each receiver alone ends its use of the slot
abbrev pub EveryThreadKeepsItsSlots : Type 0
EveryThreadKeepsItsSlots = (e : Event) (old new : WorldView) (p s k : ℕ) → k < 64 → happened e old ≡ Some new → IsUsed s (tile_on old p) → IsOther e (tile_on old p) k → StaysWith s k (tile_on old p) (tile_on new p)

-- the packet that an event brings to the tile that is part p: the packet that a thread sent, or the first packet of a link
abbrev pub brought : Event → WorldView → ℕ → Option Packet
brought (event.Deliver t) w p = pending_at (tile_on w p).now (place_in_tile (tile_on w p).plan.shape t.0)
brought (event.Arrive l q) w p = option_and_then carried (slice_get w.parts l.0)
brought _ w p = None

-- slot s has the bytes and the sender of packet k. The packet's receivers that are alive are owed the slot, and no thread holds the slot
pub record HasMessage (s : ℕ) (k : Packet) (old new : TileView) : Type 0 where
  pub slot : slot_at new.now.pool s ≡ record { bytes = k.bytes; owed = alive_of old.now.threads (receivers old.plan.shape k.dest); holders = 0 }
  pub sender : sender_at new s ≡ record { origin = k.origin; number = k.number }

-- in each walk from a start, if a thread becomes owed a slot, the event brought a packet to the tile and put it into the slot
abbrev pub EveryPutIsOfItsPacket : Type 0
EveryPutIsOfItsPacket = (start old new : WorldView) (history : List Event) (e : Event) (p s k : ℕ) → IsStart start → Walk start history old → happened e old ≡ Some new →
    bit_at (slot_at (tile_on old p).now.pool s).owed k < bit_at (slot_at (tile_on new p).now.pool s).owed k → MatchOption (brought e old p) ⊥ (λ q. HasMessage s q (tile_on old p) (tile_on new p))
