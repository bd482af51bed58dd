-- What holds of every tile.
use Rattle.std.specs.Prelude.{ℕ, ◌≡◌, ◌≤◌, ◌<◌, Bool, true, false, IsTrue, List, [], ◌∷◌, length, map, MatchOption, None, Option, Some, is_some, replicate, slice_index_or, ⊤}
use Rattle.rv_isa.specs.Decode.{decode_of}
use Rattle.polite_switch.specs.declared.device.InEdge.{InEdge}
use Rattle.polite_switch.specs.Device.{AllAligned, AllNamed}
use Rattle.polite_switch.specs.DeviceModel.{DeviceModel}
use Rattle.polite_switch.specs.SwitchModel.{SwitchModel}
use Rattle.polite_switch.specs.Table.{fresh_switch}
use Rattle.tn_base.specs.declared.message.Packet.{Packet}
use Rattle.tn_base.specs.declared.port.Port.{Port}
use Rattle.tn_base.specs.declared.port.Port.TheVariants as port
use Rattle.tn_base.specs.declared.shape.ShapeNumbers.{ShapeNumbers}
use Rattle.tn_base.specs.Address.{has_tile, in_tile, tile_threads}
use Rattle.tn_base.specs.Message.{flits, has_packet, slot_bytes}
use Rattle.tn_slots.specs.Pool.{fresh}
use Rattle.tn_thread.specs.declared.thread.Thread.{Thread}
use Rattle.tn_thread.specs.Step.{slot_size, started}
use Rattle.tn_node.specs.declared.ports.Ports.{Ports}
use Rattle.tn_node.specs.NodeRows.{fresh_node}
use Rattle.tn_node.specs.PortRows.{at}
use Rattle.tn_slots.specs.PoolModel.{PoolModel}
use Rattle.tn_tile.specs.declared.sender.Sender.{Sender}
use Rattle.tn_tile.specs.Step.{no_thread}
use Rattle.tn_tile.specs.TileView.{TilePlan, TileState, TileView}

-- a thread has this address in the machine, and memory by the machine's numbers
pub record IsThread (n : ShapeNumbers) (a : ℕ) (t : Thread) : Type 0 where
  pub id : t.id ≡ record { 0 = a }
  pub shape : t.shape ≡ n
  pub mem : length t.mem.bytes ≡ n.mem
  pub out : slot_size t ≡ slot_bytes n
  pub steps : t.steps ≤ n.fuel

-- a packet that is there is one of the machine
abbrev pub IsPacket : ShapeNumbers → Packet → Type 0
IsPacket n p = IsTrue (has_packet n p)

-- the threads are those of the tile
pub record ThreadsFit (n : ShapeNumbers) (tile : ℕ) (threads : List Thread) : Type 0 where
  pub count : length threads ≡ tile_threads n
  pub each : (k : ℕ) → k < tile_threads n → IsThread n (in_tile n tile k) (slice_index_or threads k no_thread)

-- the pool has the machine's slots for the tile's threads, and each slot has a sender
pub record PoolFits (n : ShapeNumbers) (pool : PoolModel) (origins : List Sender) : Type 0 where
  pub queues : length pool.queues ≡ tile_threads n
  pub slots : length pool.slots ≡ n.slots
  pub slot_bytes : pool.slot_bytes ≡ slot_bytes n
  pub senders : length origins ≡ n.slots

-- what is pending are packets of the machine, one place for each thread
pub record PendingFits (n : ShapeNumbers) (pending : List (Option Packet)) : Type 0 where
  pub count : length pending ≡ tile_threads n
  pub each : (k : ℕ) → MatchOption (slice_index_or pending k None) ⊤ (IsPacket n)

-- a tile sends to its neighbours and up to its router
abbrev pub has_way : Port → Bool
has_way port.East = true
has_way port.West = true
has_way port.South = true
has_way port.North = true
has_way port.Up = true
has_way port.Down = false
has_way port.HostPort = false
has_way port.Here = false

-- what waits for a way out is a packet of the machine, and a tile has that way
abbrev pub OutFits : ShapeNumbers → Ports Packet → Type 0
OutFits n out = (way : Port) → MatchOption (at way out) ⊤ (λ p. IsPacket n p × IsTrue (has_way way))

pub record IsFit (plan : TilePlan) (s : TileState) : Type 0 where
  pub threads : ThreadsFit plan.shape plan.tile s.threads
  pub pool : PoolFits plan.shape s.pool s.senders
  pub pending : PendingFits plan.shape s.pending
  pub out : OutFits plan.shape s.node.out

pub record WellShaped (v : TileView) : Type 0 where
  pub tile : IsTrue (has_tile v.plan.shape v.plan.tile)
  pub fits : IsFit v.plan v.now

-- a place has a thread, a packet or none, and a queue
pub record HasPlace (k : ℕ) (s : TileState) : Type 0 where
  pub thread : k < length s.threads
  pub pending : k < length s.pending
  pub queue : k < length s.pool.queues

-- a softswitch at its start, over devices and in-edges that fit together
pub record IsFreshSwitch (s : SwitchModel) : Type 0 where
  pub devices : List DeviceModel
  pub in_edges : List (List InEdge)
  pub few : length devices ≤ 64
  pub aligned : AllAligned devices
  pub named : AllNamed (length devices) in_edges
  pub start : s ≡ fresh_switch devices in_edges

-- the machine has messages of so many flits
abbrev pub FitsFirmware : ShapeNumbers → Option ℕ → Type 0
FitsFirmware n firmware = MatchOption firmware ⊤ (λ many. (1 ≤ many) × (many ≤ flits n))

-- a thread at its start, for this place of the machine: with firmware and a softswitch, or without both
pub record StartsAt (n : ShapeNumbers) (a : ℕ) (t : Thread) : Type 0 where
  pub image : List ℕ
  pub firmware : Option ℕ
  pub switch : Option SwitchModel
  pub fits : length image ≤ n.mem
  pub messages : FitsFirmware n firmware
  pub fresh : MatchOption switch ⊤ IsFreshSwitch
  pub both : is_some switch ≡ is_some firmware
  pub start : t ≡ record (started n (record { 0 = a }) image firmware) { switch = switch }

-- the threads with these softswitches: the first thread has the first, and each next thread the next
abbrev pub with_switches : List Thread → List SwitchModel → List Thread
with_switches threads [] = threads
with_switches [] (s ∷ ss) = []
with_switches (t ∷ ts) (s ∷ ss) = record t { switch = Some s } ∷ with_switches ts ss

-- the threads of a tile at their start, by ascending address
pub record AreStarts (n : ShapeNumbers) (tile : ℕ) (threads : List Thread) : Type 0 where
  pub count : length threads ≡ tile_threads n
  pub each : (k : ℕ) → k < tile_threads n → StartsAt n (in_tile n tile k) (slice_index_or threads k no_thread)

-- a tile at its start: no packet was sent yet
abbrev pub fresh_state : ShapeNumbers → List Thread → TileState
fresh_state n threads = record {
  threads = threads;
  pool = fresh n.slots (tile_threads n) (slot_bytes n);
  senders = replicate n.slots (record { origin = 0; number = 0 });
  pending = replicate (tile_threads n) None;
  node = fresh_node;
  dropped = 0;
  ended = None;
}

abbrev pub fresh_tile : ShapeNumbers → ℕ → List ℕ → List Thread → TileView
fresh_tile n tile words threads = record {
  plan = record { shape = n; tile = tile; code = map decode_of words };
  now = fresh_state n threads;
}
