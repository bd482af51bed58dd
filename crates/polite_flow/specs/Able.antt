-- What lets the parts of a machine move packets: counts that are not at their ends, no hold, and room in slots or a thread that makes room.
use Rattle.std.specs.Prelude.{pos, ℕ, ◌≡◌, ◌⊎◌, ◌<◌, ◌^◌, ◌-ℤ◌, true, false, List, None, IsTrue, int_lt, slice_index_or}
use Rattle.std.specs.List.{AllByRecursion}
use Rattle.tn_base.specs.declared.shape.ShapeNumbers.{ShapeNumbers}
use Rattle.tn_base.specs.Address.{tile_threads}
use Rattle.tn_base.specs.Message.{has_packet}
use Rattle.tn_host.specs.Rows.{is_still as host_still}
use Rattle.tn_keys.specs.Tables.{Table}
use Rattle.tn_node.specs.declared.node.Node.{Node}
use Rattle.tn_node.specs.NodeRows.{can_arrive}
use Rattle.tn_quiet.specs.Law.{IsQuietWorld}
use Rattle.tn_rows.specs.Events.{IsWorld}
use Rattle.tn_rows.specs.PartView.{PartView, TileV, RouterV, LinkV, HostV, DetectorV, AbsentV}
use Rattle.tn_rows.specs.WorldView.{WorldView}
use Rattle.tn_slots.specs.Pool.{first_free}
use Rattle.tn_tile.specs.Kept.{WellShaped}
use Rattle.tn_tile.specs.Rows.{can_count}
use Rattle.tn_tile.specs.Step.{can_step}
use Rattle.tn_tile.specs.Still.{is_still as tile_still}
use Rattle.tn_tile.specs.TileView.{TileView}
use Rattle.polite_flow.specs.Standing.{TileHas}
use Rattle.polite_flow.specs.World.{IsReady, WorldOnWay}

-- a node can count a packet more in each direction
pub record NodeAble (s : Node) : Type 0 where
  pub gives : int_lt s.counter (pos (2 ^ 63) -ℤ pos 1) ≡ true
  pub takes : can_arrive s ≡ true

-- a thread of a tile can make a step
abbrev pub HasStep : TileView → Type 0
HasStep v = (k : ℕ) × (k < tile_threads v.plan.shape) × (can_step v.plan.shape.fuel k v.now ≡ true)

-- a tile can count and pass on packets; and if no slot of the tile is free, a thread of the tile can make a step
pub record TileAble (v : TileView) : Type 0 where
  pub shaped : WellShaped v
  pub node : NodeAble v.now.node
  pub counts : can_count v.now ≡ true
  pub served : first_free v.now.pool ≡ None → HasStep v

abbrev pub PartAble : ShapeNumbers → PartView → Type 0
PartAble n (TileV v) = TileAble v
PartAble n (RouterV v) = NodeAble v.now.node
PartAble n (LinkV v) = AllByRecursion (λ k. IsTrue (has_packet n k)) v.packets
PartAble n (HostV s) = can_arrive s.node ≡ true
PartAble n (DetectorV v) = Unit {0}
PartAble n AbsentV = Unit {0}

-- each part of a machine can move packets
abbrev pub AllAble : WorldView → Type 0
AllAble w = (p : ℕ) → PartAble w.shape (slice_index_or w.parts p AbsentV)

-- the detector does not hold a tile, nor a router
abbrev pub IsLetGo : PartView → Type 0
IsLetGo (TileV v) = v.now.node.held ≡ false
IsLetGo (RouterV v) = v.now.node.held ≡ false
IsLetGo (LinkV v) = Unit {0}
IsLetGo (HostV s) = Unit {0}
IsLetGo (DetectorV v) = Unit {0}
IsLetGo AbsentV = Unit {0}

-- a machine whose packets are all on their way, and whose parts can move packets and are not held
pub record CanFlow (tables : List Table) (w : WorldView) : Type 0 where
  pub world : IsWorld w
  pub ready : IsReady tables w
  pub on_way : WorldOnWay tables w
  pub able : AllAble w
  pub free : (p : ℕ) → IsLetGo (slice_index_or w.parts p AbsentV)

-- a machine whose packets are all on their way, whose parts can move packets, and whose detector keeps its invariant
pub record IsWatched (tables : List Table) (w : WorldView) : Type 0 where
  pub quiet : IsQuietWorld w
  pub ready : IsReady tables w
  pub on_way : WorldOnWay tables w
  pub able : AllAble w

-- a tile that is not still has a packet, or a thread of the tile can make a step; and the host has no message to send
abbrev pub MovesUnlessStill : PartView → Type 0
MovesUnlessStill (TileV v) = tile_still v.now ≡ false → TileHas v.now ⊎ HasStep v
MovesUnlessStill (RouterV v) = Unit {0}
MovesUnlessStill (LinkV v) = Unit {0}
MovesUnlessStill (HostV s) = host_still s ≡ true
MovesUnlessStill (DetectorV v) = Unit {0}
MovesUnlessStill AbsentV = Unit {0}
