-- Along each walk from the start of a graph's machine, an event is enabled at each moment.
use Rattle.std.specs.Prelude.{ℕ, ◌≡◌, ◌<◌, ◌^◌, true, List, None, IsTrue, length, slice_index_or}
use Rattle.std.specs.List.{AllByRecursion}
use Rattle.tn_base.specs.declared.event.Event.{Event}
use Rattle.tn_base.specs.declared.shape.ShapeNumbers.{ShapeNumbers}
use Rattle.tn_base.specs.Address.{tile_threads}
use Rattle.tn_base.specs.Message.{has_packet}
use Rattle.tn_letters.specs.Tiles.{tables_of}
use Rattle.tn_rows.specs.PartView.{PartView, TileV, RouterV, LinkV, HostV, DetectorV, AbsentV}
use Rattle.tn_rows.specs.Runs.{Walk}
use Rattle.tn_rows.specs.WorldView.{WorldView}
use Rattle.tn_slots.specs.Pool.{first_free}
use Rattle.tn_tile.specs.Rows.{can_count}
use Rattle.tn_tile.specs.TileView.{TileView}
use Rattle.polite_flow.specs.Able.{HasStep}
use Rattle.polite_flow.specs.Flowing.{IsFlowStart}
use Rattle.polite_flow.specs.Sending.{AreSenders}
use Rattle.polite_flow.specs.Standing.{IsEnabled}
use Rattle.polite_flow.specs.Threads.{ThreadGoesOn}

-- what the law asks of a tile at the end of a walk: its count of dropped letters is not at its end, if no slot is free a thread can make a
-- step, and each thread goes on
pub record TileGoesOn (v : TileView) : Type 0 where
  pub counts : can_count v.now ≡ true
  pub served : first_free v.now.pool ≡ None → HasStep v
  pub threads : (k : ℕ) → k < tile_threads v.plan.shape → ThreadGoesOn v.plan.shape.fuel k v.now

-- what the law asks of each part there
abbrev pub PartGoesOn : ShapeNumbers → PartView → Type 0
PartGoesOn n (TileV v) = TileGoesOn v
PartGoesOn n (RouterV v) = Unit {0}
PartGoesOn n (LinkV v) = AllByRecursion (λ k. IsTrue (has_packet n k)) v.packets
PartGoesOn n (HostV s) = Unit {0}
PartGoesOn n (DetectorV v) = Unit {0}
PartGoesOn n AbsentV = Unit {0}

-- along each walk of fewer than 2 ^ 50 events from the start of a machine whose threads send by keys of packets on their way, an event is
-- enabled, if each part goes on
abbrev pub WalksGoOn : Type 0
WalksGoOn = (start end : WorldView) (history : List Event) → IsFlowStart start → AreSenders (tables_of start) start → Walk start history end → length history < 2 ^ 50
    → ((p : ℕ) → PartGoesOn end.shape (slice_index_or end.parts p AbsentV)) → IsEnabled end
