-- At the start all packets are on their way.
use Rattle.std.proofs.Common.{ℕ, zero, suc, List, replicate, Option, None, refl}
use Rattle.std.specs.Prelude.{slice_index_or}
use Rattle.tn_base.specs.declared.port.Port.{Port}
use Rattle.tn_base.specs.declared.port.Port.TheVariants as port
use Rattle.tn_base.specs.declared.shape.ShapeNumbers.{ShapeNumbers}
use Rattle.tn_base.specs.Address.{tile_threads}
use Rattle.tn_keys.specs.Tables.{Table}
use Rattle.tn_node.specs.PortRows.{at, no_values}
use Rattle.polite_flow.specs.Fresh.{FreshOnWay}
use Rattle.polite_flow.specs.Places.{Pending, TileWaits, tile_named}
use Rattle.polite_flow.specs.Routers.{ProcessFits, WaitsFit}
use Rattle.polite_flow.specs.Tiles.{StandsFit}

none_at : {X : Type 0} (P : Port → Option X → Type 0) → ((way : Port) → P way None) → (way : Port) → P way (at way no_values)
none_at P none port.East = none port.East
none_at P none port.West = none port.West
none_at P none port.South = none port.South
none_at P none port.North = none port.North
none_at P none port.Up = none port.Up
none_at P none port.Down = none port.Down
none_at P none port.HostPort = none port.HostPort
none_at P none port.Here = none port.Here

none_pending : {X : Type 0} (P : Option X → Type 0) (count k : ℕ) → P None → P (slice_index_or (replicate count None) k None)
none_pending P zero k none = none
none_pending P (suc count) zero none = none
none_pending P (suc count) (suc k) none = none_pending P count k none

pub fresh_on_way : (n : ShapeNumbers) (tables : List Table) → FreshOnWay n tables
fresh_on_way n tables = record {
  router = λ b. record { process = none_at (λ side o. ProcessFits n tables b side o) (λ side. tt); waits = none_at (λ way o. WaitsFit n tables b way o) (λ way. tt); ended = refl };
  tile = λ tile words threads. record {
    pending = λ k. none_pending (StandsFit n tables (Pending (tile_named tile) k)) (tile_threads n) k tt;
    waits = none_at (λ way o. StandsFit n tables (TileWaits (tile_named tile) way) o) (λ way. tt);
  };
  link = λ l from. tt;
}
