-- At the start all packets are on their way, since there are none.
use Rattle.std.specs.Prelude.{ℕ, List, []}
use Rattle.tn_base.specs.declared.ids.Board.{Board}
use Rattle.tn_base.specs.declared.part.Kind.{Kind}
use Rattle.tn_base.specs.declared.shape.ShapeNumbers.{ShapeNumbers}
use Rattle.tn_keys.specs.Tables.{Table, table_of}
use Rattle.tn_router.specs.Kept.{fresh_router}
use Rattle.tn_thread.specs.declared.thread.Thread.{Thread}
use Rattle.tn_tile.specs.Kept.{fresh_tile}
use Rattle.polite_flow.specs.Meetings.{LinkOnWay}
use Rattle.polite_flow.specs.Routers.{RouterOnWay}
use Rattle.polite_flow.specs.Tiles.{TileOnWay}

-- the routers, tiles and links of a machine at its start
pub record FreshOnWay (n : ShapeNumbers) (tables : List Table) : Type 0 where
  pub router : (b : Board) → RouterOnWay n tables b (fresh_router n b (table_of n tables b)).now
  pub tile : (tile : ℕ) (words : List ℕ) (threads : List Thread) → TileOnWay n tables tile (fresh_tile n tile words threads).now
  pub link : (l : ℕ) (from : Kind) → LinkOnWay n tables l from (record { packets = []; capacity = n.link })

abbrev pub FreshPartsAreOnWay : Type 0
FreshPartsAreOnWay = (n : ShapeNumbers) (tables : List Table) → FreshOnWay n tables
