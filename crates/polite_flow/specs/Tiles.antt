-- Tiles whose packets are all on their way.
use Rattle.std.specs.Prelude.{ℕ, ◌≡◌, List, Option, Some, None}
use Rattle.tn_base.specs.declared.message.Dest.{Dest}
use Rattle.tn_base.specs.declared.message.Packet.{Packet}
use Rattle.tn_base.specs.declared.port.Port.{Port}
use Rattle.tn_base.specs.declared.shape.ShapeNumbers.{ShapeNumbers}
use Rattle.tn_base.specs.Ports.{tile_port}
use Rattle.tn_keys.specs.Tables.{Table}
use Rattle.tn_node.specs.Deed.{Deed}
use Rattle.tn_node.specs.Deed as deed
use Rattle.tn_node.specs.PortRows.{at}
use Rattle.tn_tile.specs.declared.state.TileState.{TileState}
use Rattle.tn_tile.specs.Rows.{tile_deed}
use Rattle.tn_tile.specs.Step.{pending_at}
use Rattle.tn_tile.specs.TileView.{TilePlan}
use Rattle.polite_flow.specs.Law.{HasRoutes}
use Rattle.polite_flow.specs.OnWay.{Fits}
use Rattle.polite_flow.specs.Places.{Bound, Pending, Place, TileLink, TileWaits, next, out_by, tile_named}

-- a packet, if it is there, is on its way at a place
abbrev pub StandsFit : ShapeNumbers → List Table → Place → Option Packet → Type 0
StandsFit n tables p None = Unit {0}
StandsFit n tables p (Some k) = Fits n tables p (Bound k.dest)

-- each packet that a thread of the tile of this address sent is on its way
abbrev pub PendingFit : ShapeNumbers → List Table → ℕ → TileState → Type 0
PendingFit n tables tile s = (k : ℕ) → StandsFit n tables (Pending (tile_named tile) k) (pending_at s k)

-- each packet of a tile is on its way
pub record TileOnWay (n : ShapeNumbers) (tables : List Table) (tile : ℕ) (s : TileState) : Type 0 where
  pub pending : PendingFit n tables tile s
  pub waits : (way : Port) → StandsFit n tables (TileWaits (tile_named tile) way) (at way s.node.out)

-- a packet for this destination comes to a tile from a place at which it is on its way
pub record ComesToTile (n : ShapeNumbers) (tables : List Table) (tile : ℕ) (to : Dest) : Type 0 where
  pub from : Place
  pub fits : Fits n tables from (Bound to)
  pub leads : next n from (Bound to) ≡ out_by (tile_named tile) (tile_port tile to)

-- what a turn leaves to be sent is on its way, and so is a packet that the tile takes
abbrev pub TileDeedFits : ShapeNumbers → List Table → ℕ → Deed → TileState → Type 0
TileDeedFits n tables tile (deed.Turn t k) new = PendingFit n tables tile new
TileDeedFits n tables tile (deed.Take side k) new = ComesToTile n tables tile k.dest
TileDeedFits n tables tile (deed.Deliver t) new = Unit {0}
TileDeedFits n tables tile (deed.Give way k) new = Unit {0}
TileDeedFits n tables tile deed.Route new = Unit {0}
TileDeedFits n tables tile (deed.HostPut k) new = Unit {0}
TileDeedFits n tables tile (deed.HostTake k) new = Unit {0}
TileDeedFits n tables tile (deed.Report i f) new = Unit {0}
TileDeedFits n tables tile deed.Begin new = Unit {0}
TileDeedFits n tables tile (deed.Confirm i f) new = Unit {0}
TileDeedFits n tables tile deed.Announce new = Unit {0}
TileDeedFits n tables tile (deed.Release i f) new = Unit {0}
TileDeedFits n tables tile (deed.Go i f) new = Unit {0}

-- each deed of a tile keeps its packets on their way
abbrev pub TilesKeepWays : Type 0
TilesKeepWays = (n : ShapeNumbers) (tables : List Table) (plan : TilePlan) (d : Deed) (s t : TileState) → HasRoutes n tables → TileDeedFits n tables plan.tile d t → TileOnWay n tables plan.tile s → tile_deed plan d s ≡ Some t → TileOnWay n tables plan.tile t

-- a packet that a tile gives to a link is on its way there
abbrev pub TilesGiveWays : Type 0
TilesGiveWays = (n : ShapeNumbers) (tables : List Table) (plan : TilePlan) (way : Port) (k : Packet) (s t : TileState) → TileOnWay n tables plan.tile s → tile_deed plan (deed.Give way k) s ≡ Some t → Fits n tables (TileLink (tile_named plan.tile) way) (Bound k.dest)
