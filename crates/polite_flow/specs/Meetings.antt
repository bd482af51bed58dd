-- Events on a link and the part from which it leads, or to which it leads, where all packets are on their way.
use Rattle.std.specs.Prelude.{ℕ, ◌≡◌, List, Option, Some}
use Rattle.std.specs.List.{AllByRecursion}
use Rattle.rv_isa.specs.declared.instr.Instr.{Instr}
use Rattle.tn_base.specs.declared.event.Event.TheVariants as event
use Rattle.tn_base.specs.declared.ids.Board.{Board}
use Rattle.tn_base.specs.declared.ids.PartId.{PartId}
use Rattle.tn_base.specs.declared.ids.TileId.{TileId}
use Rattle.tn_base.specs.declared.message.Packet.{Packet}
use Rattle.tn_base.specs.declared.part.Kind.{Kind}
use Rattle.tn_base.specs.declared.part.Kind.TheVariants as kind
use Rattle.tn_base.specs.declared.port.Port.{Port}
use Rattle.tn_base.specs.declared.shape.ShapeNumbers.{ShapeNumbers}
use Rattle.tn_base.specs.Parts.{kind_of}
use Rattle.tn_keys.specs.Tables.{HasBoard, Table}
use Rattle.tn_link.specs.LinkView.{LinkView}
use Rattle.tn_router.specs.declared.state.RouterState.{RouterState}
use Rattle.tn_router.specs.Kept.{IsFit}
use Rattle.tn_rows.specs.Events.{Met, meets}
use Rattle.tn_rows.specs.PartView.{PartView, TileV, RouterV, LinkV}
use Rattle.tn_rows.specs.Places.{link_way}
use Rattle.tn_tile.specs.declared.state.TileState.{TileState}
use Rattle.polite_flow.specs.Law.{HasRoutes}
use Rattle.polite_flow.specs.OnWay.{Fits}
use Rattle.polite_flow.specs.Places.{Bound, RouterLink, TileLink, tile_named}
use Rattle.polite_flow.specs.Routers.{RouterOnWay, plan_of}
use Rattle.polite_flow.specs.Tiles.{TileOnWay}

-- a packet is on its way on the link by a way out of a part of this kind; no packet is on the link from the host
abbrev pub LinkFits : ShapeNumbers → List Table → Port → Kind → Packet → Type 0
LinkFits n tables way (kind.Tile a) k = Fits n tables (TileLink (tile_named a.0) way) (Bound k.dest)
LinkFits n tables way (kind.Router b) k = Fits n tables (RouterLink b way) (Bound k.dest)
LinkFits n tables way kind.Host k = ⊥
LinkFits n tables way (kind.Link from onto) k = ⊥
LinkFits n tables way kind.Detector k = ⊥

-- each packet of link l, which leads from a part of this kind, is on its way
abbrev pub LinkOnWay : ShapeNumbers → List Table → ℕ → Kind → LinkView → Type 0
LinkOnWay n tables l from v = AllByRecursion (LinkFits n tables (link_way n l) from) v.packets

-- the tile of an address, and the router of a board
abbrev pub tile_with : ShapeNumbers → TileId → List (Option Instr) → TileState → PartView
tile_with n a code s = TileV (record { plan = record { shape = n; tile = a.0; code = code }; now = s })

abbrev pub router_with : ShapeNumbers → List Table → Board → RouterState → PartView
router_with n tables b s = RouterV (record { plan = plan_of n tables b; now = s })

-- behind the event the packets of the tile, or of the router, and those of the link are on their way
pub record TileMet (n : ShapeNumbers) (tables : List Table) (a : TileId) (code : List (Option Instr)) (l : ℕ) (from : Kind) (m : Met) : Type 0 where
  pub tile : TileState
  pub link : LinkView
  pub low : m.low ≡ tile_with n a code tile
  pub high : m.high ≡ LinkV link
  pub tile_fits : TileOnWay n tables a.0 tile
  pub link_fits : LinkOnWay n tables l from link

pub record RouterMet (n : ShapeNumbers) (tables : List Table) (b : Board) (l : ℕ) (from : Kind) (m : Met) : Type 0 where
  pub router : RouterState
  pub link : LinkView
  pub low : m.low ≡ router_with n tables b router
  pub high : m.high ≡ LinkV link
  pub router_fits : RouterOnWay n tables b router
  pub link_fits : LinkOnWay n tables l from link

-- a packet departs from a tile, and from a router
abbrev pub TilesDepart : Type 0
TilesDepart = (n : ShapeNumbers) (tables : List Table) (p l : PartId) (a : TileId) (code : List (Option Instr)) (s : TileState) (x : LinkView) (m : Met) → HasRoutes n tables
    → TileOnWay n tables a.0 s → LinkOnWay n tables l.0 (kind.Tile a) x → meets (event.Depart p l) (tile_with n a code s) (LinkV x) ≡ Some m → TileMet n tables a code l.0 (kind.Tile a) m

abbrev pub RoutersDepart : Type 0
RoutersDepart = (n : ShapeNumbers) (tables : List Table) (p l : PartId) (b : Board) (s : RouterState) (x : LinkView) (m : Met) → HasRoutes n tables → HasBoard n b → IsFit (plan_of n tables b) s
    → RouterOnWay n tables b s → LinkOnWay n tables l.0 (kind.Router b) x → meets (event.Depart p l) (router_with n tables b s) (LinkV x) ≡ Some m → RouterMet n tables b l.0 (kind.Router b) m

-- a packet arrives at a tile, and at a router, by a link of the machine
abbrev pub TilesArrive : Type 0
TilesArrive = (n : ShapeNumbers) (tables : List Table) (l p from onto : PartId) (a : TileId) (code : List (Option Instr)) (s : TileState) (x : LinkView) (m : Met) → HasRoutes n tables → kind_of n l.0 ≡ kind.Link from onto → kind_of n onto.0 ≡ kind.Tile a
    → TileOnWay n tables a.0 s → LinkOnWay n tables l.0 (kind_of n from.0) x → meets (event.Arrive l p) (tile_with n a code s) (LinkV x) ≡ Some m → TileMet n tables a code l.0 (kind_of n from.0) m

abbrev pub RoutersArrive : Type 0
RoutersArrive = (n : ShapeNumbers) (tables : List Table) (l p from onto : PartId) (b : Board) (s : RouterState) (x : LinkView) (m : Met) → HasRoutes n tables → kind_of n l.0 ≡ kind.Link from onto → kind_of n onto.0 ≡ kind.Router b → HasBoard n b → IsFit (plan_of n tables b) s
    → RouterOnWay n tables b s → LinkOnWay n tables l.0 (kind_of n from.0) x → meets (event.Arrive l p) (router_with n tables b s) (LinkV x) ≡ Some m → RouterMet n tables b l.0 (kind_of n from.0) m
