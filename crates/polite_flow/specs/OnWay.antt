-- What each place asks of its packets, so that the ranks of the places that a packet may still come to fall.
use Rattle.std.specs.Prelude.{ℕ, ◌≡◌, ◌<◌, ◌≤◌, true, List}
use Rattle.tn_base.specs.declared.ids.Board.{Board}
use Rattle.tn_base.specs.declared.message.Dest.{Dest}
use Rattle.tn_base.specs.declared.message.Dest.TheVariants as dest
use Rattle.tn_base.specs.declared.port.Port.{Port}
use Rattle.tn_base.specs.declared.port.Port.TheVariants as port
use Rattle.tn_base.specs.declared.shape.ShapeNumbers.{ShapeNumbers}
use Rattle.tn_base.specs.Ports.{tile_x, tile_y}
use Rattle.tn_keys.specs.declared.record.RouteRec.{RouteRec}
use Rattle.tn_keys.specs.declared.record.RouteRec.TheVariants.{Urm1, Urm2, Rr, Mrm, Ind}
use Rattle.tn_keys.specs.Tables.{HasBoard, Table, records_of}
use Rattle.tn_router.specs.Left.{board_on}
use Rattle.polite_routes.specs.Straight.{At, Straight, StraightRecord}
use Rattle.std.specs.List.{AllByRecursion}
use Rattle.polite_flow.specs.Places.{Item, Bound, Due, Tile, Place, Pending, TileWaits, TileLink, Works, RouterWaits, RouterLink, is_board_of, opposite}

-- a record names one of the four directions, if it names a direction
abbrev pub IsDirected : RouteRec → Type 0
IsDirected (Urm1 tile thread key) = Unit {0}
IsDirected (Urm2 tile thread key) = Unit {0}
IsDirected (Rr dir key) = dir < 4
IsDirected (Mrm tile key mask) = Unit {0}
IsDirected (Ind key) = Unit {0}

-- each record that a key reaches at a board of the machine names one of the four directions
abbrev pub AreDirected : ShapeNumbers → List Table → Type 0
AreDirected n tables = (b : Board) (key : ℕ) → HasBoard n b → AllByRecursion IsDirected (records_of n tables b key)

-- the branches of a key are straight from a board on, to which its packet came in a direction; 4 from the board's tiles
pub record IsRouted (n : ShapeNumbers) (tables : List Table) (last : ℕ) (b : Board) (key : ℕ) : Type 0 where
  pub most : ℕ
  pub straight : Straight most n tables last b key

-- the number of the direction of a way; 4 for a way that is none of the four
abbrev pub direction : Port → ℕ
direction port.East = 0
direction port.West = 1
direction port.South = 2
direction port.North = 3
direction port.Up = 4
direction port.Down = 4
direction port.HostPort = 4
direction port.Here = 4

-- ---- toward a router, and toward a tile

-- a packet goes up to the router of a board, by a key or to the host; P is what its place asks beside
abbrev pub RisesFor : ShapeNumbers → List Table → Board → Type 0 → Dest → Type 0
RisesFor n tables b P (dest.Thread t) = ⊥
RisesFor n tables b P dest.Host = HasBoard n b × P
RisesFor n tables b P (dest.Mask tile mask) = ⊥
RisesFor n tables b P (dest.Key key) = (HasBoard n b × IsRouted n tables 4 b key) × P

abbrev pub Rises : ShapeNumbers → List Table → Board → Type 0 → Item → Type 0
Rises n tables b P (Bound to) = RisesFor n tables b P to
Rises n tables b P (Due r) = ⊥

-- a packet goes to threads of a tile of this board, which is at x and y
abbrev pub LandsFor : Board → (ℕ → ℕ → Type 0) → Dest → Type 0
LandsFor b At_tile (dest.Thread t) = ⊥
LandsFor b At_tile dest.Host = ⊥
LandsFor b At_tile (dest.Mask tile mask) = (is_board_of b tile.0 ≡ true) × At_tile (tile_x tile.0) (tile_y tile.0)
LandsFor b At_tile (dest.Key key) = ⊥

abbrev pub Lands : Board → (ℕ → ℕ → Type 0) → Item → Type 0
Lands b At_tile (Bound to) = LandsFor b At_tile to
Lands b At_tile (Due r) = ⊥

-- what the place of a way out of a tile asks, and the link by that way: West, North and up to the router; East and South from it
abbrev pub TileFits : ShapeNumbers → List Table → Tile → Port → Item → Type 0
TileFits n tables t port.West k = Rises n tables t.board ((0 < t.x) × (t.x < n.tiles_x) × (t.y < n.tiles_y)) k
TileFits n tables t port.North k = Rises n tables t.board ((t.x ≡ 0) × (0 < t.y) × (t.y < n.tiles_y)) k
TileFits n tables t port.Up k = Rises n tables t.board ((t.x ≡ 0) × (t.y ≡ 0)) k
TileFits n tables t port.East k = Lands t.board (λ x y. (t.x < x) × (x < n.tiles_x) × (t.y ≤ y) × (y < n.tiles_y)) k
TileFits n tables t port.South k = Lands t.board (λ x y. (t.x ≡ x) × (x < n.tiles_x) × (t.y < y) × (y < n.tiles_y)) k
TileFits n tables t port.Down k = ⊥
TileFits n tables t port.HostPort k = ⊥
TileFits n tables t port.Here k = ⊥

-- ---- in routers and between them

-- a packet to the host goes West along X first, then North
abbrev pub IsHomeward : Board → Port → Type 0
IsHomeward b port.Up = Unit {0}
IsHomeward b port.West = Unit {0}
IsHomeward b port.North = b.x ≡ 0
IsHomeward b port.East = ⊥
IsHomeward b port.South = ⊥
IsHomeward b port.Down = ⊥
IsHomeward b port.HostPort = ⊥
IsHomeward b port.Here = ⊥

-- a packet that goes on to a board by a way between boards: by a key whose branches are straight from there, or to the host
abbrev pub GoesFor : ShapeNumbers → List Table → Port → Board → Dest → Type 0
GoesFor n tables way b (dest.Thread t) = ⊥
GoesFor n tables way b dest.Host = HasBoard n b × IsHomeward b way
GoesFor n tables way b (dest.Mask tile mask) = ⊥
GoesFor n tables way b (dest.Key key) = HasBoard n b × IsRouted n tables (direction way) b key

abbrev pub GoesOn : ShapeNumbers → List Table → Port → Item → Board → Type 0
GoesOn n tables way (Bound to) b = GoesFor n tables way b to
GoesOn n tables way (Due r) b = ⊥

abbrev pub IsForHost : Item → Type 0
IsForHost (Bound (dest.Thread t)) = ⊥
IsForHost (Bound dest.Host) = Unit {0}
IsForHost (Bound (dest.Mask tile mask)) = ⊥
IsForHost (Bound (dest.Key key)) = ⊥
IsForHost (Due r) = ⊥

-- what the place of a way out of a router asks, and the link by that way
abbrev pub RouterFits : ShapeNumbers → List Table → Board → Port → Item → Type 0
RouterFits n tables b port.Down k = Lands b (λ x y. (x < n.tiles_x) × (y < n.tiles_y)) k
RouterFits n tables b port.HostPort k = IsForHost k
RouterFits n tables b port.East k = At (GoesOn n tables port.East k) (board_on n b port.East)
RouterFits n tables b port.West k = At (GoesOn n tables port.West k) (board_on n b port.West)
RouterFits n tables b port.South k = At (GoesOn n tables port.South k) (board_on n b port.South)
RouterFits n tables b port.North k = At (GoesOn n tables port.North k) (board_on n b port.North)
RouterFits n tables b port.Up k = ⊥
RouterFits n tables b port.Here k = ⊥

-- a packet without a key in a router is for the host
abbrev pub HostFits : ShapeNumbers → Board → Port → Dest → Type 0
HostFits n b way (dest.Thread t) = ⊥
HostFits n b way dest.Host = HasBoard n b × IsHomeward b way
HostFits n b way (dest.Mask tile mask) = ⊥
HostFits n b way (dest.Key key) = ⊥

-- a router works at packets that came from tiles or from other routers
abbrev pub IsWorkWay : Port → Type 0
IsWorkWay port.Up = Unit {0}
IsWorkWay port.East = Unit {0}
IsWorkWay port.West = Unit {0}
IsWorkWay port.South = Unit {0}
IsWorkWay port.North = Unit {0}
IsWorkWay port.Down = ⊥
IsWorkWay port.HostPort = ⊥
IsWorkWay port.Here = ⊥

-- a copy that is still to be made: its record is one of a straight branch
pub record DueFits (n : ShapeNumbers) (tables : List Table) (b : Board) (way : Port) (r : RouteRec) : Type 0 where
  pub on : HasBoard n b
  pub work : IsWorkWay way
  pub directed : IsDirected r
  pub straight : StraightRecord (λ dir c key. IsRouted n tables dir c key) n (direction way) b r

-- what the place asks where a router works at a packet that goes this way
abbrev pub WorkFits : ShapeNumbers → List Table → Board → Port → Item → Type 0
WorkFits n tables b way (Bound to) = HostFits n b way to
WorkFits n tables b way (Due r) = DueFits n tables b way r

-- what each place asks
abbrev pub Fits : ShapeNumbers → List Table → Place → Item → Type 0
Fits n tables (Pending t thread) k = Rises n tables t.board ((t.x < n.tiles_x) × (t.y < n.tiles_y)) k
Fits n tables (TileWaits t way) k = TileFits n tables t way k
Fits n tables (TileLink t way) k = TileFits n tables t way k
Fits n tables (Works b side) k = WorkFits n tables b (opposite side) k
Fits n tables (RouterWaits b way) k = RouterFits n tables b way k
Fits n tables (RouterLink b way) k = RouterFits n tables b way k
