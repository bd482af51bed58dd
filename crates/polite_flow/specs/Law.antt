-- Packets of a graph's job flow: their ranks fall, and where a packet stands, some packet can move.
use Rattle.std.specs.Prelude.{ℕ, ◌≡◌, ◌<◌, false, List, ◌∷◌, length, Some}
use Rattle.tn_base.specs.declared.ids.Board.{Board}
use Rattle.tn_base.specs.declared.message.Dest.TheVariants as dest
use Rattle.tn_base.specs.declared.port.Port.{Port}
use Rattle.tn_base.specs.declared.shape.ShapeNumbers.{ShapeNumbers}
use Rattle.tn_base.specs.Shape.{WithinLimits}
use Rattle.tn_keys.specs.Tables.{HasBoard, Table, is_bad_key, table_of}
use Rattle.graph_text.specs.declared.graph.Graph.{Graph}
use Rattle.graph_text.specs.Graph.{pins_at}
use Rattle.polite_place.specs.declared.placement.Seat.{Seat}
use Rattle.polite_place.specs.Seats.{seat_of}
use Rattle.polite_routes.specs.declared.routes.RouteSet.{RouteSet}
use Rattle.polite_routes.specs.Answer.{pin_key}
use Rattle.polite_routes.specs.Straight.{StraightFrom}
use Rattle.polite_flow.specs.Flow.{To, AreOnWay, Enters, Goes, IsFree, Leaves}
use Rattle.polite_flow.specs.OnWay.{AreDirected, Fits}
use Rattle.polite_flow.specs.Places.{Item, Bound, Tile, Place, Pending, Works, next, tile_named}
use Rattle.polite_flow.specs.Ranks.{net_of, rank}

-- the machine's numbers are within their limits, and its tables name the four directions alone
pub record HasRoutes (n : ShapeNumbers) (tables : List Table) : Type 0 where
  pub limits : WithinLimits n
  pub directed : AreDirected n tables

-- a thread sends a packet; the first packet of a place goes out, into slots or to the host; or it goes to the next place
pub data Change : Type 0 where
  Send : (tile : Tile) (thread : ℕ) (packet : Item) → Change
  Leave : (from : Place) → Change
  Go : (from to : Place) → Change

abbrev pub Happens : ShapeNumbers → List Table → Change → (Place → List Item) → (Place → List Item) → Type 0
Happens n tables (Send t thread k) old new = Enters (Pending t thread) k old new × Fits n tables (Pending t thread) k
Happens n tables (Leave p) old new = Leaves (net_of n tables) p old new
Happens n tables (Go p q) old new = Goes (net_of n tables) p q old new

-- each change keeps every packet on its way
abbrev pub EachChangeKeepsWays : Type 0
EachChangeKeepsWays = (n : ShapeNumbers) (tables : List Table) (c : Change) (old new : Place → List Item) → HasRoutes n tables → AreOnWay (Fits n tables) old → Happens n tables c old new → AreOnWay (Fits n tables) new

-- on the way ranks fall
abbrev pub RanksFall : Type 0
RanksFall = (n : ShapeNumbers) (tables : List Table) (p q : Place) (k : Item) → HasRoutes n tables → Fits n tables p k → next n p k ≡ To q → rank n q < rank n p

-- if a packet stands anywhere, the first packet of some place can move
abbrev pub SomePacketIsFree : Type 0
SomePacketIsFree = (n : ShapeNumbers) (tables : List Table) (w : Place → List Item) (p : Place) (k : Item) (ks : List Item) → HasRoutes n tables → AreOnWay (Fits n tables) w → w p ≡ k ∷ ks → IsFree (net_of n tables) w

-- a packet that goes to a router by a key finds the key's beats there
abbrev pub NoKeyIsBad : Type 0
NoKeyIsBad = (n : ShapeNumbers) (tables : List Table) (p : Place) (b : Board) (side : Port) (key : ℕ) → Fits n tables p (Bound (dest.Key key)) → next n p (Bound (dest.Key key)) ≡ To (Works b side) → is_bad_key (length (table_of n tables b)) key ≡ false

-- a key whose branches are straight from a board of the machine on may be sent from each tile of the board
abbrev pub StraightKeysFit : Type 0
StraightKeysFit = (n : ShapeNumbers) (tables : List Table) (most : ℕ) (t : Tile) (thread key : ℕ) → HasBoard n t.board → t.x < n.tiles_x → t.y < n.tiles_y → StraightFrom most n tables 4 (Some t.board) (Some key) → Fits n tables (Pending t thread) (Bound (dest.Key key))

-- the routes of a graph on a machine: the tables name the four directions alone, and a vertex may send by the key of each of its pins
pub record AreRoutes (n : ShapeNumbers) (graph : Graph) (placement : List Seat) (set : RouteSet) : Type 0 where
  pub has : HasRoutes n set.tables
  pub sent : (v pin key thread : ℕ) → v < length graph.vertices → pin < pins_at graph v → pin_key set.keys v pin ≡ Some key → Fits n set.tables (Pending (tile_named (seat_of placement v).thread.0) thread) (Bound (dest.Key key))
