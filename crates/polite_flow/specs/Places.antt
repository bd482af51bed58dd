-- The places at which the packets of a graph's job stand, and where each packet goes next.
use Rattle.std.specs.Prelude.{ℕ, ◌+◌, ◌-◌, ◌==◌, ◌&&◌, Bool, List, [], ◌∷◌, map, length, nat_lt, Option, Some, None, if◌then◌else◌}
use Rattle.tn_base.specs.declared.ids.Board.{Board}
use Rattle.tn_base.specs.declared.message.Dest.{Dest}
use Rattle.tn_base.specs.declared.message.Dest.TheVariants as dest
use Rattle.tn_base.specs.declared.port.Port.{Port}
use Rattle.tn_base.specs.declared.port.Port.TheVariants as port
use Rattle.tn_base.specs.declared.shape.ShapeNumbers.{ShapeNumbers}
use Rattle.tn_base.specs.Ports.{board_x, board_y, router_port, tile_x, tile_y, toward}
use Rattle.tn_keys.specs.declared.record.RouteRec.{RouteRec}
use Rattle.tn_keys.specs.declared.record.RouteRec.TheVariants.{Urm1, Urm2, Rr, Mrm, Ind}
use Rattle.tn_keys.specs.Copies.{tile_address}
use Rattle.tn_keys.specs.Tables.{Table, records_of}
use Rattle.tn_router.specs.Left.{board_on}
use Rattle.tn_router.specs.Moves.{way_of}
use Rattle.polite_flow.specs.Flow.{Way, Out, To}

-- a packet for a destination, or a copy that a router is still to make of its packet by a record of the packet's key
pub data Item : Type 0 where
  Bound : (to : Dest) → Item
  Due : (by : RouteRec) → Item

-- a tile, by its board and its place on the board
pub record Tile : Type 0 where
  pub board : Board
  pub x : ℕ
  pub y : ℕ

-- the tile of an address
abbrev pub tile_named : ℕ → Tile
tile_named a = record { board = record { x = board_x a; y = board_y a }; x = tile_x a; y = tile_y a }

abbrev pub first_tile : Board → Tile
first_tile b = record { board = b; x = 0; y = 0 }

pub data Place : Type 0 where
  -- where the packet stands that a thread of a tile sent
  Pending : (tile : Tile) (thread : ℕ) → Place
  -- where a packet of a tile waits for a way out, and the link by that way
  TileWaits : (tile : Tile) (way : Port) → Place
  TileLink : (tile : Tile) (way : Port) → Place
  -- where the packet stands that a router works at, which came from this side
  Works : (board : Board) (side : Port) → Place
  -- where a packet of a router waits for a way out, and the link by that way
  RouterWaits : (board : Board) (way : Port) → Place
  RouterLink : (board : Board) (way : Port) → Place

-- ---- from tiles

abbrev pub is_board_of : Board → ℕ → Bool
is_board_of b a = b.x == board_x a && b.y == board_y a

-- the way from a tile to the router of its board, and to the tile of an address
abbrev pub rising : Tile → Port
rising t = toward t.x t.y 0 0 port.Up

abbrev pub landing : Tile → ℕ → Port
landing t a = if is_board_of t.board a then toward t.x t.y (tile_x a) (tile_y a) port.Here else rising t

-- the way that a packet takes from a tile
abbrev pub way_for : Tile → Dest → Port
way_for t (dest.Thread a) = landing t a.0
way_for t dest.Host = rising t
way_for t (dest.Mask tile mask) = landing t tile.0
way_for t (dest.Key key) = rising t

-- no tile has a copy that is still to be made
abbrev pub tile_way : Tile → Item → Port
tile_way t (Bound to) = way_for t to
tile_way t (Due r) = port.Here

-- the place of a way out of a tile. A packet whose way ends at the tile goes out, into a slot
abbrev pub out_by : Tile → Port → Way Place
out_by t port.East = To (TileWaits t port.East)
out_by t port.West = To (TileWaits t port.West)
out_by t port.South = To (TileWaits t port.South)
out_by t port.North = To (TileWaits t port.North)
out_by t port.Up = To (TileWaits t port.Up)
out_by t port.Down = To (TileWaits t port.Down)
out_by t port.HostPort = To (TileWaits t port.HostPort)
out_by t port.Here = Out

abbrev pub onward : Tile → Item → Way Place
onward t k = out_by t (tile_way t k)

-- the tile that a link leads to from a tile
abbrev pub tile_beyond : Tile → Port → Tile
tile_beyond t port.East = record t { x = t.x + 1 }
tile_beyond t port.West = record t { x = t.x - 1 }
tile_beyond t port.South = record t { y = t.y + 1 }
tile_beyond t port.North = record t { y = t.y - 1 }
tile_beyond t port.Up = t
tile_beyond t port.Down = t
tile_beyond t port.HostPort = t
tile_beyond t port.Here = t

-- where the link by a way out of a tile brings a packet. There are no ways Down, to the host and Here
abbrev pub behind_tile : Tile → Port → Item → Way Place
behind_tile t port.East k = onward (tile_beyond t port.East) k
behind_tile t port.West k = onward (tile_beyond t port.West) k
behind_tile t port.South k = onward (tile_beyond t port.South) k
behind_tile t port.North k = onward (tile_beyond t port.North) k
behind_tile t port.Up k = To (Works t.board port.Up)
behind_tile t port.Down k = Out
behind_tile t port.HostPort k = Out
behind_tile t port.Here k = Out

-- ---- from routers

-- the way of the copy that a record makes
abbrev pub way_by : RouteRec → Port
way_by (Urm1 tile thread key) = port.Down
way_by (Urm2 tile thread key) = port.Down
way_by (Rr dir key) = way_of dir
way_by (Mrm tile key mask) = port.Down
way_by (Ind key) = port.Down

abbrev pub router_way : Board → Item → Port
router_way b (Bound to) = router_port b to
router_way b (Due r) = way_by r

-- the side of a router from which a packet comes that goes this way, and the way of a packet that came from a side
abbrev pub opposite : Port → Port
opposite port.East = port.West
opposite port.West = port.East
opposite port.South = port.North
opposite port.North = port.South
opposite port.Up = port.Up
opposite port.Down = port.Down
opposite port.HostPort = port.HostPort
opposite port.Here = port.Here

abbrev pub into : Port → Option Board → Way Place
into side None = Out
into side (Some b) = To (Works b side)

-- where the link by a way out of a router brings a packet: to the board's first tile, to the host or to the next router
abbrev pub behind_router : ShapeNumbers → Board → Port → Item → Way Place
behind_router n b port.East k = into port.West (board_on n b port.East)
behind_router n b port.West k = into port.East (board_on n b port.West)
behind_router n b port.South k = into port.North (board_on n b port.South)
behind_router n b port.North k = into port.South (board_on n b port.North)
behind_router n b port.Up k = Out
behind_router n b port.Down k = onward (first_tile b) k
behind_router n b port.HostPort k = Out
behind_router n b port.Here k = Out

-- ---- every place

abbrev pub next : ShapeNumbers → Place → Item → Way Place
next n (Pending t thread) k = onward t k
next n (TileWaits t way) k = To (TileLink t way)
next n (TileLink t way) k = behind_tile t way k
next n (Works b side) k = To (RouterWaits b (router_way b k))
next n (RouterWaits b way) k = To (RouterLink b way)
next n (RouterLink b way) k = behind_router n b way k

-- the destination of the copy that a record makes. An IND makes no copy, and no table of a graph has an IND
abbrev pub copy_for : Board → RouteRec → Dest
copy_for b (Urm1 tile thread key) = dest.Thread (record { 0 = tile_address b tile + thread })
copy_for b (Urm2 tile thread key) = dest.Thread (record { 0 = tile_address b tile + thread })
copy_for b (Rr dir key) = dest.Key key
copy_for b (Mrm tile key mask) = dest.Mask (record { 0 = tile_address b tile }) mask
copy_for b (Ind key) = dest.Key key

-- a packet with a key is as many copies as the key has records at the router
abbrev pub works_for : ShapeNumbers → List Table → Board → Dest → List Item
works_for n tables b (dest.Thread t) = Bound (dest.Thread t) ∷ []
works_for n tables b dest.Host = Bound dest.Host ∷ []
works_for n tables b (dest.Mask tile mask) = Bound (dest.Mask tile mask) ∷ []
works_for n tables b (dest.Key key) = map Due (records_of n tables b key)

abbrev pub works_at : ShapeNumbers → List Table → Board → Item → List Item
works_at n tables b (Bound to) = works_for n tables b to
works_at n tables b (Due r) = Due r ∷ []

abbrev pub made_at : Board → Item → Item
made_at b (Bound to) = Bound to
made_at b (Due r) = Bound (copy_for b r)

-- what becomes of an item that comes to a place
abbrev pub becomes : ShapeNumbers → List Table → Place → Item → List Item
becomes n tables (Pending t thread) k = k ∷ []
becomes n tables (TileWaits t way) k = k ∷ []
becomes n tables (TileLink t way) k = k ∷ []
becomes n tables (Works b side) k = works_at n tables b k
becomes n tables (RouterWaits b way) k = made_at b k ∷ []
becomes n tables (RouterLink b way) k = k ∷ []

-- links have room for some packets, and each other place for one
abbrev pub room_at : ShapeNumbers → Place → ℕ
room_at n (Pending t thread) = 1
room_at n (TileWaits t way) = 1
room_at n (TileLink t way) = n.link
room_at n (Works b side) = 1
room_at n (RouterWaits b way) = 1
room_at n (RouterLink b way) = n.link

abbrev pub has_room : ShapeNumbers → Place → List Item → Bool
has_room n p ks = nat_lt (length ks) (room_at n p)
