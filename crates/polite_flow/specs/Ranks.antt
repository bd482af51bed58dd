-- The ranks of the places: along each packet's way they fall.
use Rattle.std.specs.Prelude.{ℕ, ◌+◌, ◌-◌, ◌*◌, List}
use Rattle.tn_base.specs.declared.ids.Board.{Board}
use Rattle.tn_base.specs.declared.port.Port.{Port}
use Rattle.tn_base.specs.declared.port.Port.TheVariants as port
use Rattle.tn_base.specs.declared.shape.ShapeNumbers.{ShapeNumbers}
use Rattle.tn_keys.specs.Tables.{Table}
use Rattle.polite_flow.specs.Flow.{Net}
use Rattle.polite_flow.specs.Places.{Item, Tile, Place, Pending, TileWaits, TileLink, Works, RouterWaits, RouterLink, becomes, has_room, next, opposite}

-- the group of the places of a way out of a tile, least first: South, East, then up to the router, North, West. Other ways are not there
abbrev pub tile_group : Port → ℕ
tile_group port.South = 1
tile_group port.East = 2
tile_group port.Up = 7
tile_group port.North = 8
tile_group port.West = 9
tile_group port.Down = 0
tile_group port.HostPort = 0
tile_group port.Here = 0

-- the group of the places of a way out of a router, and of the places where a router works at packets that go this way. Packets that
-- come from the board's tiles go Up
abbrev pub router_group : Port → ℕ
router_group port.Down = 3
router_group port.HostPort = 3
router_group port.South = 4
router_group port.North = 4
router_group port.East = 5
router_group port.West = 5
router_group port.Up = 6
router_group port.Here = 0

-- pending sends are the last group
abbrev pub pending_group : ℕ
pending_group = 10

-- how many tiles are ahead of a tile on its board; up to the router it is the last way
abbrev pub tiles_ahead : ShapeNumbers → Tile → Port → ℕ
tiles_ahead n t port.East = n.tiles_x - 1 - t.x
tiles_ahead n t port.West = t.x
tiles_ahead n t port.South = n.tiles_y - 1 - t.y
tiles_ahead n t port.North = t.y
tiles_ahead n t port.Up = 1
tiles_ahead n t port.Down = 0
tiles_ahead n t port.HostPort = 0
tiles_ahead n t port.Here = 0

-- how many boards are ahead of a board; down to the tiles and to the host it is the last way
abbrev pub boards_ahead : ShapeNumbers → Board → Port → ℕ
boards_ahead n b port.East = n.boards_x - 1 - b.x
boards_ahead n b port.West = b.x
boards_ahead n b port.South = n.boards_y - 1 - b.y
boards_ahead n b port.North = b.y
boards_ahead n b port.Down = 1
boards_ahead n b port.HostPort = 1
boards_ahead n b port.Up = 0
boards_ahead n b port.Here = 0

-- of places with as many parts ahead, first a packet that waits for its way out, then a packet at which a router works, then a link; of a
-- link the parts are counted that are ahead of the part to which it leads
abbrev pub waiting : ℕ → ℕ
waiting ahead = 3 * ahead

abbrev pub working : ℕ → ℕ
working ahead = 3 * ahead + 1

abbrev pub crossing : ℕ → ℕ
crossing ahead = 3 * (ahead - 1) + 2

-- more than each order within a group
abbrev pub span : ShapeNumbers → ℕ
span n = 3 * (n.boards_x + n.boards_y + n.tiles_x + n.tiles_y) + 4

abbrev pub in_group : ShapeNumbers → ℕ → ℕ → ℕ
in_group n group order = group * span n + order

abbrev pub rank : ShapeNumbers → Place → ℕ
rank n (Pending t thread) = in_group n pending_group 0
rank n (TileWaits t way) = in_group n (tile_group way) (waiting (tiles_ahead n t way))
rank n (TileLink t way) = in_group n (tile_group way) (crossing (tiles_ahead n t way))
rank n (Works b side) = in_group n (router_group (opposite side)) (working (boards_ahead n b (opposite side)))
rank n (RouterWaits b way) = in_group n (router_group way) (waiting (boards_ahead n b way))
rank n (RouterLink b way) = in_group n (router_group way) (crossing (boards_ahead n b way))

-- the places of a machine with these tables
abbrev pub net_of : ShapeNumbers → List Table → Net Place Item
net_of n tables = record { next = next n; becomes = becomes n tables; has_room = has_room n; rank = rank n }
