-- The ways that packets go: within a board along X first, then Y; to other boards and the host by the first tile and the
-- router, over boards along X first, then Y.
use Rattle.std.specs.Prelude.{ℕ, ◌/◌, ◌%◌, ◌==◌, ◌&&◌, Bool, nat_lt, if◌then◌else◌}
use Rattle.tn_base.specs.declared.ids.Board.{Board}
use Rattle.tn_base.specs.declared.message.Dest.{Dest}
use Rattle.tn_base.specs.declared.message.Dest.TheVariants as dest
use Rattle.tn_base.specs.declared.part.Kind.{Kind}
use Rattle.tn_base.specs.declared.part.Kind.TheVariants as kind
use Rattle.tn_base.specs.declared.port.Port.{Port}
use Rattle.tn_base.specs.declared.port.Port.TheVariants.{East, West, South, North, Up, Down, HostPort, Here}
use Rattle.tn_base.specs.declared.shape.ShapeNumbers.{ShapeNumbers}
use Rattle.tn_base.specs.Parts.{kind_of}

-- the fields of an address: where its tile stands on the board, and where its board stands
abbrev pub tile_x : ℕ → ℕ
tile_x a = a / 64 % 4

abbrev pub tile_y : ℕ → ℕ
tile_y a = a / 256 % 4

abbrev pub board_x : ℕ → ℕ
board_x a = a / 1024 % 4

abbrev pub board_y : ℕ → ℕ
board_y a = a / 4096 % 4

abbrev pub same_board : ℕ → ℕ → Bool
same_board a b = board_x a == board_x b && board_y a == board_y b

-- the way from (x, y) to another place: along X, then along Y, and at the place itself a last way
abbrev pub toward : ℕ → ℕ → ℕ → ℕ → Port → Port
toward x y to_x to_y last =
    if nat_lt x to_x then East
    else if nat_lt to_x x then West
    else if nat_lt y to_y then South
    else if nat_lt to_y y then North
    else last

-- the way from a tile to the router of its board
abbrev pub to_router : ℕ → Port
to_router a = toward (tile_x a) (tile_y a) 0 0 Up

-- the way from a tile to another one
abbrev pub to_tile : ℕ → ℕ → Port
to_tile a b = if same_board a b then toward (tile_x a) (tile_y a) (tile_x b) (tile_y b) Here else to_router a

-- the way that a packet takes from a tile
abbrev pub tile_port : ℕ → Dest → Port
tile_port a (dest.Thread t) = to_tile a t.0
tile_port a dest.Host = to_router a
tile_port a (dest.Mask tile mask) = to_tile a tile.0
tile_port a (dest.Key key) = to_router a

-- the way from a router to the tiles of a board
abbrev pub to_board : Board → ℕ → Port
to_board b a = toward b.x b.y (board_x a) (board_y a) Down

-- the way that a packet without a key takes from a router
abbrev pub router_port : Board → Dest → Port
router_port b (dest.Thread t) = to_board b t.0
router_port b dest.Host = toward b.x b.y 0 0 HostPort
router_port b (dest.Mask tile mask) = to_board b tile.0
router_port b (dest.Key key) = Down

abbrev pub port_from : Kind → Dest → Port
port_from kind.Host to = Here
port_from (kind.Tile tile) to = tile_port tile.0 to
port_from (kind.Router board) to = router_port board to
port_from (kind.Link from onto) to = Here
port_from kind.Detector to = Here

-- the way that a packet takes from a tile or a router
abbrev pub port_of : ShapeNumbers → ℕ → Dest → Port
port_of n p to = port_from (kind_of n p) to
