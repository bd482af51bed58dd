-- The parts of a machine, in order: the host, the tiles, the routers, the links, the detector.
use Rattle.std.specs.Prelude.{ℕ, ◌≤◌, ◌<◌, ◌≢◌, ◌+◌, ◌-◌, ◌*◌, ◌/◌, ◌%◌, ◌==◌, ◌++◌, ◌∷◌, [], List, Bool, map, length, nat_lt, slice_index_or, if◌then◌else◌}
use Rattle.std.specs.List.{flat_map, range_with_len}
use Rattle.tn_base.specs.declared.shape.ShapeNumbers.{ShapeNumbers}
use Rattle.tn_base.specs.declared.ids.Board.{Board}
use Rattle.tn_base.specs.declared.part.Kind.{Kind}
use Rattle.tn_base.specs.declared.part.Kind.TheVariants.{Host, Tile, Router, Link, Detector}
use Rattle.tn_base.specs.Address.{above}

abbrev pub board_tiles : ShapeNumbers → ℕ
board_tiles n = n.tiles_x * n.tiles_y

abbrev pub board_count : ShapeNumbers → ℕ
board_count n = n.boards_x * n.boards_y

abbrev pub tile_count : ShapeNumbers → ℕ
tile_count n = n.boards_x * n.boards_y * n.tiles_x * n.tiles_y

-- the address of the `i`-th tile, whose digits are its x and y on the board and the board's x and y, the lowest first
abbrev pub tile_at : ShapeNumbers → ℕ → ℕ
tile_at n i = above 4 n.tiles_x (above 4 n.tiles_y (above 4 n.boards_x (λ i. i))) i * 64

-- the `i`-th board by y, then x
abbrev pub board_at : ShapeNumbers → ℕ → Board
board_at n i = record { x = i % n.boards_x; y = i / n.boards_x }

-- the part of the `i`-th tile, and of the `i`-th board's router
abbrev pub tile_part : ℕ → ℕ
tile_part i = 1 + i

abbrev pub router_part : ShapeNumbers → ℕ → ℕ
router_part n i = 1 + tile_count n + i

-- the link from one part to another
abbrev pub link : ℕ → ℕ → Kind
link from to = Link (record { 0 = from }) (record { 0 = to })

-- a link that is there under a condition
abbrev pub only_if : Bool → Kind → List Kind
only_if there kind = if there then kind ∷ [] else []

-- the links that lead away from the `i`-th tile: East, West, South, North, and Up from the first tile of a board
abbrev pub tile_links : ShapeNumbers → ℕ → List Kind
tile_links n i =
    let x = i % n.tiles_x in
    let y = i / n.tiles_x % n.tiles_y in
    let here = tile_part i in
    only_if (nat_lt (x + 1) n.tiles_x) (link here (here + 1))
    ++ only_if (nat_lt 0 x) (link here (here - 1))
    ++ only_if (nat_lt (y + 1) n.tiles_y) (link here (here + n.tiles_x))
    ++ only_if (nat_lt 0 y) (link here (here - n.tiles_x))
    ++ only_if (i % board_tiles n == 0) (link here (router_part n (i / board_tiles n)))

-- the links that lead away from the `i`-th board's router to its first tile and to other routers: Down, East, West, South, North
abbrev pub router_links : ShapeNumbers → ℕ → List Kind
router_links n i =
    let x = i % n.boards_x in
    let y = i / n.boards_x in
    let here = router_part n i in
    link here (tile_part (i * board_tiles n)) ∷ []
    ++ only_if (nat_lt (x + 1) n.boards_x) (link here (here + 1))
    ++ only_if (nat_lt 0 x) (link here (here - 1))
    ++ only_if (nat_lt (y + 1) n.boards_y) (link here (here + n.boards_x))
    ++ only_if (nat_lt 0 y) (link here (here - n.boards_x))

-- the links of all tiles, and of all routers
abbrev pub all_tile_links : ShapeNumbers → List Kind
all_tile_links n = flat_map (tile_links n) (range_with_len 0 (tile_count n))

abbrev pub all_router_links : ShapeNumbers → List Kind
all_router_links n = flat_map (router_links n) (range_with_len 0 (board_count n))

-- the parts from the link between the first router and the host on
abbrev pub from_host_links : ShapeNumbers → List Kind
from_host_links n = link (router_part n 0) 0 ∷ link 0 (router_part n 0) ∷ Detector ∷ []

-- the parts from the first router's first link on
abbrev pub from_router_links : ShapeNumbers → List Kind
from_router_links n = all_router_links n ++ from_host_links n

-- the parts from the first tile's first link on
abbrev pub from_tile_links : ShapeNumbers → List Kind
from_tile_links n = all_tile_links n ++ from_router_links n

-- the parts from the first router on
abbrev pub from_routers : ShapeNumbers → List Kind
from_routers n = map (λ i. Router (board_at n i)) (range_with_len 0 (board_count n)) ++ from_tile_links n

-- the parts from the first tile on
abbrev pub from_tiles : ShapeNumbers → List Kind
from_tiles n = map (λ i. Tile (record { 0 = tile_at n i })) (range_with_len 0 (tile_count n)) ++ from_routers n

-- the parts in order
abbrev pub parts : ShapeNumbers → List Kind
parts n = Host ∷ from_tiles n

abbrev pub part_count : ShapeNumbers → ℕ
part_count n = length (parts n)

-- the host, the tiles and the routers
abbrev pub visited : ShapeNumbers → ℕ
visited n = 1 + tile_count n + board_count n

-- what part `p` is
abbrev pub kind_of : ShapeNumbers → ℕ → Kind
kind_of n p = slice_index_or (parts n) p Detector

-- the link `l` stands behind the host, the tiles and the routers, and leads from one of these to another
pub record JoinsVisited (n : ShapeNumbers) (l from onto : ℕ) : Type 0 where
  pub behind : visited n ≤ l
  pub there : l < part_count n
  pub from_visited : from < visited n
  pub onto_visited : onto < visited n
  pub apart : from ≢ onto
