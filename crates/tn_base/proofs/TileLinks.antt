-- The links of tiles: as many on each board.
use Rattle.std.proofs.Common.{ℕ, ◌≡◌, ◌≤◌, ◌<◌, ◌+◌, ◌-◌, ◌*◌, ◌/◌, ◌%◌, ◌++◌, List, Bool, true, false, length, get_or, zero, suc, refl, arith, sym, ap, length-append, nat_lt, ◌==◌, if◌then◌else◌, ◌∙◌}
use Rattle.std.proofs.Math.Nat.{add-mod_right, add-mul-mod_self_right, add-mul-div_right, zero-mod}
use Rattle.std.specs.List.{flat_map, range_with_len}
use Rattle.tn_base.specs.declared.shape.ShapeNumbers.{ShapeNumbers}
use Rattle.tn_base.specs.declared.part.Kind.{Kind}
use Rattle.tn_base.specs.declared.part.Kind.TheVariants.{Detector}
use Rattle.tn_base.specs.Parts.{all_tile_links, board_count, board_tiles, from_router_links, from_tile_links, only_if, tile_count, tile_links}
use Rattle.tn_base.proofs.Listing.{length_first, length_from, rest_from}
use Rattle.tn_base.proofs.Blocks.{Repeats, behind_blocks, length_blocks}

abbrev one : Bool → ℕ
one there = if there then 1 else 0

length_if : (there : Bool) (kind : Kind) → length (only_if there kind) ≡ one there
length_if true kind = refl
length_if false kind = refl

one_more : (others : List Kind) (there : Bool) (kind : Kind) → length (others ++ only_if there kind) ≡ length others + one there
one_more others there kind = omega (arith, length-append others (only_if there kind), length_if there kind)

five_of : (a b c d e : Bool) (p q r s t : Kind) → length (only_if a p ++ only_if b q ++ only_if c r ++ only_if d s ++ only_if e t) ≡ one a + one b + one c + one d + one e
five_of a b c d e p q r s t =
    omega (
      arith,
      length_if a p,
      one_more (only_if a p) b q,
      one_more (only_if a p ++ only_if b q) c r,
      one_more (only_if a p ++ only_if b q ++ only_if c r) d s,
      one_more (only_if a p ++ only_if b q ++ only_if c r ++ only_if d s) e t,
    )

-- how many links lead away from a tile, by its place on the board
abbrev by_place : ShapeNumbers → ℕ → ℕ → ℕ → ℕ
by_place n x y place = one (nat_lt (x + 1) n.tiles_x) + one (nat_lt 0 x) + one (nat_lt (y + 1) n.tiles_y) + one (nat_lt 0 y) + one (place == 0)

tile_links_long : (n : ShapeNumbers) (i : ℕ) → length (tile_links n i) ≡ by_place n (i % n.tiles_x) (i / n.tiles_x % n.tiles_y) (i % board_tiles n)
tile_links_long n i = five_of (nat_lt (i % n.tiles_x + 1) n.tiles_x) (nat_lt 0 (i % n.tiles_x)) (nat_lt (i / n.tiles_x % n.tiles_y + 1) n.tiles_y) (nat_lt 0 (i / n.tiles_x % n.tiles_y)) (i % board_tiles n == 0) _ _ _ _ _

some_factor : (a b : ℕ) → 0 < a * b → 0 < a
some_factor zero b h = absurd (omega arith)
some_factor (suc a) b h = omega arith

-- a tile has as many links as the tile at the same place of the next board
pub tile_links_repeat : (n : ShapeNumbers) → 0 < board_tiles n → Repeats (board_tiles n) (tile_links n)
tile_links_repeat n h i =
    let of_x : i + n.tiles_x * n.tiles_y ≡ i + n.tiles_y * n.tiles_x = omega arith in
    let x : (i + n.tiles_x * n.tiles_y) % n.tiles_x ≡ i % n.tiles_x = ap (λ k. k % n.tiles_x) of_x ∙ add-mul-mod_self_right i n.tiles_y n.tiles_x in
    let row : (i + n.tiles_x * n.tiles_y) / n.tiles_x ≡ i / n.tiles_x + n.tiles_y = ap (λ k. k / n.tiles_x) of_x ∙ add-mul-div_right i n.tiles_y (some_factor n.tiles_x n.tiles_y h) in
    let y : (i + n.tiles_x * n.tiles_y) / n.tiles_x % n.tiles_y ≡ i / n.tiles_x % n.tiles_y = ap (λ k. k % n.tiles_y) row ∙ add-mod_right (i / n.tiles_x) n.tiles_y in
    let first : (i + n.tiles_x * n.tiles_y) % (n.tiles_x * n.tiles_y) ≡ i % (n.tiles_x * n.tiles_y) = add-mod_right i (n.tiles_x * n.tiles_y) in
    tile_links_long n (i + board_tiles n) ∙ rw (x, y, first) (sym (tile_links_long n i))

-- how many links lead away from the tiles of a board
abbrev pub board_links : ShapeNumbers → ℕ
board_links n = length (flat_map (tile_links n) (range_with_len 0 (board_tiles n)))

-- the first tile has at least the link to its router
pub some_board_links : (n : ShapeNumbers) → 0 < board_tiles n → 0 < board_links n
some_board_links n h =
    let up : one (0 % board_tiles n == 0) ≡ 1 = rw (zero-mod (board_tiles n)) refl in
    let first : 0 < length (tile_links n 0) = omega (arith, tile_links_long n 0, up) in
    let all : board_tiles n - 0 ≡ board_tiles n = omega arith in
    let whole : length_from (tile_links n) 0 (board_tiles n) ≡ board_links n = ap (λ k. length (flat_map (tile_links n) (range_with_len 0 k))) all in
    omega (arith, length_first (tile_links n) 0 (board_tiles n) h, whole, first)

some_numbers : {X : Type 0} (f : ℕ → List X) (m : ℕ) → 0 < length (flat_map f (range_with_len 0 m)) → 0 < m
some_numbers f zero h = absurd (omega arith)
some_numbers f (suc m) h = omega arith

pub some_board_tiles : (n : ShapeNumbers) → 0 < board_links n → 0 < board_tiles n
some_board_tiles n h = some_numbers (tile_links n) (board_tiles n) h

boards_of_tiles : (n : ShapeNumbers) → board_count n * board_tiles n ≡ tile_count n
boards_of_tiles n = omega arith

pub all_tile_links_long : (n : ShapeNumbers) → 0 < board_tiles n → length (all_tile_links n) ≡ board_count n * board_links n
all_tile_links_long n h =
    ap (λ k. length (flat_map (tile_links n) (range_with_len 0 k))) (omega arith) ∙ length_blocks (tile_links n) (board_tiles n) (board_count n) (tile_links_repeat n h)

-- a place behind the links of `b` boards
pub behind_boards : (n : ShapeNumbers) (b k : ℕ) → 0 < board_tiles n → b ≤ board_count n → b * board_links n ≤ k →
    get_or (rest_from (tile_links n) (b * board_tiles n) (tile_count n) (from_router_links n)) (k - b * board_links n) Detector ≡ get_or (from_tile_links n) k Detector
behind_boards n b k some h past =
    behind_blocks (tile_links n) (board_tiles n) b (board_count n) (tile_count n) k (from_router_links n) Detector (tile_links_repeat n some) (boards_of_tiles n) h past
