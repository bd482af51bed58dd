-- How many links lead away from a part by each way.
use Rattle.std.proofs.Common.{ℕ, ◌≡◌, ◌≢◌, ◌≤◌, ◌<◌, ◌+◌, ◌-◌, ◌*◌, ◌/◌, ◌%◌, ◌==◌, ◌&&◌, Bool, true, false, Some, None, cond, eqb, nat_lt, refl, arith, sym, ap, ◌∙◌}
use Rattle.std.specs.Prelude.{is_some}
use Rattle.std.proofs.lemmas.Bool.{eq-eqb, eqb-true, ltb-true}
use Rattle.std.proofs.lemmas.Nat.{div_below, div-add-mod', mul-add-lt, mul-le}
use Rattle.tn_base.specs.declared.ids.Board.{Board}
use Rattle.tn_base.specs.declared.part.Kind.{Kind}
use Rattle.tn_base.specs.declared.part.Kind.TheVariants as kind
use Rattle.tn_base.specs.declared.port.Port.{Port}
use Rattle.tn_base.specs.declared.port.Port.TheVariants as port
use Rattle.tn_base.specs.declared.shape.ShapeNumbers.{ShapeNumbers}
use Rattle.tn_base.specs.Parts.{board_at, board_count, board_tiles, kind_of, parts, router_part, tile_at, tile_count, tile_part}
use Rattle.tn_base.specs.Ports.{tile_x, tile_y}
use Rattle.tn_base.specs.Shape.{WithinLimits}
use Rattle.tn_base.proofs.TilePlaces.{tile_kind}
use Rattle.tn_router.specs.Places.{has_side, has_way}
use Rattle.tn_rows.specs.Places.{side_between, way_between}
use Rattle.tn_ways.specs.Ways.{has_tile_way}
use Rattle.tn_ways.proofs.Counting.{count, of_host, of_router, of_tile, one, parts_counted, total, total_none, total_one}
use Rattle.tn_ways.proofs.Hops.{BoardHop, TileHop, digits, east_board, east_hop, first_both, first_tile, north_board, north_hop, router_kind, south_board, south_hop, upper_row, west_board, west_hop}
use Rattle.tn_ways.proofs.Tests.{by_same, by_way, is_port, leaves, leaves_links, no_term, of_seven, one_few, same_test, seven, way_term}

-- ---- what the ends of links are

-- the way from the part of one kind to that of another
pub kinds_way : (n : ShapeNumbers) (here there : ℕ) (a b : Kind) (way : Port) → kind_of n here ≡ a → kind_of n there ≡ b → way_between a b ≡ way → way_between (kind_of n here) (kind_of n there) ≡ way
kinds_way n here there a b way p q w = ap (λ k. way_between k (kind_of n there)) p ∙ ap (way_between a) q ∙ w

pub kinds_side : (n : ShapeNumbers) (here there : ℕ) (a b : Kind) (side : Port) → kind_of n here ≡ a → kind_of n there ≡ b → side_between a b ≡ side → side_between (kind_of n here) (kind_of n there) ≡ side
kinds_side n here there a b side p q w = ap (λ k. side_between k (kind_of n there)) p ∙ ap (side_between a) q ∙ w

tile_there : (n : ShapeNumbers) (j there : ℕ) → j < tile_count n → there ≡ tile_part j → kind_of n there ≡ kind.Tile (record { 0 = tile_at n j })
tile_there n j there h e = ap (kind_of n) e ∙ tile_kind n j h

pub router_there : (n : ShapeNumbers) (j there : ℕ) → j < board_count n → there ≡ router_part n j → kind_of n there ≡ kind.Router (board_at n j)
router_there n j there h e = ap (kind_of n) e ∙ router_kind n j h

hop_way : (n : ShapeNumbers) (i j there : ℕ) (way : Port) → i < tile_count n → there ≡ tile_part j → TileHop n i j way → way_between (kind_of n (tile_part i)) (kind_of n there) ≡ way
hop_way n i j there way h e hop = kinds_way n (tile_part i) there (kind.Tile (record { 0 = tile_at n i })) (kind.Tile (record { 0 = tile_at n j })) way (tile_kind n i h) (tile_there n j there hop.there e) hop.leads

board_way : (n : ShapeNumbers) (i j there : ℕ) (way back : Port) → i < board_count n → there ≡ router_part n j → BoardHop n i j way back → way_between (kind_of n (router_part n i)) (kind_of n there) ≡ way
board_way n i j there way back h e hop = kinds_way n (router_part n i) there (kind.Router (board_at n i)) (kind.Router (board_at n j)) way (router_kind n i h) (router_there n j there hop.there e) hop.leads

pub some_of : (a b : ℕ) → 1 ≤ a → 1 ≤ b → 1 ≤ a * b
some_of a b h k = mul-le 1 1 a b h k

pub board_of : (n : ShapeNumbers) (i : ℕ) → WithinLimits n → i < tile_count n → i / board_tiles n < board_count n
board_of n i l h = div_below i (board_tiles n) (board_count n) (some_of n.tiles_x n.tiles_y l.tiles_x.0 l.tiles_y.0) (omega arith)

pub first_of : (n : ShapeNumbers) (i : ℕ) → WithinLimits n → i < board_count n → i * board_tiles n < tile_count n
first_of n i l h =
    let e : i * board_tiles n + 0 < board_tiles n * board_count n = mul-add-lt i (board_tiles n) 0 (board_count n) h (some_of n.tiles_x n.tiles_y l.tiles_x.0 l.tiles_y.0) in
    omega arith

-- ---- links of other parts

five_none : (a b c d e : ℕ) → a ≡ 0 → b ≡ 0 → c ≡ 0 → d ≡ 0 → e ≡ 0 → a + b + c + d + e ≡ 0
five_none a b c d e p q r s t = omega arith

-- no link leads away from a part by a tile that is not that part, nor by a router that is not
other_tile : (n : ShapeNumbers) (p : ℕ) (way : Port) (j : ℕ) → tile_part j ≢ p → of_tile (leaves n p way) n j ≡ 0
other_tile n p way j h = five_none _ _ _ _ _ (no_term _ _ _ none) (no_term _ _ _ none) (no_term _ _ _ none) (no_term _ _ _ none) (no_term _ _ _ none) where
  none : {there : Bool} → there ≡ true → eqb (tile_part j) p ≡ true → ⊥
  none t x = h (eqb-true (tile_part j) p x)

other_router : (n : ShapeNumbers) (p : ℕ) (way : Port) (j : ℕ) → router_part n j ≢ p → of_router (leaves n p way) n j ≡ 0
other_router n p way j h = five_none _ _ _ _ _ (no_term true _ _ none) (no_term _ _ _ none) (no_term _ _ _ none) (no_term _ _ _ none) (no_term _ _ _ none) where
  none : {there : Bool} → there ≡ true → eqb (router_part n j) p ≡ true → ⊥
  none t x = h (eqb-true (router_part n j) p x)

other_host : (n : ShapeNumbers) (p : ℕ) (way : Port) → router_part n 0 ≢ p → 0 ≢ p → of_host (leaves n p way) n ≡ 0
other_host n p way h k =
    let a : one (true && (eqb (router_part n 0) p && is_port (way_between (kind_of n (router_part n 0)) (kind_of n 0)) way)) ≡ 0 = no_term true _ _ (λ t x. h (eqb-true (router_part n 0) p x)) in
    let b : one (true && (eqb 0 p && is_port (way_between (kind_of n 0) (kind_of n (router_part n 0))) way)) ≡ 0 = no_term true _ _ (λ t x. k (eqb-true 0 p x)) in
    omega arith

pub west_back : (i m : ℕ) → 0 < i % m → 1 + i - 1 ≡ 1 + (i - 1)
west_back i m h = let whole : i / m * m + i % m ≡ i = div-add-mod' i m in omega arith

pub north_back : (n : ShapeNumbers) (i : ℕ) → WithinLimits n → 0 < i / n.tiles_x % n.tiles_y → 1 + i - n.tiles_x ≡ 1 + (i - n.tiles_x)
north_back n i l h =
    let whole : i / n.tiles_x / n.tiles_y * n.tiles_y + i / n.tiles_x % n.tiles_y ≡ i / n.tiles_x = div-add-mod' (i / n.tiles_x) n.tiles_y in
    let some : 0 < i / n.tiles_x = omega arith in
    let low = (upper_row i n.tiles_x l.tiles_x.0 some).2 in
    omega arith

-- ---- tiles

five_terms : (a b c d e p q r s t : ℕ) → a ≡ p → b ≡ q → c ≡ r → d ≡ s → e ≡ t → a + b + c + d + e ≡ p + q + r + s + t
five_terms a b c d e p q r s t f g h i j = omega arith

two_more : (x : ℕ) → x ≡ x + 0 + 0
two_more x = omega arith

one_more : (x : ℕ) → x ≡ x + 0
one_more x = omega arith

own_tile : (n : ShapeNumbers) (i : ℕ) (way : Port) → WithinLimits n → i < tile_count n →
    of_tile (leaves n (tile_part i) way) n i
    ≡ seven (nat_lt (i % n.tiles_x + 1) n.tiles_x) (nat_lt 0 (i % n.tiles_x)) (nat_lt (i / n.tiles_x % n.tiles_y + 1) n.tiles_y) (nat_lt 0 (i / n.tiles_x % n.tiles_y)) (i % board_tiles n == 0) false false way
own_tile n i way l h =
    let self = eq-eqb (tile_part i) (tile_part i) refl in
    let board = board_of n i l h in
    let e = way_term (nat_lt (i % n.tiles_x + 1) n.tiles_x) _ (way_between (kind_of n (tile_part i)) (kind_of n (tile_part i + 1))) port.East way (λ t. self) (λ t. hop_way n i (i + 1) (tile_part i + 1) port.East h (omega arith) (east_hop n i l h (ltb-true _ _ t))) in
    let w = way_term (nat_lt 0 (i % n.tiles_x)) _ (way_between (kind_of n (tile_part i)) (kind_of n (tile_part i - 1))) port.West way (λ t. self) (λ t. hop_way n i (i - 1) (tile_part i - 1) port.West h (west_back i n.tiles_x (ltb-true _ _ t)) (west_hop n i l h (ltb-true _ _ t))) in
    let s = way_term (nat_lt (i / n.tiles_x % n.tiles_y + 1) n.tiles_y) _ (way_between (kind_of n (tile_part i)) (kind_of n (tile_part i + n.tiles_x))) port.South way (λ t. self) (λ t. hop_way n i (i + n.tiles_x) (tile_part i + n.tiles_x) port.South h (omega arith) (south_hop n i l h (ltb-true _ _ t))) in
    let o = way_term (nat_lt 0 (i / n.tiles_x % n.tiles_y)) _ (way_between (kind_of n (tile_part i)) (kind_of n (tile_part i - n.tiles_x))) port.North way (λ t. self) (λ t. hop_way n i (i - n.tiles_x) (tile_part i - n.tiles_x) port.North h (north_back n i l (ltb-true _ _ t)) (north_hop n i l h (ltb-true _ _ t))) in
    let u = way_term (i % board_tiles n == 0) _ (way_between (kind_of n (tile_part i)) (kind_of n (router_part n (i / board_tiles n)))) port.Up way (λ t. self)
    (λ t. kinds_way n (tile_part i) (router_part n (i / board_tiles n)) (kind.Tile (record { 0 = tile_at n i })) (kind.Router (board_at n (i / board_tiles n))) port.Up (tile_kind n i h) (router_kind n (i / board_tiles n) board) refl) in
    five_terms _ _ _ _ _ _ _ _ _ _ e w s o u ∙ two_more _

-- the conditions of a tile's links are those of its ways
tile_by : (n : ShapeNumbers) (a : ℕ) (way : Port) →
    has_tile_way n a way ≡ by_way (nat_lt (tile_x a + 1) n.tiles_x) (nat_lt 0 (tile_x a)) (nat_lt (tile_y a + 1) n.tiles_y) (nat_lt 0 (tile_y a)) (tile_x a == 0 && tile_y a == 0) false false way
tile_by n a port.East = refl
tile_by n a port.West = refl
tile_by n a port.South = refl
tile_by n a port.North = refl
tile_by n a port.Up = refl
tile_by n a port.Down = refl
tile_by n a port.HostPort = refl
tile_by n a port.Here = refl

tile_ways : (n : ShapeNumbers) (i : ℕ) (way : Port) → WithinLimits n → i < tile_count n →
    by_way (nat_lt (i % n.tiles_x + 1) n.tiles_x) (nat_lt 0 (i % n.tiles_x)) (nat_lt (i / n.tiles_x % n.tiles_y + 1) n.tiles_y) (nat_lt 0 (i / n.tiles_x % n.tiles_y)) (i % board_tiles n == 0) false false way
    ≡ has_tile_way n (tile_at n i) way
tile_ways n i way l h =
    let d = digits n i l h in
    by_same _ _ _ _ _ _ _ _ _ _ _ _ _ _ way
    (ap (λ k. nat_lt (k + 1) n.tiles_x) (sym d.x)) (ap (nat_lt 0) (sym d.x)) (ap (λ k. nat_lt (k + 1) n.tiles_y) (sym d.y)) (ap (nat_lt 0) (sym d.y)) (first_tile n i l h) refl refl
    ∙ sym (tile_by n (tile_at n i) way)

pub tile_leaves : (n : ShapeNumbers) (i : ℕ) (way : Port) → WithinLimits n → i < tile_count n → count (leaves n (tile_part i) way) (parts n) ≡ one (has_tile_way n (tile_at n i) way)
tile_leaves n i way l h =
    let all = parts_counted (leaves n (tile_part i) way) n (leaves_links n (tile_part i) way) in
    let tiles : total (of_tile (leaves n (tile_part i) way) n) 0 (tile_count n) ≡ of_tile (leaves n (tile_part i) way) n i =
    total_one (of_tile (leaves n (tile_part i) way) n) i (tile_count n) h (λ j k other. other_tile n (tile_part i) way j (λ e. other (omega arith))) in
    let routers : total (of_router (leaves n (tile_part i) way) n) 0 (board_count n) ≡ 0 =
    total_none (of_router (leaves n (tile_part i) way) n) 0 (board_count n) (λ j low k. other_router n (tile_part i) way j (λ e. omega arith)) in
    let host : of_host (leaves n (tile_part i) way) n ≡ 0 = other_host n (tile_part i) way (λ e. omega arith) (λ e. omega arith) in
    all ∙ three _ _ _ _ tiles routers host ∙ own_tile n i way l h ∙ of_seven _ _ _ _ _ _ _ way ∙ ap one (tile_ways n i way l h) where
      three : (a b c d : ℕ) → a ≡ d → b ≡ 0 → c ≡ 0 → a + b + c ≡ d
      three a b c d p q r = omega arith

-- ---- routers

seven_terms : (d e w s o out into p q r t u v : ℕ) → d ≡ p → e ≡ q → w ≡ r → s ≡ t → o ≡ u → out ≡ v → into ≡ 0 → d + e + w + s + o + (out + into) ≡ q + r + t + u + 0 + p + v
seven_terms d e w s o out into p q r t u v f g h i j k l = omega arith

pub router_west : (n : ShapeNumbers) (i : ℕ) → 0 < i % n.boards_x → router_part n i - 1 ≡ router_part n (i - 1)
router_west n i h = let whole : i / n.boards_x * n.boards_x + i % n.boards_x ≡ i = div-add-mod' i n.boards_x in omega arith

pub router_north : (n : ShapeNumbers) (i : ℕ) → WithinLimits n → 0 < i / n.boards_x → router_part n i - n.boards_x ≡ router_part n (i - n.boards_x)
router_north n i l h = let low = (upper_row i n.boards_x l.boards_x.0 h).2 in omega arith

-- the link to the host leads away from the first router
host_term : (n : ShapeNumbers) (i : ℕ) (way : Port) → 0 < board_count n →
    one (eqb (router_part n 0) (router_part n i) && is_port (way_between (kind_of n (router_part n 0)) (kind_of n 0)) way) ≡ one (eqb (router_part n 0) (router_part n i) && is_port port.HostPort way)
host_term n i way h =
    let e : way_between (kind_of n (router_part n 0)) (kind_of n 0) ≡ port.HostPort = kinds_way n (router_part n 0) 0 (kind.Router (board_at n 0)) kind.Host port.HostPort (router_kind n 0 h) refl refl in
    ap (λ p. one (eqb (router_part n 0) (router_part n i) && is_port p way)) e

own_router : (n : ShapeNumbers) (i : ℕ) (way : Port) → WithinLimits n → i < board_count n →
    of_router (leaves n (router_part n i) way) n i + of_host (leaves n (router_part n i) way) n
    ≡ seven (nat_lt (i % n.boards_x + 1) n.boards_x) (nat_lt 0 (i % n.boards_x)) (nat_lt (i / n.boards_x + 1) n.boards_y) (nat_lt 0 (i / n.boards_x)) false true (eqb (router_part n 0) (router_part n i)) way
own_router n i way l h =
    let self = eq-eqb (router_part n i) (router_part n i) refl in
    let first = first_of n i l h in
    let some : 0 < board_count n = omega arith in
    let d : one (true && (eqb (router_part n i) (router_part n i) && is_port (way_between (kind_of n (router_part n i)) (kind_of n (tile_part (i * board_tiles n)))) way)) ≡ one (true && is_port port.Down way) =
    way_term true _ (way_between (kind_of n (router_part n i)) (kind_of n (tile_part (i * board_tiles n)))) port.Down way (λ t. self)
    (λ t. kinds_way n (router_part n i) (tile_part (i * board_tiles n)) (kind.Router (board_at n i)) (kind.Tile (record { 0 = tile_at n (i * board_tiles n) })) port.Down (router_kind n i h) (tile_kind n (i * board_tiles n) first) refl) in
    let e = way_term (nat_lt (i % n.boards_x + 1) n.boards_x) _ (way_between (kind_of n (router_part n i)) (kind_of n (router_part n i + 1))) port.East way (λ t. self)
    (λ t. board_way n i (i + 1) (router_part n i + 1) port.East port.West h (omega arith) (east_board n i l h (ltb-true _ _ t))) in
    let w = way_term (nat_lt 0 (i % n.boards_x)) _ (way_between (kind_of n (router_part n i)) (kind_of n (router_part n i - 1))) port.West way (λ t. self)
    (λ t. board_way n i (i - 1) (router_part n i - 1) port.West port.East h (router_west n i (ltb-true _ _ t)) (west_board n i l h (ltb-true _ _ t))) in
    let s = way_term (nat_lt (i / n.boards_x + 1) n.boards_y) _ (way_between (kind_of n (router_part n i)) (kind_of n (router_part n i + n.boards_x))) port.South way (λ t. self)
    (λ t. board_way n i (i + n.boards_x) (router_part n i + n.boards_x) port.South port.North h (omega arith) (south_board n i l h (ltb-true _ _ t))) in
    let o = way_term (nat_lt 0 (i / n.boards_x)) _ (way_between (kind_of n (router_part n i)) (kind_of n (router_part n i - n.boards_x))) port.North way (λ t. self)
    (λ t. board_way n i (i - n.boards_x) (router_part n i - n.boards_x) port.North port.South h (router_north n i l (ltb-true _ _ t)) (north_board n i l h (ltb-true _ _ t))) in
    let out = host_term n i way some in
    let into : one (true && (eqb 0 (router_part n i) && is_port (way_between (kind_of n 0) (kind_of n (router_part n 0))) way)) ≡ 0 = no_term true _ _ (λ t x. let z = eqb-true 0 (router_part n i) x in omega arith) in
    seven_terms _ _ _ _ _ _ _ _ _ _ _ _ _ d e w s o out into

some_if : (there : Bool) (b : Board) → is_some (cond there (Some b) None) ≡ there
some_if true b = refl
some_if false b = refl

pub router_by : (n : ShapeNumbers) (b : Board) (way : Port) →
    has_way n b way ≡ by_way (nat_lt (b.x + 1) n.boards_x) (nat_lt 0 b.x) (nat_lt (b.y + 1) n.boards_y) (nat_lt 0 b.y) false true (b.x == 0 && b.y == 0) way
router_by n b port.East = some_if (nat_lt (b.x + 1) n.boards_x) _
router_by n b port.West = some_if (nat_lt 0 b.x) _
router_by n b port.South = some_if (nat_lt (b.y + 1) n.boards_y) _
router_by n b port.North = some_if (nat_lt 0 b.y) _
router_by n b port.Up = refl
router_by n b port.Down = refl
router_by n b port.HostPort = refl
router_by n b port.Here = refl

-- the sides of a router are its ways, but for the tile's
pub side_by : (n : ShapeNumbers) (b : Board) (side : Port) →
    has_side n b side ≡ by_way (nat_lt (b.x + 1) n.boards_x) (nat_lt 0 b.x) (nat_lt (b.y + 1) n.boards_y) (nat_lt 0 b.y) true false (b.x == 0 && b.y == 0) side
side_by n b port.East = some_if (nat_lt (b.x + 1) n.boards_x) _
side_by n b port.West = some_if (nat_lt 0 b.x) _
side_by n b port.South = some_if (nat_lt (b.y + 1) n.boards_y) _
side_by n b port.North = some_if (nat_lt 0 b.y) _
side_by n b port.Up = refl
side_by n b port.Down = refl
side_by n b port.HostPort = refl
side_by n b port.Here = refl

-- the first router is that of the first board
pub first_board : (n : ShapeNumbers) (i : ℕ) → WithinLimits n → eqb (router_part n 0) (router_part n i) ≡ (eqb (i % n.boards_x) 0 && eqb (i / n.boards_x) 0)
first_board n i l =
    same_test (router_part n 0) (router_part n i) (i / n.boards_x * n.boards_x + i % n.boards_x) 0
    (λ e. let whole : i / n.boards_x * n.boards_x + i % n.boards_x ≡ i = div-add-mod' i n.boards_x in omega arith)
    (λ e. let whole : i / n.boards_x * n.boards_x + i % n.boards_x ≡ i = div-add-mod' i n.boards_x in omega arith)
    ∙ first_both (i % n.boards_x) (i / n.boards_x) n.boards_x l.boards_x.0

router_ways : (n : ShapeNumbers) (i : ℕ) (way : Port) → WithinLimits n →
    by_way (nat_lt (i % n.boards_x + 1) n.boards_x) (nat_lt 0 (i % n.boards_x)) (nat_lt (i / n.boards_x + 1) n.boards_y) (nat_lt 0 (i / n.boards_x)) false true (eqb (router_part n 0) (router_part n i)) way
    ≡ has_way n (board_at n i) way
router_ways n i way l = by_same _ _ _ _ _ _ _ _ _ _ _ _ _ _ way refl refl refl refl refl refl (first_board n i l) ∙ sym (router_by n (board_at n i) way)

pub router_leaves : (n : ShapeNumbers) (i : ℕ) (way : Port) → WithinLimits n → i < board_count n → count (leaves n (router_part n i) way) (parts n) ≡ one (has_way n (board_at n i) way)
router_leaves n i way l h =
    let all = parts_counted (leaves n (router_part n i) way) n (leaves_links n (router_part n i) way) in
    let tiles : total (of_tile (leaves n (router_part n i) way) n) 0 (tile_count n) ≡ 0 =
    total_none (of_tile (leaves n (router_part n i) way) n) 0 (tile_count n) (λ j low k. other_tile n (router_part n i) way j (λ e. omega arith)) in
    let routers : total (of_router (leaves n (router_part n i) way) n) 0 (board_count n) ≡ of_router (leaves n (router_part n i) way) n i =
    total_one (of_router (leaves n (router_part n i) way) n) i (board_count n) h (λ j k other. other_router n (router_part n i) way j (λ e. other (omega arith))) in
    all ∙ three _ _ _ _ tiles routers ∙ own_router n i way l h ∙ of_seven _ _ _ _ _ _ _ way ∙ ap one (router_ways n i way l) where
      three : (a b c d : ℕ) → a ≡ 0 → b ≡ d → a + b + c ≡ d + c
      three a b c d p q = omega arith

-- ---- the host

pub host_leaves : (n : ShapeNumbers) (way : Port) → count (leaves n 0 way) (parts n) ≤ 1
host_leaves n way =
    let all = parts_counted (leaves n 0 way) n (leaves_links n 0 way) in
    let tiles : total (of_tile (leaves n 0 way) n) 0 (tile_count n) ≡ 0 = total_none (of_tile (leaves n 0 way) n) 0 (tile_count n) (λ j low k. other_tile n 0 way j (λ e. omega arith)) in
    let routers : total (of_router (leaves n 0 way) n) 0 (board_count n) ≡ 0 = total_none (of_router (leaves n 0 way) n) 0 (board_count n) (λ j low k. other_router n 0 way j (λ e. omega arith)) in
    let out : one (true && (eqb (router_part n 0) 0 && is_port (way_between (kind_of n (router_part n 0)) (kind_of n 0)) way)) ≡ 0 = no_term true _ _ (λ t x. let z = eqb-true (router_part n 0) 0 x in omega arith) in
    let into = one_few (eqb 0 0 && is_port (way_between (kind_of n 0) (kind_of n (router_part n 0))) way) in
    sum _ _ _ _ _ all tiles routers out into where
      sum : (c a b o i : ℕ) → c ≡ a + b + (o + i) → a ≡ 0 → b ≡ 0 → o ≡ 0 → i ≤ 1 → c ≤ 1
      sum c a b o i p q r s t = omega arith
