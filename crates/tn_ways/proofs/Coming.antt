-- How many links lead to a router from each side.
use Rattle.std.proofs.Common.{ℕ, ◌≡◌, ◌<◌, ◌+◌, ◌-◌, ◌*◌, ◌/◌, ◌%◌, ◌==◌, ◌&&◌, true, false, eqb, nat_lt, refl, arith, sym, ap, ◌∙◌, subst}
use Rattle.std.proofs.lemmas.Bool.{eq-eqb, eqb-true, lt-ltb, ltb-true}
use Rattle.std.proofs.lemmas.Nat.{div_below, div-add-mod', div-mul-add, mod_below, mod-mul-add}
use Rattle.tn_base.specs.declared.part.Kind.TheVariants as kind
use Rattle.tn_base.specs.declared.port.Port.{Port}
use Rattle.tn_base.specs.declared.port.Port.TheVariants as port
use Rattle.tn_base.specs.declared.shape.ShapeNumbers.{ShapeNumbers}
use Rattle.tn_base.specs.Parts.{board_at, board_count, board_tiles, kind_of, parts, router_part, tile_at, tile_count, tile_part}
use Rattle.tn_base.specs.Shape.{WithinLimits}
use Rattle.tn_base.proofs.TilePlaces.{tile_kind}
use Rattle.tn_router.specs.Places.{has_side}
use Rattle.tn_rows.specs.Places.{side_between}
use Rattle.tn_ways.proofs.Counting.{count, of_host, of_router, of_tile, one, parts_counted, total, total_four, total_same}
use Rattle.tn_ways.proofs.Hops.{BoardHop, east_board, east_hop, last_place, lower_row, next_place, north_board, north_hop, router_kind, south_board, south_hop, upper_row, west_board, west_hop}
use Rattle.tn_ways.proofs.Leaving.{first_board, first_of, kinds_side, north_back, router_there, side_by, some_of, west_back}
use Rattle.tn_ways.proofs.Tests.{by_same, by_way, comes, comes_links, is_port, no_term, of_seven, single}

-- ---- links of tiles

-- only the link Up of a tile leads to a router
abbrev up_term : ShapeNumbers → ℕ → Port → ℕ → ℕ
up_term n part side j = one (j % board_tiles n == 0 && (eqb (router_part n (j / board_tiles n)) part && is_port (side_between (kind_of n (router_part n (j / board_tiles n))) (kind_of n (tile_part j))) side))

only_up : (a b c d e : ℕ) → a ≡ 0 → b ≡ 0 → c ≡ 0 → d ≡ 0 → a + b + c + d + e ≡ e
only_up a b c d e p q r s = omega arith

-- a tile's part is not a router's
not_router : (n : ShapeNumbers) (i j there : ℕ) → j < tile_count n → there ≡ tile_part j → there ≡ router_part n i → ⊥
not_router n i j there h e f = omega arith

tile_comes : (n : ShapeNumbers) (i : ℕ) (side : Port) (j : ℕ) → WithinLimits n → j < tile_count n → of_tile (comes n (router_part n i) side) n j ≡ up_term n (router_part n i) side j
tile_comes n i side j l h =
    only_up _ _ _ _ _
    (no_term (nat_lt (j % n.tiles_x + 1) n.tiles_x) _ _ (λ t x. let hop = east_hop n j l h (ltb-true _ _ t) in not_router n i (j + 1) (tile_part j + 1) hop.there (omega arith) (eqb-true _ _ x)))
    (no_term (nat_lt 0 (j % n.tiles_x)) _ _ (λ t x. let hop = west_hop n j l h (ltb-true _ _ t) in not_router n i (j - 1) (tile_part j - 1) hop.there (west_back j n.tiles_x (ltb-true _ _ t)) (eqb-true _ _ x)))
    (no_term (nat_lt (j / n.tiles_x % n.tiles_y + 1) n.tiles_y) _ _ (λ t x. let hop = south_hop n j l h (ltb-true _ _ t) in not_router n i (j + n.tiles_x) (tile_part j + n.tiles_x) hop.there (omega arith) (eqb-true _ _ x)))
    (no_term (nat_lt 0 (j / n.tiles_x % n.tiles_y)) _ _ (λ t x. let hop = north_hop n j l h (ltb-true _ _ t) in not_router n i (j - n.tiles_x) (tile_part j - n.tiles_x) hop.there (north_back n j l (ltb-true _ _ t)) (eqb-true _ _ x)))

-- the first place of a board
at_first : (j m i : ℕ) → j % m ≡ 0 → j / m ≡ i → j ≡ i * m
at_first j m i p q =
    let whole : j / m * m + j % m ≡ j = div-add-mod' j m in
    let row : j / m * m ≡ i * m = ap (λ k. k * m) q in
    omega arith

of_first : (m i : ℕ) → 0 < m → (i * m % m ≡ 0) × (i * m / m ≡ i)
of_first m i h =
    let e : i * m ≡ i * m + 0 = omega arith in
    (ap (λ k. k % m) e ∙ mod-mul-add i m 0 h, ap (λ k. k / m) e ∙ div-mul-add i m 0 h)

same_board : (n : ShapeNumbers) (i j : ℕ) → router_part n j ≡ router_part n i → j ≡ i
same_board n i j e = omega arith

pub from_tiles : (n : ShapeNumbers) (i : ℕ) (side : Port) → WithinLimits n → i < board_count n → total (of_tile (comes n (router_part n i) side) n) 0 (tile_count n) ≡ one (true && is_port port.Up side)
from_tiles n i side l h =
    let first = first_of n i l h in
    let place = of_first (board_tiles n) i (some_of n.tiles_x n.tiles_y l.tiles_x.0 l.tiles_y.0) in
    let onto : router_part n (i * board_tiles n / board_tiles n) ≡ router_part n i = ap (router_part n) place.1 in
    total_same (of_tile (comes n (router_part n i) side) n) (up_term n (router_part n i) side) 0 (tile_count n) (λ j k. tile_comes n i side j l (omega arith))
    ∙ single (λ j. j % board_tiles n == 0) (λ j. router_part n (j / board_tiles n)) (λ j. side_between (kind_of n (router_part n (j / board_tiles n))) (kind_of n (tile_part j))) (router_part n i) (tile_count n) (i * board_tiles n) true port.Up side
    (λ j k t x. (at_first j (board_tiles n) i (eqb-true _ _ t) (same_board n i (j / board_tiles n) x), refl))
    (λ t. (
      first,
      eq-eqb _ _ place.0,
      onto,
      kinds_side n (router_part n (i * board_tiles n / board_tiles n)) (tile_part (i * board_tiles n)) (kind.Router (board_at n i)) (kind.Tile (record { 0 = tile_at n (i * board_tiles n) })) port.Up
          (router_there n i _ h onto) (tile_kind n (i * board_tiles n) first) refl,
    ))

-- ---- links of routers

-- the four links of a router to other routers
abbrev east_term : ShapeNumbers → ℕ → Port → ℕ → ℕ
east_term n part side j = one (nat_lt (j % n.boards_x + 1) n.boards_x && (eqb (router_part n j + 1) part && is_port (side_between (kind_of n (router_part n j + 1)) (kind_of n (router_part n j))) side))

abbrev west_term : ShapeNumbers → ℕ → Port → ℕ → ℕ
west_term n part side j = one (nat_lt 0 (j % n.boards_x) && (eqb (router_part n j - 1) part && is_port (side_between (kind_of n (router_part n j - 1)) (kind_of n (router_part n j))) side))

abbrev south_term : ShapeNumbers → ℕ → Port → ℕ → ℕ
south_term n part side j = one (nat_lt (j / n.boards_x + 1) n.boards_y && (eqb (router_part n j + n.boards_x) part && is_port (side_between (kind_of n (router_part n j + n.boards_x)) (kind_of n (router_part n j))) side))

abbrev north_term : ShapeNumbers → ℕ → Port → ℕ → ℕ
north_term n part side j = one (nat_lt 0 (j / n.boards_x) && (eqb (router_part n j - n.boards_x) part && is_port (side_between (kind_of n (router_part n j - n.boards_x)) (kind_of n (router_part n j))) side))

no_down : (a b c d e : ℕ) → a ≡ 0 → a + b + c + d + e ≡ b + c + d + e
no_down a b c d e p = omega arith

router_comes : (n : ShapeNumbers) (i : ℕ) (side : Port) (j : ℕ) → WithinLimits n → j < board_count n →
    of_router (comes n (router_part n i) side) n j ≡ east_term n (router_part n i) side j + west_term n (router_part n i) side j + south_term n (router_part n i) side j + north_term n (router_part n i) side j
router_comes n i side j l h =
    let first = first_of n j l h in
    let down : one (true && (eqb (tile_part (j * board_tiles n)) (router_part n i) && is_port (side_between (kind_of n (tile_part (j * board_tiles n))) (kind_of n (router_part n j))) side)) ≡ 0 =
    no_term true _ _ (λ t x. not_router n i (j * board_tiles n) (tile_part (j * board_tiles n)) first refl (eqb-true _ _ x)) in
    no_down _ _ _ _ _ down

-- the side from which a router's link leads to another router
back_side : (n : ShapeNumbers) (i j there : ℕ) (way back : Port) → j < board_count n → there ≡ router_part n i → BoardHop n j i way back → side_between (kind_of n there) (kind_of n (router_part n j)) ≡ back
back_side n i j there way back h e hop = kinds_side n there (router_part n j) (kind.Router (board_at n i)) (kind.Router (board_at n j)) back (router_there n i there hop.there e) (router_kind n j h) hop.returns

-- a link East comes from the West, and so on
of_east : (n : ShapeNumbers) (i : ℕ) (side : Port) → WithinLimits n → i < board_count n → total (east_term n (router_part n i) side) 0 (board_count n) ≡ one (nat_lt 0 (i % n.boards_x) && is_port port.West side)
of_east n i side l h =
    single (λ j. nat_lt (j % n.boards_x + 1) n.boards_x) (λ j. router_part n j + 1) (λ j. side_between (kind_of n (router_part n j + 1)) (kind_of n (router_part n j))) (router_part n i) (board_count n) (i - 1) (nat_lt 0 (i % n.boards_x)) port.West side
    (λ j k t x. east_back n i j (ltb-true _ _ t) x)
    (λ t.
    let inside : 0 < i % n.boards_x = ltb-true _ _ t in
    let e = last_place i n.boards_x l.boards_x.0 inside in
    let whole : i / n.boards_x * n.boards_x + i % n.boards_x ≡ i = div-add-mod' i n.boards_x in
    let low : i % n.boards_x < n.boards_x = mod_below i n.boards_x l.boards_x.0 in
    let again : i - 1 + 1 ≡ i = omega arith in
    let x = e.1 in
    let room : (i - 1) % n.boards_x + 1 < n.boards_x = omega arith in
    let onto : router_part n (i - 1) + 1 ≡ router_part n i = omega arith in
    let there : i - 1 < board_count n = omega arith in
    let hop = east_board n (i - 1) l there room in
    let here : BoardHop n (i - 1) i port.East port.West = subst (λ k. BoardHop n (i - 1) k port.East port.West) again hop in
    (there, lt-ltb _ _ room, onto, back_side n i (i - 1) (router_part n (i - 1) + 1) port.East port.West there onto here)) where
      east_back : (n : ShapeNumbers) (i j : ℕ) → j % n.boards_x + 1 < n.boards_x → router_part n j + 1 ≡ router_part n i → (j ≡ i - 1) × (nat_lt 0 (i % n.boards_x) ≡ true)
      east_back n i j inside e =
          let next : i ≡ j + 1 = omega arith in
          let x : i % n.boards_x ≡ j % n.boards_x + 1 = ap (λ k. k % n.boards_x) next ∙ (next_place j n.boards_x inside).1 in
          (omega arith, lt-ltb 0 (i % n.boards_x) (omega arith))

of_west : (n : ShapeNumbers) (i : ℕ) (side : Port) → WithinLimits n → i < board_count n → total (west_term n (router_part n i) side) 0 (board_count n) ≡ one (nat_lt (i % n.boards_x + 1) n.boards_x && is_port port.East side)
of_west n i side l h =
    single (λ j. nat_lt 0 (j % n.boards_x)) (λ j. router_part n j - 1) (λ j. side_between (kind_of n (router_part n j - 1)) (kind_of n (router_part n j))) (router_part n i) (board_count n) (i + 1) (nat_lt (i % n.boards_x + 1) n.boards_x) port.East side
    (λ j k t x. west_from n i j l (ltb-true _ _ t) x)
    (λ t.
    let inside : i % n.boards_x + 1 < n.boards_x = ltb-true _ _ t in
    let out = east_board n i l h inside in
    let there : i + 1 < board_count n = out.there in
    let x = (next_place i n.boards_x inside).1 in
    let room : 0 < (i + 1) % n.boards_x = omega arith in
    let onto : router_part n (i + 1) - 1 ≡ router_part n i = omega arith in
    let again : i + 1 - 1 ≡ i = omega arith in
    let hop = west_board n (i + 1) l there room in
    let here : BoardHop n (i + 1) i port.West port.East = subst (λ k. BoardHop n (i + 1) k port.West port.East) again hop in
    (there, lt-ltb _ _ room, onto, back_side n i (i + 1) (router_part n (i + 1) - 1) port.West port.East there onto here)) where
      west_from : (n : ShapeNumbers) (i j : ℕ) → WithinLimits n → 0 < j % n.boards_x → router_part n j - 1 ≡ router_part n i → (j ≡ i + 1) × (nat_lt (i % n.boards_x + 1) n.boards_x ≡ true)
      west_from n i j l inside e =
          let whole : j / n.boards_x * n.boards_x + j % n.boards_x ≡ j = div-add-mod' j n.boards_x in
          let low : j % n.boards_x < n.boards_x = mod_below j n.boards_x l.boards_x.0 in
          let back : i ≡ j - 1 = omega arith in
          let x : i % n.boards_x ≡ j % n.boards_x - 1 = ap (λ k. k % n.boards_x) back ∙ (last_place j n.boards_x l.boards_x.0 inside).1 in
          (omega arith, lt-ltb (i % n.boards_x + 1) n.boards_x (omega arith))

of_south : (n : ShapeNumbers) (i : ℕ) (side : Port) → WithinLimits n → i < board_count n → total (south_term n (router_part n i) side) 0 (board_count n) ≡ one (nat_lt 0 (i / n.boards_x) && is_port port.North side)
of_south n i side l h =
    single (λ j. nat_lt (j / n.boards_x + 1) n.boards_y) (λ j. router_part n j + n.boards_x) (λ j. side_between (kind_of n (router_part n j + n.boards_x)) (kind_of n (router_part n j))) (router_part n i) (board_count n) (i - n.boards_x) (nat_lt 0 (i / n.boards_x)) port.North side
    (λ j k t x. south_from n i j l (ltb-true _ _ t) x)
    (λ t.
    let inside : 0 < i / n.boards_x = ltb-true _ _ t in
    let up = upper_row i n.boards_x l.boards_x.0 inside in
    let row : i / n.boards_x < n.boards_y = div_below i n.boards_x n.boards_y l.boards_x.0 (omega arith) in
    let low = up.2 in
    let y = up.0 in
    let again : i - n.boards_x + n.boards_x ≡ i = omega arith in
    let room : (i - n.boards_x) / n.boards_x + 1 < n.boards_y = omega arith in
    let onto : router_part n (i - n.boards_x) + n.boards_x ≡ router_part n i = omega arith in
    let there : i - n.boards_x < board_count n = omega arith in
    let hop = south_board n (i - n.boards_x) l there room in
    let here : BoardHop n (i - n.boards_x) i port.South port.North = subst (λ k. BoardHop n (i - n.boards_x) k port.South port.North) again hop in
    (there, lt-ltb _ _ room, onto, back_side n i (i - n.boards_x) (router_part n (i - n.boards_x) + n.boards_x) port.South port.North there onto here)) where
      south_from : (n : ShapeNumbers) (i j : ℕ) → WithinLimits n → j / n.boards_x + 1 < n.boards_y → router_part n j + n.boards_x ≡ router_part n i → (j ≡ i - n.boards_x) × (nat_lt 0 (i / n.boards_x) ≡ true)
      south_from n i j l inside e =
          let next : i ≡ j + n.boards_x = omega arith in
          let y : i / n.boards_x ≡ j / n.boards_x + 1 = ap (λ k. k / n.boards_x) next ∙ (lower_row j n.boards_x l.boards_x.0).0 in
          (omega arith, lt-ltb 0 (i / n.boards_x) (omega arith))

of_north : (n : ShapeNumbers) (i : ℕ) (side : Port) → WithinLimits n → i < board_count n → total (north_term n (router_part n i) side) 0 (board_count n) ≡ one (nat_lt (i / n.boards_x + 1) n.boards_y && is_port port.South side)
of_north n i side l h =
    single (λ j. nat_lt 0 (j / n.boards_x)) (λ j. router_part n j - n.boards_x) (λ j. side_between (kind_of n (router_part n j - n.boards_x)) (kind_of n (router_part n j))) (router_part n i) (board_count n) (i + n.boards_x) (nat_lt (i / n.boards_x + 1) n.boards_y) port.South side
    (λ j k t x. north_from n i j l k (ltb-true _ _ t) x)
    (λ t.
    let inside : i / n.boards_x + 1 < n.boards_y = ltb-true _ _ t in
    let out = south_board n i l h inside in
    let there : i + n.boards_x < board_count n = out.there in
    let y = (lower_row i n.boards_x l.boards_x.0).0 in
    let room : 0 < (i + n.boards_x) / n.boards_x = omega arith in
    let onto : router_part n (i + n.boards_x) - n.boards_x ≡ router_part n i = omega arith in
    let again : i + n.boards_x - n.boards_x ≡ i = omega arith in
    let hop = north_board n (i + n.boards_x) l there room in
    let here : BoardHop n (i + n.boards_x) i port.North port.South = subst (λ k. BoardHop n (i + n.boards_x) k port.North port.South) again hop in
    (there, lt-ltb _ _ room, onto, back_side n i (i + n.boards_x) (router_part n (i + n.boards_x) - n.boards_x) port.North port.South there onto here)) where
      north_from : (n : ShapeNumbers) (i j : ℕ) → WithinLimits n → j < board_count n → 0 < j / n.boards_x → router_part n j - n.boards_x ≡ router_part n i → (j ≡ i + n.boards_x) × (nat_lt (i / n.boards_x + 1) n.boards_y ≡ true)
      north_from n i j l k inside e =
          let up = upper_row j n.boards_x l.boards_x.0 inside in
          let low = up.2 in
          let row : j / n.boards_x < n.boards_y = div_below j n.boards_x n.boards_y l.boards_x.0 (omega arith) in
          let back : i ≡ j - n.boards_x = omega arith in
          let y : i / n.boards_x ≡ j / n.boards_x - 1 = ap (λ k. k / n.boards_x) back ∙ up.0 in
          (omega arith, lt-ltb (i / n.boards_x + 1) n.boards_y (omega arith))

from_routers : (n : ShapeNumbers) (i : ℕ) (side : Port) → WithinLimits n → i < board_count n →
    total (of_router (comes n (router_part n i) side) n) 0 (board_count n)
    ≡ one (nat_lt 0 (i % n.boards_x) && is_port port.West side) + one (nat_lt (i % n.boards_x + 1) n.boards_x && is_port port.East side)
    + one (nat_lt 0 (i / n.boards_x) && is_port port.North side) + one (nat_lt (i / n.boards_x + 1) n.boards_y && is_port port.South side)
from_routers n i side l h =
    let e = east_term n (router_part n i) side in
    let w = west_term n (router_part n i) side in
    let s = south_term n (router_part n i) side in
    let o = north_term n (router_part n i) side in
    total_same (of_router (comes n (router_part n i) side) n) (λ j. e j + w j + s j + o j) 0 (board_count n) (λ j k. router_comes n i side j l (omega arith))
    ∙ total_four e w s o 0 (board_count n) ∙ four _ _ _ _ _ _ _ _ (of_east n i side l h) (of_west n i side l h) (of_south n i side l h) (of_north n i side l h) where
      four : (a b c d p q r s : ℕ) → a ≡ p → b ≡ q → c ≡ r → d ≡ s → a + b + c + d ≡ p + q + r + s
      four a b c d p q r s t u v w = omega arith

-- ---- all links to a router

from_host : (n : ShapeNumbers) (i : ℕ) (side : Port) → WithinLimits n → i < board_count n → of_host (comes n (router_part n i) side) n ≡ one (eqb (router_part n 0) (router_part n i) && is_port port.HostPort side)
from_host n i side l h =
    let some : 0 < board_count n = omega arith in
    let out : one (true && (eqb 0 (router_part n i) && is_port (side_between (kind_of n 0) (kind_of n (router_part n 0))) side)) ≡ 0 = no_term true _ _ (λ t x. let z = eqb-true 0 (router_part n i) x in omega arith) in
    let is : side_between (kind_of n (router_part n 0)) (kind_of n 0) ≡ port.HostPort = kinds_side n (router_part n 0) 0 (kind.Router (board_at n 0)) kind.Host port.HostPort (router_kind n 0 some) refl refl in
    behind _ _ out ∙ ap (λ p. one (eqb (router_part n 0) (router_part n i) && is_port p side)) is where
      behind : (a b : ℕ) → a ≡ 0 → a + b ≡ b
      behind a b p = omega arith

router_sides : (n : ShapeNumbers) (i : ℕ) (side : Port) → WithinLimits n →
    by_way (nat_lt (i % n.boards_x + 1) n.boards_x) (nat_lt 0 (i % n.boards_x)) (nat_lt (i / n.boards_x + 1) n.boards_y) (nat_lt 0 (i / n.boards_x)) true false (eqb (router_part n 0) (router_part n i)) side
    ≡ has_side n (board_at n i) side
router_sides n i side l = by_same _ _ _ _ _ _ _ _ _ _ _ _ _ _ side refl refl refl refl refl refl (first_board n i l) ∙ sym (side_by n (board_at n i) side)

pub router_sided : (n : ShapeNumbers) (i : ℕ) (side : Port) → WithinLimits n → i < board_count n → count (comes n (router_part n i) side) (parts n) ≡ one (has_side n (board_at n i) side)
router_sided n i side l h =
    parts_counted (comes n (router_part n i) side) n (comes_links n (router_part n i) side)
    ∙ sum _ _ _ _ _ _ _ _ _ (from_tiles n i side l h) (from_routers n i side l h) (from_host n i side l h)
    ∙ of_seven (nat_lt (i % n.boards_x + 1) n.boards_x) (nat_lt 0 (i % n.boards_x)) (nat_lt (i / n.boards_x + 1) n.boards_y) (nat_lt 0 (i / n.boards_x)) true false (eqb (router_part n 0) (router_part n i)) side
    ∙ ap one (router_sides n i side l) where
      sum : (a b c u w e o s h : ℕ) → a ≡ u → b ≡ w + e + o + s → c ≡ h → a + b + c ≡ e + w + s + o + u + 0 + h
      sum a b c u w e o s h p q r = omega arith
