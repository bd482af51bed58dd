-- Neighbours: tiles of one board, and boards.
use Rattle.std.proofs.Common.{ℕ, ◌≡◌, ◌≤◌, ◌<◌, ◌+◌, ◌-◌, ◌*◌, ◌/◌, ◌%◌, ◌&&◌, Bool, true, false, cond, eqb, zero, suc, refl, arith, sym, ap, ◌∙◌}
use Rattle.std.proofs.Math.Dec.{eqb-suc-zero}
use Rattle.std.proofs.lemmas.Bool.{eq-eqb, eqb-true, le-ltb, lt-ltb}
use Rattle.std.proofs.lemmas.Nat.{div_below, div-add-mod', div-mul-add, mod_below, mod-mul-add, mul-add-lt}
use Rattle.tn_base.specs.declared.part.Kind.TheVariants as kind
use Rattle.tn_base.specs.declared.port.Port.{Port}
use Rattle.tn_base.specs.declared.port.Port.TheVariants as port
use Rattle.tn_base.specs.declared.shape.ShapeNumbers.{ShapeNumbers}
use Rattle.tn_base.specs.Parts.{board_at, board_count, board_tiles, from_routers, from_tile_links, kind_of, router_part, tile_at, tile_count}
use Rattle.tn_base.specs.Ports.{board_x, board_y, same_board, tile_x, tile_y, to_router, to_tile, toward}
use Rattle.tn_base.specs.Shape.{WithinLimits}
use Rattle.tn_base.proofs.Listing.{behind_at, front_at}

-- ---- numbers in rows of m

pub next_place : (i m : ℕ) → i % m + 1 < m → ((i + 1) / m ≡ i / m) × ((i + 1) % m ≡ i % m + 1)
next_place i m h =
    let whole : i / m * m + i % m ≡ i = div-add-mod' i m in
    let e : i + 1 ≡ i / m * m + (i % m + 1) = omega arith in
    (ap (λ k. k / m) e ∙ div-mul-add (i / m) m (i % m + 1) h, ap (λ k. k % m) e ∙ mod-mul-add (i / m) m (i % m + 1) h)

pub last_place : (i m : ℕ) → 0 < m → 0 < i % m → ((i - 1) / m ≡ i / m) × ((i - 1) % m ≡ i % m - 1)
last_place i m some h =
    let whole : i / m * m + i % m ≡ i = div-add-mod' i m in
    let low = mod_below i m some in
    let e : i - 1 ≡ i / m * m + (i % m - 1) = omega arith in
    let less : i % m - 1 < m = omega arith in
    (ap (λ k. k / m) e ∙ div-mul-add (i / m) m (i % m - 1) less, ap (λ k. k % m) e ∙ mod-mul-add (i / m) m (i % m - 1) less)

pub lower_row : (i m : ℕ) → 0 < m → ((i + m) / m ≡ i / m + 1) × ((i + m) % m ≡ i % m)
lower_row i m some =
    let whole : i / m * m + i % m ≡ i = div-add-mod' i m in
    let e : i + m ≡ (i / m + 1) * m + i % m = omega arith in
    let low = mod_below i m some in
    (ap (λ k. k / m) e ∙ div-mul-add (i / m + 1) m (i % m) low, ap (λ k. k % m) e ∙ mod-mul-add (i / m + 1) m (i % m) low)

upper_by : (i m k r : ℕ) → r < m → (k + 1) * m + r ≡ i → ((i - m) / m ≡ k) × ((i - m) % m ≡ r) × (m ≤ i)
upper_by i m k r low whole =
    let e : i - m ≡ k * m + r = omega arith in
    (ap (λ j. j / m) e ∙ div-mul-add k m r low, ap (λ j. j % m) e ∙ mod-mul-add k m r low, omega arith)

pub upper_row : (i m : ℕ) → 0 < m → 0 < i / m → ((i - m) / m ≡ i / m - 1) × ((i - m) % m ≡ i % m) × (m ≤ i)
upper_row i m some h =
    let row : i / m - 1 + 1 ≡ i / m = omega arith in
    upper_by i m (i / m - 1) (i % m) (mod_below i m some) (ap (λ q. q * m + i % m) row ∙ div-add-mod' i m)

pub next_in_row : (i m rows : ℕ) → 0 < m → i < rows * m → i % m + 1 < m → i + 1 < rows * m
next_in_row i m rows some h inside =
    let row : i / m < rows = div_below i m rows some h in
    let next : i / m * m + (i % m + 1) < m * rows = mul-add-lt (i / m) m (i % m + 1) rows row inside in
    let whole : i / m * m + i % m ≡ i = div-add-mod' i m in
    omega arith

pub next_row : (i m rows : ℕ) → 0 < m → i / m + 1 < rows → i + m < rows * m
next_row i m rows some h =
    let next : (i / m + 1) * m + i % m < m * rows = mul-add-lt (i / m + 1) m (i % m) rows h (mod_below i m some) in
    let whole : i / m * m + i % m ≡ i = div-add-mod' i m in
    omega arith

pub first_place : (i m : ℕ) → i % m ≡ 0 → i / m ≡ 0 → i ≡ 0
first_place i m p q =
    let whole : i / m * m + i % m ≡ i = div-add-mod' i m in
    let none : i / m * m ≡ 0 * m = ap (λ k. k * m) q in
    omega arith

-- ---- ways between places

pub toward_same : (x y u v a b c d : ℕ) (stop : Port) → x ≡ a → y ≡ b → u ≡ c → v ≡ d → toward x y u v stop ≡ toward a b c d stop
toward_same x y u v a b c d stop p q r s =
    ap (λ k. toward k y u v stop) p ∙ ap (λ k. toward a k u v stop) q ∙ ap (λ k. toward a b k v stop) r ∙ ap (λ k. toward a b c k stop) s

pub toward_east : (x y u v : ℕ) (stop : Port) → x < u → toward x y u v stop ≡ port.East
toward_east x y u v stop h = rw (lt-ltb x u h) refl

pub toward_west : (x y u v : ℕ) (stop : Port) → u < x → toward x y u v stop ≡ port.West
toward_west x y u v stop h = rw (le-ltb x u (omega arith), lt-ltb u x h) refl

pub toward_south : (x y u v : ℕ) (stop : Port) → x ≡ u → y < v → toward x y u v stop ≡ port.South
toward_south x y u v stop e h = rw (le-ltb x u (omega arith), le-ltb u x (omega arith), lt-ltb y v h) refl

pub toward_north : (x y u v : ℕ) (stop : Port) → x ≡ u → v < y → toward x y u v stop ≡ port.North
toward_north x y u v stop e h = rw (le-ltb x u (omega arith), le-ltb u x (omega arith), le-ltb y v (omega arith), lt-ltb v y h) refl

-- ---- the digits of a tile's address

pub record Digits (n : ShapeNumbers) (i : ℕ) : Type 0 where
  pub x : tile_x (tile_at n i) ≡ i % n.tiles_x
  pub y : tile_y (tile_at n i) ≡ i / n.tiles_x % n.tiles_y
  pub over_x : board_x (tile_at n i) ≡ i / n.tiles_x / n.tiles_y % n.boards_x
  pub over_y : board_y (tile_at n i) ≡ i / n.tiles_x / n.tiles_y / n.boards_x

digits_of : (a b c d : ℕ) → a < 4 → b < 4 → c < 4 → d < 4 →
    let t = (((d * 4 + c) * 4 + b) * 4 + a) * 64 in
    (tile_x t ≡ a) × (tile_y t ≡ b) × (board_x t ≡ c) × (board_y t ≡ d)
digits_of a b c d p q r s = (omega arith, omega arith, omega arith, omega arith)

pub digits : (n : ShapeNumbers) (i : ℕ) → WithinLimits n → i < tile_count n → Digits n i
digits n i l h =
    let rows = n.boards_x * n.boards_y * n.tiles_y in
    let row : i / n.tiles_x < rows = div_below i n.tiles_x rows l.tiles_x.0 (omega arith) in
    let board : i / n.tiles_x / n.tiles_y < n.boards_x * n.boards_y = div_below (i / n.tiles_x) n.tiles_y (n.boards_x * n.boards_y) l.tiles_y.0 row in
    let high : i / n.tiles_x / n.tiles_y / n.boards_x < n.boards_y = div_below (i / n.tiles_x / n.tiles_y) n.boards_x n.boards_y l.boards_x.0 (omega arith) in
    let a = mod_below i n.tiles_x l.tiles_x.0 in
    let b = mod_below (i / n.tiles_x) n.tiles_y l.tiles_y.0 in
    let c = mod_below (i / n.tiles_x / n.tiles_y) n.boards_x l.boards_x.0 in
    let tx = l.tiles_x.1 in
    let ty = l.tiles_y.1 in
    let bx = l.boards_x.1 in
    let by = l.boards_y.1 in
    let d = digits_of (i % n.tiles_x) (i / n.tiles_x % n.tiles_y) (i / n.tiles_x / n.tiles_y % n.boards_x) (i / n.tiles_x / n.tiles_y / n.boards_x) (omega arith) (omega arith) (omega arith) (omega arith) in
    record { x = d.0; y = d.1; over_x = d.2; over_y = d.3 }

-- ---- neighbours on a board

-- the way from one tile to another
pub record TileHop (n : ShapeNumbers) (i j : ℕ) (way : Port) : Type 0 where
  pub there : j < tile_count n
  pub leads : to_tile (tile_at n i) (tile_at n j) ≡ way

same_yes : (a b : ℕ) → board_x a ≡ board_x b → board_y a ≡ board_y b → same_board a b ≡ true
same_yes a b p q = ap (λ t. t && eqb (board_y a) (board_y b)) (eq-eqb (board_x a) (board_x b) p) ∙ eq-eqb (board_y a) (board_y b) q

on_board : (a b : ℕ) → same_board a b ≡ true → to_tile a b ≡ toward (tile_x a) (tile_y a) (tile_x b) (tile_y b) port.Here
on_board a b e = ap (λ t. cond t (toward (tile_x a) (tile_y a) (tile_x b) (tile_y b) port.Here) (to_router a)) e

-- tiles of one board
tile_way : (n : ShapeNumbers) (i j : ℕ) → WithinLimits n → i < tile_count n → j < tile_count n → j / n.tiles_x / n.tiles_y ≡ i / n.tiles_x / n.tiles_y →
    to_tile (tile_at n i) (tile_at n j) ≡ toward (i % n.tiles_x) (i / n.tiles_x % n.tiles_y) (j % n.tiles_x) (j / n.tiles_x % n.tiles_y) port.Here
tile_way n i j l h k same =
    let a = digits n i l h in
    let b = digits n j l k in
    on_board (tile_at n i) (tile_at n j)
    (same_yes (tile_at n i) (tile_at n j) (a.over_x ∙ ap (λ q. q % n.boards_x) (sym same) ∙ sym b.over_x) (a.over_y ∙ ap (λ q. q / n.boards_x) (sym same) ∙ sym b.over_y))
    ∙ toward_same _ _ _ _ _ _ _ _ port.Here a.x a.y b.x b.y

pub east_hop : (n : ShapeNumbers) (i : ℕ) → WithinLimits n → i < tile_count n → i % n.tiles_x + 1 < n.tiles_x → TileHop n i (i + 1) port.East
east_hop n i l h inside =
    let rows = n.boards_x * n.boards_y * n.tiles_y in
    let next : i + 1 < rows * n.tiles_x = next_in_row i n.tiles_x rows l.tiles_x.0 (omega arith) inside in
    let there : i + 1 < tile_count n = omega arith in
    let e = next_place i n.tiles_x inside in
    let x = e.1 in
    record {
      there = there;
      leads = tile_way n i (i + 1) l h there (ap (λ k. k / n.tiles_y) e.0) ∙ toward_east (i % n.tiles_x) (i / n.tiles_x % n.tiles_y) ((i + 1) % n.tiles_x) ((i + 1) / n.tiles_x % n.tiles_y) port.Here (omega arith);
    }

pub west_hop : (n : ShapeNumbers) (i : ℕ) → WithinLimits n → i < tile_count n → 0 < i % n.tiles_x → TileHop n i (i - 1) port.West
west_hop n i l h inside =
    let there : i - 1 < tile_count n = omega arith in
    let e = last_place i n.tiles_x l.tiles_x.0 inside in
    let x = e.1 in
    record {
      there = there;
      leads = tile_way n i (i - 1) l h there (ap (λ k. k / n.tiles_y) e.0) ∙ toward_west (i % n.tiles_x) (i / n.tiles_x % n.tiles_y) ((i - 1) % n.tiles_x) ((i - 1) / n.tiles_x % n.tiles_y) port.Here (omega arith);
    }

pub south_hop : (n : ShapeNumbers) (i : ℕ) → WithinLimits n → i < tile_count n → i / n.tiles_x % n.tiles_y + 1 < n.tiles_y → TileHop n i (i + n.tiles_x) port.South
south_hop n i l h inside =
    let rows = n.boards_x * n.boards_y * n.tiles_y in
    let row : i / n.tiles_x < rows = div_below i n.tiles_x rows l.tiles_x.0 (omega arith) in
    let lower : i / n.tiles_x + 1 < rows = next_in_row (i / n.tiles_x) n.tiles_y (n.boards_x * n.boards_y) l.tiles_y.0 row inside in
    let next : i + n.tiles_x < rows * n.tiles_x = next_row i n.tiles_x rows l.tiles_x.0 lower in
    let there : i + n.tiles_x < tile_count n = omega arith in
    let e = lower_row i n.tiles_x l.tiles_x.0 in
    let f = next_place (i / n.tiles_x) n.tiles_y inside in
    let y : (i + n.tiles_x) / n.tiles_x % n.tiles_y ≡ i / n.tiles_x % n.tiles_y + 1 = ap (λ k. k % n.tiles_y) e.0 ∙ f.1 in
    record {
      there = there;
      leads = tile_way n i (i + n.tiles_x) l h there (ap (λ k. k / n.tiles_y) e.0 ∙ f.0) ∙ toward_south (i % n.tiles_x) (i / n.tiles_x % n.tiles_y) ((i + n.tiles_x) % n.tiles_x) ((i + n.tiles_x) / n.tiles_x % n.tiles_y) port.Here (sym e.1) (omega arith);
    }

pub north_hop : (n : ShapeNumbers) (i : ℕ) → WithinLimits n → i < tile_count n → 0 < i / n.tiles_x % n.tiles_y → TileHop n i (i - n.tiles_x) port.North
north_hop n i l h inside =
    let whole : i / n.tiles_x / n.tiles_y * n.tiles_y + i / n.tiles_x % n.tiles_y ≡ i / n.tiles_x = div-add-mod' (i / n.tiles_x) n.tiles_y in
    let some : 0 < i / n.tiles_x = omega arith in
    let there : i - n.tiles_x < tile_count n = omega arith in
    let e = upper_row i n.tiles_x l.tiles_x.0 some in
    let f = last_place (i / n.tiles_x) n.tiles_y l.tiles_y.0 inside in
    let y : (i - n.tiles_x) / n.tiles_x % n.tiles_y ≡ i / n.tiles_x % n.tiles_y - 1 = ap (λ k. k % n.tiles_y) e.0 ∙ f.1 in
    record {
      there = there;
      leads = tile_way n i (i - n.tiles_x) l h there (ap (λ k. k / n.tiles_y) e.0 ∙ f.0) ∙ toward_north (i % n.tiles_x) (i / n.tiles_x % n.tiles_y) ((i - n.tiles_x) % n.tiles_x) ((i - n.tiles_x) / n.tiles_x % n.tiles_y) port.Here (sym e.1) (omega arith);
    }

-- the first tile of a board
pub board_place : (i x y : ℕ) → 0 < x → 0 < y → (i % (x * y) ≡ i / x % y * x + i % x) × (i / (x * y) ≡ i / x / y)
board_place i x y some few =
    let low : i / x % y * x + i % x < x * y = mul-add-lt (i / x % y) x (i % x) y (mod_below (i / x) y few) (mod_below i x some) in
    let row : i / x / y * y + i / x % y ≡ i / x = div-add-mod' (i / x) y in
    let whole : i / x * x + i % x ≡ i = div-add-mod' i x in
    let parts : (i / x / y * y + i / x % y) * x ≡ i / x * x = ap (λ k. k * x) row in
    let e : i ≡ i / x / y * (x * y) + (i / x % y * x + i % x) = omega arith in
    (ap (λ k. k % (x * y)) e ∙ mod-mul-add (i / x / y) (x * y) (i / x % y * x + i % x) low, ap (λ k. k / (x * y)) e ∙ div-mul-add (i / x / y) (x * y) (i / x % y * x + i % x) low)

first_zero : (x y m : ℕ) → 0 < m → y * m + x ≡ 0 → (x ≡ 0) × (y ≡ 0)
first_zero x zero m some h = (omega arith, refl)
first_zero x (suc y) m some h = absurd (omega arith)

pub first_both : (x y m : ℕ) → 0 < m → eqb (y * m + x) 0 ≡ (eqb x 0 && eqb y 0)
first_both zero zero m some = eq-eqb (0 * m + 0) 0 (omega arith)
first_both (suc x) y m some = by (eqb (y * m + suc x) 0) refl ∙ sym (ap (λ t. t && eqb y 0) (eqb-suc-zero x)) where
  by : (b : Bool) → eqb (y * m + suc x) 0 ≡ b → b ≡ false
  by false e = refl
  by true e = let z = eqb-true _ _ e in absurd (omega arith)
first_both zero (suc y) m some = by (eqb (suc y * m + 0) 0) refl where
  by : (b : Bool) → eqb (suc y * m + 0) 0 ≡ b → b ≡ eqb (suc y) 0
  by false e = sym (eqb-suc-zero y)
  by true e = let z = (first_zero 0 (suc y) m some (eqb-true _ _ e)).1 in absurd (cc)

-- a tile has the first place of its board exactly if its digits there are zero
pub first_tile : (n : ShapeNumbers) (i : ℕ) → WithinLimits n → i < tile_count n → eqb (i % board_tiles n) 0 ≡ (eqb (tile_x (tile_at n i)) 0 && eqb (tile_y (tile_at n i)) 0)
first_tile n i l h =
    let d = digits n i l h in
    let p = board_place i n.tiles_x n.tiles_y l.tiles_x.0 l.tiles_y.0 in
    ap (λ k. eqb k 0) p.0 ∙ first_both (i % n.tiles_x) (i / n.tiles_x % n.tiles_y) n.tiles_x l.tiles_x.0
    ∙ ap (λ k. eqb k 0 && eqb (i / n.tiles_x % n.tiles_y) 0) (sym d.x) ∙ ap (λ k. eqb (tile_x (tile_at n i)) 0 && eqb k 0) (sym d.y)

-- ---- neighbours of boards

-- the way from one board to another, and the way back
pub record BoardHop (n : ShapeNumbers) (i j : ℕ) (way back : Port) : Type 0 where
  pub there : j < board_count n
  pub leads : toward (i % n.boards_x) (i / n.boards_x) (j % n.boards_x) (j / n.boards_x) port.Here ≡ way
  pub returns : toward (j % n.boards_x) (j / n.boards_x) (i % n.boards_x) (i / n.boards_x) port.Here ≡ back

pub east_board : (n : ShapeNumbers) (i : ℕ) → WithinLimits n → i < board_count n → i % n.boards_x + 1 < n.boards_x → BoardHop n i (i + 1) port.East port.West
east_board n i l h inside =
    let next : i + 1 < n.boards_y * n.boards_x = next_in_row i n.boards_x n.boards_y l.boards_x.0 (omega arith) inside in
    let x = (next_place i n.boards_x inside).1 in
    record { there = omega arith; leads = toward_east (i % n.boards_x) (i / n.boards_x) ((i + 1) % n.boards_x) ((i + 1) / n.boards_x) port.Here (omega arith); returns = toward_west ((i + 1) % n.boards_x) ((i + 1) / n.boards_x) (i % n.boards_x) (i / n.boards_x) port.Here (omega arith) }

pub west_board : (n : ShapeNumbers) (i : ℕ) → WithinLimits n → i < board_count n → 0 < i % n.boards_x → BoardHop n i (i - 1) port.West port.East
west_board n i l h inside =
    let x = (last_place i n.boards_x l.boards_x.0 inside).1 in
    record { there = omega arith; leads = toward_west (i % n.boards_x) (i / n.boards_x) ((i - 1) % n.boards_x) ((i - 1) / n.boards_x) port.Here (omega arith); returns = toward_east ((i - 1) % n.boards_x) ((i - 1) / n.boards_x) (i % n.boards_x) (i / n.boards_x) port.Here (omega arith) }

pub south_board : (n : ShapeNumbers) (i : ℕ) → WithinLimits n → i < board_count n → i / n.boards_x + 1 < n.boards_y → BoardHop n i (i + n.boards_x) port.South port.North
south_board n i l h inside =
    let next : i + n.boards_x < n.boards_y * n.boards_x = next_row i n.boards_x n.boards_y l.boards_x.0 inside in
    let e = lower_row i n.boards_x l.boards_x.0 in
    let y = e.0 in
    record { there = omega arith; leads = toward_south (i % n.boards_x) (i / n.boards_x) ((i + n.boards_x) % n.boards_x) ((i + n.boards_x) / n.boards_x) port.Here (sym e.1) (omega arith); returns = toward_north ((i + n.boards_x) % n.boards_x) ((i + n.boards_x) / n.boards_x) (i % n.boards_x) (i / n.boards_x) port.Here e.1 (omega arith) }

pub north_board : (n : ShapeNumbers) (i : ℕ) → WithinLimits n → i < board_count n → 0 < i / n.boards_x → BoardHop n i (i - n.boards_x) port.North port.South
north_board n i l h inside =
    let e = upper_row i n.boards_x l.boards_x.0 inside in
    let y = e.0 in
    record { there = omega arith; leads = toward_north (i % n.boards_x) (i / n.boards_x) ((i - n.boards_x) % n.boards_x) ((i - n.boards_x) / n.boards_x) port.Here (sym e.1) (omega arith); returns = toward_south ((i - n.boards_x) % n.boards_x) ((i - n.boards_x) / n.boards_x) (i % n.boards_x) (i / n.boards_x) port.Here e.1 (omega arith) }

-- ---- kinds

pub router_kind : (n : ShapeNumbers) (i : ℕ) → i < board_count n → kind_of n (router_part n i) ≡ kind.Router (board_at n i)
router_kind n i h =
    let at : 1 + tile_count n + i ≡ suc (tile_count n + i) = omega arith in
    let rest : tile_count n + i - tile_count n ≡ i = omega arith in
    rw at
    (behind_at (λ i. kind.Tile (record { 0 = tile_at n i })) (tile_count n) (tile_count n + i) (from_routers n) kind.Detector (omega arith)
    ∙ rw rest (front_at (λ i. kind.Router (board_at n i)) (board_count n) i (from_tile_links n) kind.Detector h))
