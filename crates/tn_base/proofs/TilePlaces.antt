-- Places of threads on a tile and of tiles in the machine, and their addresses.
use Rattle.std.proofs.Common.{ℕ, List, ◌∷◌, get_or, suc, ◌≡◌, ◌≤◌, ◌<◌, ◌+◌, ◌*◌, ◌/◌, ◌%◌, IsTrue, refl, arith, ◌∙◌}
use Rattle.std.proofs.lemmas.Nat.{mul-le, div-mul-add, mod-mul-add, div_below, div-add-mod', mod_below, mul-add-lt}
use Rattle.std.proofs.lemmas.Bool.Decides.{nat_tests}
use Rattle.tn_base.specs.declared.shape.ShapeNumbers.{ShapeNumbers}
use Rattle.tn_base.specs.declared.part.Kind.TheVariants as kind
use Rattle.tn_base.specs.Shape.{WithinLimits}
use Rattle.tn_base.specs.Address.{has_thread, has_tile, in_tile, place_in_tile, tile_of, tile_place, tile_threads}
use Rattle.tn_base.specs.Parts.{from_routers, from_tiles, kind_of, tile_at, tile_count, tile_part}
use Rattle.tn_base.proofs.Listing.{front_at}
use Rattle.tn_base.proofs.Places.{orders_tiles}

-- the fields of a thread's address
pub record Fields (n : ShapeNumbers) (a : ℕ) : Type 0 where
  pub core : a / 16 % 4 < n.cores
  pub thread : a % 16 < n.threads
  pub tile : IsTrue (has_tile n (tile_of a))

pub fields : (n : ShapeNumbers) (a : ℕ) → IsTrue (has_thread n a) → Fields n a
fields n a h = record {
  core = grind (arith, nat_tests);
  thread = grind (arith, nat_tests);
  tile = grind (arith, nat_tests);
}

pub place_below : (n : ShapeNumbers) (a : ℕ) → IsTrue (has_thread n a) → place_in_tile n a < tile_threads n
place_below n a h = let f = fields n a h in omega (arith, mul-add-lt (a / 16 % 4) n.threads (a % 16) n.cores f.core f.thread)

pub place_named : (n : ShapeNumbers) (a : ℕ) → IsTrue (has_thread n a) → in_tile n (tile_of a) (place_in_tile n a) ≡ a
place_named n a h =
    let f = fields n a h in
    let high : (a / 16 % 4 * n.threads + a % 16) / n.threads ≡ a / 16 % 4 = div-mul-add (a / 16 % 4) n.threads (a % 16) f.thread in
    let low : (a / 16 % 4 * n.threads + a % 16) % n.threads ≡ a % 16 = mod-mul-add (a / 16 % 4) n.threads (a % 16) f.thread in
    rw (high, low) (omega arith)

-- the fields of the address of a place
pub record Placed (n : ShapeNumbers) (tile k : ℕ) : Type 0 where
  pub core : in_tile n tile k / 16 % 4 ≡ k / n.threads
  pub thread : in_tile n tile k % 16 ≡ k % n.threads
  pub line : in_tile n tile k / 64 ≡ tile / 64
  pub few_cores : k / n.threads < n.cores
  pub few_threads : k % n.threads < n.threads

of_lines : (tile c t : ℕ) → tile % 64 ≡ 0 → c < 4 → t < 16 →
    ((tile + c * 16 + t) / 16 % 4 ≡ c) × ((tile + c * 16 + t) % 16 ≡ t) × ((tile + c * 16 + t) / 64 ≡ tile / 64)
of_lines tile c t h j k = (omega arith, omega arith, omega arith)

whole_tile : (n : ShapeNumbers) (tile : ℕ) → IsTrue (has_tile n tile) → tile % 64 ≡ 0
whole_tile n tile h = grind (arith, nat_tests)

pub placed : (n : ShapeNumbers) (tile k : ℕ) → WithinLimits n → IsTrue (has_tile n tile) → k < tile_threads n → Placed n tile k
placed n tile k l h j =
    let few_cores : k / n.threads < n.cores = div_below k n.threads n.cores (omega (arith, l.threads.0)) (omega arith) in
    let few_threads : k % n.threads < n.threads = mod_below k n.threads (omega (arith, l.threads.0)) in
    let lines = of_lines tile (k / n.threads) (k % n.threads) (whole_tile n tile h) (omega (arith, l.cores.1)) (omega (arith, l.threads.1)) in
    record { core = lines.0; thread = lines.1; line = lines.2; few_cores = few_cores; few_threads = few_threads }

has_by_fields : (n : ShapeNumbers) (tile a : ℕ) → IsTrue (has_tile n tile) → a / 64 ≡ tile / 64 → a / 16 % 4 < n.cores → a % 16 < n.threads → IsTrue (has_thread n a)
has_by_fields n tile a h e c t =
    let x : a / 64 % 4 ≡ tile / 64 % 4 = omega arith in
    let y : a / 256 % 4 ≡ tile / 256 % 4 = omega arith in
    let u : a / 1024 % 4 ≡ tile / 1024 % 4 = omega arith in
    let v : a / 4096 % 4 ≡ tile / 4096 % 4 = omega arith in
    grind (arith, nat_tests)

pub place_there : (n : ShapeNumbers) (tile k : ℕ) → WithinLimits n → IsTrue (has_tile n tile) → k < tile_threads n → IsTrue (has_thread n (in_tile n tile k))
place_there n tile k l h j =
    let p = placed n tile k l h j in
    has_by_fields n tile (in_tile n tile k) h p.line (rw p.core p.few_cores) (rw p.thread p.few_threads)

pub place_back : (n : ShapeNumbers) (tile k : ℕ) → WithinLimits n → IsTrue (has_tile n tile) → k < tile_threads n →
    (tile_of (in_tile n tile k) ≡ tile) × (place_in_tile n (in_tile n tile k) ≡ k)
place_back n tile k l h j =
    let p = placed n tile k l h j in (
      rw p.line (omega (arith, whole_tile n tile h)),
      rw (p.core, p.thread) (div-add-mod' k n.threads),
    )

-- the digits of a tile's address
tile_digits : (x y u v : ℕ) → x < 4 → y < 4 → u < 4 → v < 4 →
    let a = (((v * 4 + u) * 4 + y) * 4 + x) * 64 in
    (a / 64 % 4 ≡ x) × (a / 256 % 4 ≡ y) × (a / 1024 % 4 ≡ u) × (a / 4096 % 4 ≡ v)
tile_digits x y u v hx hy hu hv = (omega arith, omega arith, omega arith, omega arith)

-- a number is that of its digits
of_digits : (i x y u : ℕ) → ((i / x / y / u * u + i / x / y % u) * y + i / x % y) * x + i % x ≡ i
of_digits i x y u =
    rw (div-add-mod' (i / x / y) u) (rw (div-add-mod' (i / x) y) (div-add-mod' i x))

pub tile_placed : (n : ShapeNumbers) (i : ℕ) → WithinLimits n → i < tile_count n → tile_place n (tile_at n i) ≡ i
tile_placed n i l h =
    let top : i / n.tiles_x / n.tiles_y / n.boards_x < n.boards_y =
    div_below _ n.boards_x n.boards_y (omega (arith, l.boards_x.0))
    (div_below _ n.tiles_y (n.boards_y * n.boards_x) (omega (arith, l.tiles_y.0))
    (div_below i n.tiles_x (n.boards_y * n.boards_x * n.tiles_y) (omega (arith, l.tiles_x.0)) (omega arith))) in
    let x : i % n.tiles_x < n.tiles_x = mod_below i n.tiles_x (omega (arith, l.tiles_x.0)) in
    let y : i / n.tiles_x % n.tiles_y < n.tiles_y = mod_below _ n.tiles_y (omega (arith, l.tiles_y.0)) in
    let u : i / n.tiles_x / n.tiles_y % n.boards_x < n.boards_x = mod_below _ n.boards_x (omega (arith, l.boards_x.0)) in
    let d = tile_digits (i % n.tiles_x) (i / n.tiles_x % n.tiles_y) (i / n.tiles_x / n.tiles_y % n.boards_x) (i / n.tiles_x / n.tiles_y / n.boards_x)
    (omega (arith, x, l.tiles_x.1)) (omega (arith, y, l.tiles_y.1)) (omega (arith, u, l.boards_x.1)) (omega (arith, top, l.boards_y.1)) in
    rw (d.0, d.1, d.2, d.3) (of_digits i n.tiles_x n.tiles_y n.boards_x)

found_at : (n : ShapeNumbers) (a i : ℕ) → WithinLimits n → i < tile_count n → tile_at n i ≡ a → (tile_place n a < tile_count n) × (tile_at n (tile_place n a) ≡ a)
found_at n a i l h e = rw (← e) (rw (tile_placed n i l h) (h, refl))

-- each tile has a place
pub tile_found : (n : ShapeNumbers) (a : ℕ) → WithinLimits n → IsTrue (has_tile n a) → (tile_place n a < tile_count n) × (tile_at n (tile_place n a) ≡ a)
tile_found n a l h = let got = (orders_tiles n l).each a h in found_at n a got.0 l got.1 got.2

behind_first : {X : Type 0} (x : X) (xs : List X) (i : ℕ) (d : X) → get_or (x ∷ xs) (1 + i) d ≡ get_or xs i d
behind_first x xs i d = let e : 1 + i ≡ suc i = omega arith in rw e refl

pub tile_kind : (n : ShapeNumbers) (i : ℕ) → i < tile_count n → kind_of n (tile_part i) ≡ kind.Tile (record { 0 = tile_at n i })
tile_kind n i h =
    behind_first kind.Host (from_tiles n) i kind.Detector
    ∙ front_at (λ i. kind.Tile (record { 0 = tile_at n i })) (tile_count n) i (from_routers n) kind.Detector h

-- a tile's place is a small number
pub small_place : (a b c d u y x : ℕ) → u ≤ 4 → y ≤ 4 → x ≤ 4 → ((a % 4 * u + b % 4) * y + c % 4) * x + d % 4 ≤ 255
small_place a b c d u y x hu hy hx =
    let one : a % 4 * u ≤ 12 = mul-le (a % 4) u 3 4 (omega arith) hu in
    let two : (a % 4 * u + b % 4) * y ≤ 60 = mul-le (a % 4 * u + b % 4) y 15 4 (omega (arith, one)) hy in
    let three : ((a % 4 * u + b % 4) * y + c % 4) * x ≤ 252 = mul-le ((a % 4 * u + b % 4) * y + c % 4) x 63 4 (omega (arith, two)) hx in
    omega (arith, three)
