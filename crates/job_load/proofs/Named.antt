-- The parts of a shape name no tile and no board that it does not have.
use Rattle.std.proofs.Common.{ℕ, ◌<◌, ◌+◌, ◌-◌, ◌/◌, ◌*◌, ◌%◌, ◌∷◌, ◌++◌, ◌==◌, [], Bool, true, false, IsTrue, List, map, nat_lt, zero, suc, arith}
use Rattle.std.specs.List.{AllByRecursion, flat_map, range_with_len}
use Rattle.std.proofs.lemmas.Nat.{div_below, mod_below}
use Rattle.tn_base.specs.declared.part.Kind.{Kind}
use Rattle.tn_base.specs.declared.part.Kind.TheVariants as kind
use Rattle.tn_base.specs.declared.shape.ShapeNumbers.{ShapeNumbers}
use Rattle.tn_base.specs.Address.{has_tile}
use Rattle.tn_base.specs.Parts.{all_router_links, all_tile_links, board_at, board_count, board_tiles, from_host_links, from_router_links, from_routers, from_tile_links, kind_of, link, only_if, parts, router_links, router_part, tile_at, tile_count, tile_links, tile_part}
use Rattle.tn_keys.specs.Tables.{HasBoard}
use Rattle.job_faults.proofs.Ranges.{all_at, all_in_range}
use Rattle.job_load.specs.Start.{IsThere}

all_append : {X : Type 0} (P : X → Type 0) (xs ys : List X) → AllByRecursion P xs → AllByRecursion P ys → AllByRecursion P (xs ++ ys)
all_append P [] ys a b = b
all_append P (x ∷ xs) ys a b = (a.0, all_append P xs ys a.1 b)

all_flat : {X : Type 0} (P : X → Type 0) (f : ℕ → List X) (i count : ℕ) → ((k : ℕ) → AllByRecursion P (f k)) → AllByRecursion P (flat_map f (range_with_len i count))
all_flat P f i zero h = tt
all_flat P f i (suc count) h = all_append P (f i) (flat_map f (range_with_len (i + 1) count)) (h i) (all_flat P f (i + 1) count h)

turned : (a b i : ℕ) → i < a * b → i < b * a
turned a b i h = grind arith

-- where there is a board, there is a column of boards
some_column : (a b i : ℕ) → i < a * b → 0 < a
some_column zero b i h = absurd (omega (arith, h))
some_column (suc a) b i h = omega arith

has_board_at : (n : ShapeNumbers) (i : ℕ) → i < board_count n → HasBoard n (board_at n i)
has_board_at n i h =
    let some = some_column n.boards_x n.boards_y i h in
    (mod_below i n.boards_x some, div_below i n.boards_x n.boards_y some (turned n.boards_x n.boards_y i h))

one_link : (n : ShapeNumbers) (there : Bool) (from to : ℕ) → AllByRecursion (IsThere n) (only_if there (link from to))
one_link n true from to = (tt, tt)
one_link n false from to = tt

five : (n : ShapeNumbers) (a b c d e : List Kind) → AllByRecursion (IsThere n) a → AllByRecursion (IsThere n) b → AllByRecursion (IsThere n) c → AllByRecursion (IsThere n) d →
    AllByRecursion (IsThere n) e → AllByRecursion (IsThere n) (a ++ b ++ c ++ d ++ e)
five n a b c d e p q r s t =
    all_append (IsThere n) (a ++ b ++ c ++ d) e
    (all_append (IsThere n) (a ++ b ++ c) d (all_append (IsThere n) (a ++ b) c (all_append (IsThere n) a b p q) r) s) t

tile_links_named : (n : ShapeNumbers) (i : ℕ) → AllByRecursion (IsThere n) (tile_links n i)
tile_links_named n i =
    five n _ _ _ _ _
    (one_link n (nat_lt (i % n.tiles_x + 1) n.tiles_x) (tile_part i) (tile_part i + 1))
    (one_link n (nat_lt 0 (i % n.tiles_x)) (tile_part i) (tile_part i - 1))
    (one_link n (nat_lt (i / n.tiles_x % n.tiles_y + 1) n.tiles_y) (tile_part i) (tile_part i + n.tiles_x))
    (one_link n (nat_lt 0 (i / n.tiles_x % n.tiles_y)) (tile_part i) (tile_part i - n.tiles_x))
    (one_link n (i % board_tiles n == 0) (tile_part i) (router_part n (i / board_tiles n)))

router_links_named : (n : ShapeNumbers) (i : ℕ) → AllByRecursion (IsThere n) (router_links n i)
router_links_named n i =
    five n (link (router_part n i) (tile_part (i * board_tiles n)) ∷ []) _ _ _ _
    (tt, tt)
    (one_link n (nat_lt (i % n.boards_x + 1) n.boards_x) (router_part n i) (router_part n i + 1))
    (one_link n (nat_lt 0 (i % n.boards_x)) (router_part n i) (router_part n i - 1))
    (one_link n (nat_lt (i / n.boards_x + 1) n.boards_y) (router_part n i) (router_part n i + n.boards_x))
    (one_link n (nat_lt 0 (i / n.boards_x)) (router_part n i) (router_part n i - n.boards_x))

links_named : (n : ShapeNumbers) → AllByRecursion (IsThere n) (from_tile_links n)
links_named n =
    all_append (IsThere n) (all_tile_links n) (from_router_links n) (all_flat (IsThere n) (tile_links n) 0 (tile_count n) (tile_links_named n))
    (all_append (IsThere n) (all_router_links n) (from_host_links n) (all_flat (IsThere n) (router_links n) 0 (board_count n) (router_links_named n)) (tt, (tt, (tt, tt))))

pub parts_named : (n : ShapeNumbers) → ((i : ℕ) → i < tile_count n → IsTrue (has_tile n (tile_at n i))) → AllByRecursion (IsThere n) (parts n)
parts_named n tiles = (
  tt,
  all_append (IsThere n) (map (λ i. kind.Tile (record { 0 = tile_at n i })) (range_with_len 0 (tile_count n))) (from_routers n)
      (all_in_range (IsThere n) (λ i. kind.Tile (record { 0 = tile_at n i })) 0 (tile_count n) (λ k less. tiles k (omega arith)))
      (all_append (IsThere n) (map (λ i. kind.Router (board_at n i)) (range_with_len 0 (board_count n))) (from_tile_links n)
      (all_in_range (IsThere n) (λ i. kind.Router (board_at n i)) 0 (board_count n) (λ k less. has_board_at n k (omega arith))) (links_named n)),
)

pub kind_named : (n : ShapeNumbers) (p : ℕ) → ((i : ℕ) → i < tile_count n → IsTrue (has_tile n (tile_at n i))) → IsThere n (kind_of n p)
kind_named n p tiles = all_at (IsThere n) (parts n) p kind.Detector (parts_named n tiles) tt
