-- Which parts of a machine are visited parts, and which are links.
use Rattle.std.proofs.Common.{ℕ, ◌≡◌, ◌≤◌, ◌<◌, ◌+◌, ◌-◌, ◌/◌, ◌*◌, ◌%◌, ◌∷◌, ◌++◌, ◌==◌, [], Bool, true, false, List, get_or, nat_lt, zero, suc, arith, inl, inr, sym, subst}
use Rattle.std.specs.List.{AllByRecursion, flat_map, range_with_len}
use Rattle.std.proofs.lemmas.Bool.{cases_lt}
use Rattle.tn_base.specs.declared.part.Kind.{Kind}
use Rattle.tn_base.specs.declared.part.Kind.TheVariants as kind
use Rattle.tn_base.specs.declared.shape.ShapeNumbers.{ShapeNumbers}
use Rattle.tn_base.specs.Parts.{all_router_links, all_tile_links, board_at, board_count, board_tiles, from_host_links, from_router_links, from_routers, from_tile_links, kind_of, link, only_if, router_links, router_part, tile_at, tile_count, tile_links, tile_part, visited}
use Rattle.tn_base.proofs.Listing.{behind_at, front_at}

-- a part is the host, a tile or a router; and it is none of these
abbrev pub IsVisited : Kind → Type 0
IsVisited (kind.Tile tile) = Unit {0}
IsVisited kind.Host = Unit {0}
IsVisited (kind.Router board) = Unit {0}
IsVisited (kind.Link from onto) = ⊥
IsVisited kind.Detector = ⊥

abbrev pub IsBehind : Kind → Type 0
IsBehind (kind.Tile tile) = ⊥
IsBehind kind.Host = ⊥
IsBehind (kind.Router board) = ⊥
IsBehind (kind.Link from onto) = Unit {0}
IsBehind kind.Detector = Unit {0}

all_append : (xs ys : List Kind) → AllByRecursion IsBehind xs → AllByRecursion IsBehind ys → AllByRecursion IsBehind (xs ++ ys)
all_append [] ys a b = b
all_append (x ∷ xs) ys a b = (a.0, all_append xs ys a.1 b)

all_flat : (f : ℕ → List Kind) (i count : ℕ) → ((k : ℕ) → AllByRecursion IsBehind (f k)) → AllByRecursion IsBehind (flat_map f (range_with_len i count))
all_flat f i zero h = tt
all_flat f i (suc count) h = all_append (f i) (flat_map f (range_with_len (i + 1) count)) (h i) (all_flat f (i + 1) count h)

all_at : (xs : List Kind) (k : ℕ) → AllByRecursion IsBehind xs → IsBehind (get_or xs k kind.Detector)
all_at [] k all = tt
all_at (x ∷ xs) zero all = all.0
all_at (x ∷ xs) (suc k) all = all_at xs k all.1

one_link : (there : Bool) (from to : ℕ) → AllByRecursion IsBehind (only_if there (link from to))
one_link true from to = (tt, tt)
one_link false from to = tt

five : (a b c d e : List Kind) → AllByRecursion IsBehind a → AllByRecursion IsBehind b → AllByRecursion IsBehind c → AllByRecursion IsBehind d → AllByRecursion IsBehind e → AllByRecursion IsBehind (a ++ b ++ c ++ d ++ e)
five a b c d e p q r s t = all_append (a ++ b ++ c ++ d) e (all_append (a ++ b ++ c) d (all_append (a ++ b) c (all_append a b p q) r) s) t

tile_links_are : (n : ShapeNumbers) (i : ℕ) → AllByRecursion IsBehind (tile_links n i)
tile_links_are n i =
    five _ _ _ _ _
    (one_link (nat_lt (i % n.tiles_x + 1) n.tiles_x) (tile_part i) (tile_part i + 1))
    (one_link (nat_lt 0 (i % n.tiles_x)) (tile_part i) (tile_part i - 1))
    (one_link (nat_lt (i / n.tiles_x % n.tiles_y + 1) n.tiles_y) (tile_part i) (tile_part i + n.tiles_x))
    (one_link (nat_lt 0 (i / n.tiles_x % n.tiles_y)) (tile_part i) (tile_part i - n.tiles_x))
    (one_link (i % board_tiles n == 0) (tile_part i) (router_part n (i / board_tiles n)))

router_links_are : (n : ShapeNumbers) (i : ℕ) → AllByRecursion IsBehind (router_links n i)
router_links_are n i =
    five (link (router_part n i) (tile_part (i * board_tiles n)) ∷ []) _ _ _ _
    (tt, tt)
    (one_link (nat_lt (i % n.boards_x + 1) n.boards_x) (router_part n i) (router_part n i + 1))
    (one_link (nat_lt 0 (i % n.boards_x)) (router_part n i) (router_part n i - 1))
    (one_link (nat_lt (i / n.boards_x + 1) n.boards_y) (router_part n i) (router_part n i + n.boards_x))
    (one_link (nat_lt 0 (i / n.boards_x)) (router_part n i) (router_part n i - n.boards_x))

behind_routers : (n : ShapeNumbers) → AllByRecursion IsBehind (from_tile_links n)
behind_routers n =
    all_append (all_tile_links n) (from_router_links n) (all_flat (tile_links n) 0 (tile_count n) (tile_links_are n))
    (all_append (all_router_links n) (from_host_links n) (all_flat (router_links n) 0 (board_count n) (router_links_are n)) (tt, (tt, (tt, tt))))

pub tile_at_part : (n : ShapeNumbers) (i : ℕ) → i < tile_count n → kind.Tile (record { 0 = tile_at n i }) ≡ kind_of n (suc i)
tile_at_part n i h = sym (front_at (λ i. kind.Tile (record { 0 = tile_at n i })) (tile_count n) i (from_routers n) kind.Detector h)

pub past_tiles : (n : ShapeNumbers) (i : ℕ) → tile_count n ≤ i → get_or (from_routers n) (i - tile_count n) kind.Detector ≡ kind_of n (suc i)
past_tiles n i h = sym (behind_at (λ i. kind.Tile (record { 0 = tile_at n i })) (tile_count n) i (from_routers n) kind.Detector h)

pub router_at : (n : ShapeNumbers) (i : ℕ) → i < board_count n → kind.Router (board_at n i) ≡ get_or (from_routers n) i kind.Detector
router_at n i h = sym (front_at (λ i. kind.Router (board_at n i)) (board_count n) i (from_tile_links n) kind.Detector h)

pub past_routers : (n : ShapeNumbers) (i : ℕ) → board_count n ≤ i → IsBehind (get_or (from_routers n) i kind.Detector)
past_routers n i h = subst IsBehind (sym (behind_at (λ i. kind.Router (board_at n i)) (board_count n) i (from_tile_links n) kind.Detector h)) (all_at (from_tile_links n) (i - board_count n) (behind_routers n))

-- the parts below the number of visited parts are these
pub visited_kind : (n : ShapeNumbers) (p : ℕ) → p < visited n → IsVisited (kind_of n p)
visited_kind n zero h = tt
visited_kind n (suc i) h = elim (cases_lt i (tile_count n)) [
  | inl here ↦ subst IsVisited (tile_at_part n i here) tt
  | inr past ↦ subst IsVisited (past_tiles n i past) (subst IsVisited (router_at n (i - tile_count n) (omega arith)) tt)
]

-- and no others
pub behind_kind : (n : ShapeNumbers) (p : ℕ) → visited n ≤ p → IsBehind (kind_of n p)
behind_kind n zero h = absurd (omega arith)
behind_kind n (suc i) h =
    let past : tile_count n ≤ i = omega arith in
    subst IsBehind (past_tiles n i past) (past_routers n (i - tile_count n) (omega arith))
