-- Links join tiles of one board, a tile and its board's router, or routers of neighbouring boards.
use Rattle.std.proofs.Common.{ℕ, ◌≡◌, ◌≤◌, ◌<◌, ◌+◌, ◌-◌, ◌*◌, ◌/◌, ◌%◌, ◌++◌, ◌∷◌, ◌==◌, [], List, Bool, true, false, Some, get_or, nat_lt, zero, suc, refl, arith, inl, inr, sym, ap, ◌∙◌, subst}
use Rattle.std.specs.List.{flat_map, range_with_len}
use Rattle.std.proofs.Math.Nat.{div-div-eq-div-mul}
use Rattle.std.proofs.lemmas.Bool.{cases_lt, le-ltb, lt-ltb, ltb-true}
use Rattle.std.proofs.lemmas.List.{get_or_past}
use Rattle.std.proofs.lemmas.Nat.{div_below, div-add-mod', div-mul-add, mod_below, mod-mul-add, mul-add-lt, mul-le}
use Rattle.tn_base.specs.declared.ids.Board.{Board}
use Rattle.tn_base.specs.declared.ids.PartId.{PartId}
use Rattle.tn_base.specs.declared.part.Kind.{Kind}
use Rattle.tn_base.specs.declared.part.Kind.TheVariants as kind
use Rattle.tn_base.specs.declared.port.Port.TheVariants as port
use Rattle.tn_base.specs.declared.shape.ShapeNumbers.{ShapeNumbers}
use Rattle.tn_base.specs.Parts.{all_router_links, all_tile_links, board_at, board_count, board_tiles, from_host_links, from_router_links, from_routers, from_tile_links, kind_of, link, only_if, part_count, parts, router_links, router_part, tile_at, tile_count, tile_links, tile_part, visited}
use Rattle.tn_base.specs.Ports.{board_x, board_y, toward}
use Rattle.tn_base.specs.Shape.{WithinLimits}
use Rattle.tn_base.proofs.LinkEnds.{joins_visited}
use Rattle.tn_base.proofs.Listing.{behind_at, front_at}
use Rattle.tn_base.proofs.TilePlaces.{tile_kind}
use Rattle.tn_router.specs.Left.{board_on}

-- the board of an address
abbrev pub board_named : ℕ → Board
board_named a = record { x = board_x a; y = board_y a }

-- a link leads from a part of the one kind to a part of the other; none leads from a tile to another kind than these
abbrev pub Near : ShapeNumbers → Kind → Kind → Type 0
Near n (kind.Tile a) (kind.Tile b) = board_named b.0 ≡ board_named a.0
Near n (kind.Tile a) (kind.Router b) = b ≡ board_named a.0
Near n (kind.Tile a) kind.Host = ⊥
Near n (kind.Tile a) (kind.Link from onto) = ⊥
Near n (kind.Tile a) kind.Detector = ⊥
Near n (kind.Router a) (kind.Router b) = board_on n a (toward a.x a.y b.x b.y port.Here) ≡ Some b
Near n (kind.Router a) (kind.Tile b) = Unit {0}
Near n (kind.Router a) kind.Host = Unit {0}
Near n (kind.Router a) (kind.Link from onto) = Unit {0}
Near n (kind.Router a) kind.Detector = Unit {0}
Near n kind.Host b = Unit {0}
Near n (kind.Link from onto) b = Unit {0}
Near n kind.Detector b = Unit {0}

-- ---- lists of links

abbrev NearEnds : ShapeNumbers → Kind → Type 0
NearEnds n (kind.Link from onto) = Near n (kind_of n from.0) (kind_of n onto.0)
NearEnds n kind.Host = Unit {0}
NearEnds n (kind.Tile tile) = Unit {0}
NearEnds n (kind.Router board) = Unit {0}
NearEnds n kind.Detector = Unit {0}

abbrev AllNear : ShapeNumbers → List Kind → Type 0
AllNear n kinds = (k : ℕ) → NearEnds n (get_or kinds k kind.Detector)

near_both : (n : ShapeNumbers) (xs ys : List Kind) → AllNear n xs → AllNear n ys → AllNear n (xs ++ ys)
near_both n [] ys p q k = q k
near_both n (x ∷ xs) ys p q zero = p zero
near_both n (x ∷ xs) ys p q (suc k) = near_both n xs ys (λ j. p (suc j)) q k

near_one : (n : ShapeNumbers) (from onto : ℕ) → Near n (kind_of n from) (kind_of n onto) → AllNear n (link from onto ∷ [])
near_one n from onto e zero = e
near_one n from onto e (suc k) = tt

near_if : (n : ShapeNumbers) (from onto : ℕ) (there : Bool) → (there ≡ true → Near n (kind_of n from) (kind_of n onto)) → AllNear n (only_if there (link from onto))
near_if n from onto true e = near_one n from onto (e refl)
near_if n from onto false e = λ k. tt

near_each : (n : ShapeNumbers) (f : ℕ → List Kind) (i count : ℕ) → ((j : ℕ) → j < i + count → AllNear n (f j)) → AllNear n (flat_map f (range_with_len i count))
near_each n f i zero each = λ k. tt
near_each n f i (suc count) each =
    near_both n (f i) (flat_map f (range_with_len (i + 1) count)) (each i (omega arith)) (near_each n f (i + 1) count (λ j h. each j (omega arith)))

near_five : (n : ShapeNumbers) (a b c d e : List Kind) → AllNear n a → AllNear n b → AllNear n c → AllNear n d → AllNear n e → AllNear n (a ++ b ++ c ++ d ++ e)
near_five n a b c d e p q r s t = near_both n (a ++ b ++ c ++ d) e (near_both n (a ++ b ++ c) d (near_both n (a ++ b) c (near_both n a b p q) r) s) t

-- ---- numbers in rows of m

next_same : (i m : ℕ) → i % m + 1 < m → (i + 1) / m ≡ i / m
next_same i m h =
    let whole : i / m * m + i % m ≡ i = div-add-mod' i m in
    let e : i + 1 ≡ i / m * m + (i % m + 1) = omega arith in
    ap (λ k. k / m) e ∙ div-mul-add (i / m) m (i % m + 1) h

next_mod : (i m : ℕ) → i % m + 1 < m → (i + 1) % m ≡ i % m + 1
next_mod i m h =
    let whole : i / m * m + i % m ≡ i = div-add-mod' i m in
    let e : i + 1 ≡ i / m * m + (i % m + 1) = omega arith in
    ap (λ k. k % m) e ∙ mod-mul-add (i / m) m (i % m + 1) h

last_same : (i m : ℕ) → 0 < m → 0 < i % m → (i - 1) / m ≡ i / m
last_same i m some h =
    let whole : i / m * m + i % m ≡ i = div-add-mod' i m in
    let low = mod_below i m some in
    let e : i - 1 ≡ i / m * m + (i % m - 1) = omega arith in
    ap (λ k. k / m) e ∙ div-mul-add (i / m) m (i % m - 1) (omega arith)

last_mod : (i m : ℕ) → 0 < m → 0 < i % m → (i - 1) % m ≡ i % m - 1
last_mod i m some h =
    let whole : i / m * m + i % m ≡ i = div-add-mod' i m in
    let low = mod_below i m some in
    let e : i - 1 ≡ i / m * m + (i % m - 1) = omega arith in
    ap (λ k. k % m) e ∙ mod-mul-add (i / m) m (i % m - 1) (omega arith)

lower_row : (i m : ℕ) → 0 < m → ((i + m) / m ≡ i / m + 1) × ((i + m) % m ≡ i % m)
lower_row i m some =
    let whole : i / m * m + i % m ≡ i = div-add-mod' i m in
    let e : i + m ≡ (i / m + 1) * m + i % m = omega arith in
    let low = mod_below i m some in
    (ap (λ k. k / m) e ∙ div-mul-add (i / m + 1) m (i % m) low, ap (λ k. k % m) e ∙ mod-mul-add (i / m + 1) m (i % m) low)

upper_by : (i m k r : ℕ) → r < m → (k + 1) * m + r ≡ i → ((i - m) / m ≡ k) × ((i - m) % m ≡ r)
upper_by i m k r low whole =
    let e : i - m ≡ k * m + r = omega arith in
    (ap (λ j. j / m) e ∙ div-mul-add k m r low, ap (λ j. j % m) e ∙ mod-mul-add k m r low)

upper_row : (i m : ℕ) → 0 < m → 0 < i / m → ((i - m) / m ≡ i / m - 1) × ((i - m) % m ≡ i % m)
upper_row i m some h =
    let row : i / m - 1 + 1 ≡ i / m = omega arith in
    upper_by i m (i / m - 1) (i % m) (mod_below i m some) (ap (λ q. q * m + i % m) row ∙ div-add-mod' i m)

next_in_row : (i m rows : ℕ) → 0 < m → i < rows * m → i % m + 1 < m → i + 1 < rows * m
next_in_row i m rows some h inside =
    let row : i / m < rows = div_below i m rows some h in
    let next : i / m * m + (i % m + 1) < m * rows = mul-add-lt (i / m) m (i % m + 1) rows row inside in
    let whole : i / m * m + i % m ≡ i = div-add-mod' i m in
    omega arith

next_row : (i m rows : ℕ) → 0 < m → i / m + 1 < rows → i + m < rows * m
next_row i m rows some h =
    let next : (i / m + 1) * m + i % m < m * rows = mul-add-lt (i / m + 1) m (i % m) rows h (mod_below i m some) in
    let whole : i / m * m + i % m ≡ i = div-add-mod' i m in
    omega arith

-- ---- the boards of tiles

board_digits : (a b c d : ℕ) → a < 4 → b < 4 → c < 4 → d < 4 → ((((d * 4 + c) * 4 + b) * 4 + a) * 64 / 1024 % 4 ≡ c) × ((((d * 4 + c) * 4 + b) * 4 + a) * 64 / 4096 % 4 ≡ d)
board_digits a b c d p q r s = (omega arith, omega arith)

abbrev made : ℕ → ℕ → Board
made x y = record { x = x; y = y }

same_made : (x y u v : ℕ) → x ≡ u → y ≡ v → made x y ≡ made u v
same_made x y u v e f = ap (λ z. made z y) e ∙ ap (made u) f

tile_board : (n : ShapeNumbers) (i : ℕ) → WithinLimits n → i < tile_count n → board_named (tile_at n i) ≡ board_at n (i / n.tiles_x / n.tiles_y)
tile_board n i l h =
    let rows = n.boards_x * n.boards_y * n.tiles_y in
    let row : i / n.tiles_x < rows = div_below i n.tiles_x rows l.tiles_x.0 (omega arith) in
    let board : i / n.tiles_x / n.tiles_y < n.boards_x * n.boards_y = div_below (i / n.tiles_x) n.tiles_y (n.boards_x * n.boards_y) l.tiles_y.0 row in
    let high : i / n.tiles_x / n.tiles_y / n.boards_x < n.boards_y = div_below (i / n.tiles_x / n.tiles_y) n.boards_x n.boards_y l.boards_x.0 (omega arith) in
    let a = mod_below i n.tiles_x l.tiles_x.0 in
    let b = mod_below (i / n.tiles_x) n.tiles_y l.tiles_y.0 in
    let c = mod_below (i / n.tiles_x / n.tiles_y) n.boards_x l.boards_x.0 in
    let tx = l.tiles_x.1 in
    let ty = l.tiles_y.1 in
    let bx = l.boards_x.1 in
    let by = l.boards_y.1 in
    let d = board_digits (i % n.tiles_x) (i / n.tiles_x % n.tiles_y) (i / n.tiles_x / n.tiles_y % n.boards_x) (i / n.tiles_x / n.tiles_y / n.boards_x) (omega arith) (omega arith) (omega arith) (omega arith) in
    same_made _ _ _ _ d.0 d.1

-- ---- the links of a tile

pub kind_router : (n : ShapeNumbers) (i : ℕ) → i < board_count n → kind_of n (router_part n i) ≡ kind.Router (board_at n i)
kind_router n i h =
    let at : 1 + tile_count n + i ≡ suc (tile_count n + i) = omega arith in
    let rest : tile_count n + i - tile_count n ≡ i = omega arith in
    ap (kind_of n) at
    ∙ behind_at (λ i. kind.Tile (record { 0 = tile_at n i })) (tile_count n) (tile_count n + i) (from_routers n) kind.Detector (omega arith)
    ∙ ap (λ k. get_or (from_routers n) k kind.Detector) rest
    ∙ front_at (λ i. kind.Router (board_at n i)) (board_count n) i (from_tile_links n) kind.Detector h

-- which is a part
pub router_within : (n : ShapeNumbers) (i : ℕ) → i < board_count n → router_part n i < part_count n
router_within n i h = elim (cases_lt (router_part n i) (part_count n)) [
  | inl there ↦ there
  | inr past ↦
      let none : kind_of n (router_part n i) ≡ kind.Detector = get_or_past (parts n) (router_part n i) kind.Detector past in
      let is : kind.Router (board_at n i) ≡ kind.Detector = sym (kind_router n i h) ∙ none in
      cc is
]

-- two tiles of one board
tiles_near : (n : ShapeNumbers) (i j : ℕ) (here there : ℕ) → WithinLimits n → i < tile_count n → j < tile_count n → tile_part i ≡ here → tile_part j ≡ there → j / n.tiles_x / n.tiles_y ≡ i / n.tiles_x / n.tiles_y → Near n (kind_of n here) (kind_of n there)
tiles_near n i j here there l h k e f same =
    subst (λ x. Near n x (kind_of n there)) (sym (ap (kind_of n) (sym e) ∙ tile_kind n i h))
    (subst (λ x. Near n (kind.Tile (record { 0 = tile_at n i })) x) (sym (ap (kind_of n) (sym f) ∙ tile_kind n j k))
    (tile_board n j l k ∙ (ap (board_at n) same ∙ sym (tile_board n i l h))))

some_of : (a b : ℕ) → 1 ≤ a → 1 ≤ b → 1 ≤ a * b
some_of a b h k = mul-le 1 1 a b h k

tile_links_near : (n : ShapeNumbers) (i : ℕ) → WithinLimits n → i < tile_count n → AllNear n (tile_links n i)
tile_links_near n i l h =
    let x = i % n.tiles_x in
    let y = i / n.tiles_x % n.tiles_y in
    let rows = n.boards_x * n.boards_y * n.tiles_y in
    let here = tile_part i in
    let row : i / n.tiles_x < rows = div_below i n.tiles_x rows l.tiles_x.0 (omega arith) in
    let board : i / board_tiles n < board_count n = div_below i (board_tiles n) (board_count n) (some_of _ _ l.tiles_x.0 l.tiles_y.0) (omega arith) in
    near_five n _ _ _ _ _
    (near_if n here (here + 1) (nat_lt (x + 1) n.tiles_x)
    (λ east.
    let inside = ltb-true _ _ east in
    let next : i + 1 < rows * n.tiles_x = next_in_row i n.tiles_x rows l.tiles_x.0 (omega arith) inside in
    tiles_near n i (i + 1) here (here + 1) l h (omega arith) refl (omega arith) (ap (λ k. k / n.tiles_y) (next_same i n.tiles_x inside))))
    (near_if n here (here - 1) (nat_lt 0 x)
    (λ west.
    let inside = ltb-true _ _ west in
    let whole : i / n.tiles_x * n.tiles_x + i % n.tiles_x ≡ i = div-add-mod' i n.tiles_x in
    tiles_near n i (i - 1) here (here - 1) l h (omega arith) refl (omega arith) (ap (λ k. k / n.tiles_y) (last_same i n.tiles_x l.tiles_x.0 inside))))
    (near_if n here (here + n.tiles_x) (nat_lt (y + 1) n.tiles_y)
    (λ south.
    let inside = ltb-true _ _ south in
    let lower : i / n.tiles_x + 1 < rows = next_in_row (i / n.tiles_x) n.tiles_y (n.boards_x * n.boards_y) l.tiles_y.0 row inside in
    let next : i + n.tiles_x < rows * n.tiles_x = next_row i n.tiles_x rows l.tiles_x.0 lower in
    tiles_near n i (i + n.tiles_x) here (here + n.tiles_x) l h (omega arith) refl (omega arith) (ap (λ k. k / n.tiles_y) (lower_row i n.tiles_x l.tiles_x.0).0 ∙ next_same (i / n.tiles_x) n.tiles_y inside)))
    (near_if n here (here - n.tiles_x) (nat_lt 0 y)
    (λ north.
    let inside = ltb-true _ _ north in
    let whole : i / n.tiles_x / n.tiles_y * n.tiles_y + i / n.tiles_x % n.tiles_y ≡ i / n.tiles_x = div-add-mod' (i / n.tiles_x) n.tiles_y in
    let some : 0 < i / n.tiles_x = omega arith in
    let all : i / n.tiles_x * n.tiles_x + i % n.tiles_x ≡ i = div-add-mod' i n.tiles_x in
    let most : 1 * n.tiles_x ≤ i / n.tiles_x * n.tiles_x = mul-le 1 n.tiles_x (i / n.tiles_x) n.tiles_x some (omega arith) in
    tiles_near n i (i - n.tiles_x) here (here - n.tiles_x) l h (omega arith) refl (omega arith) (ap (λ k. k / n.tiles_y) (upper_row i n.tiles_x l.tiles_x.0 some).0 ∙ last_same (i / n.tiles_x) n.tiles_y l.tiles_y.0 inside)))
    (near_if n here (router_part n (i / board_tiles n)) (i % board_tiles n == 0)
    (λ up.
    subst (λ k. Near n k (kind_of n (router_part n (i / board_tiles n)))) (sym (tile_kind n i h))
    (subst (λ k. Near n (kind.Tile (record { 0 = tile_at n i })) k) (sym (kind_router n (i / board_tiles n) board))
    (ap (board_at n) (sym (div-div-eq-div-mul i n.tiles_x n.tiles_y)) ∙ sym (tile_board n i l h)))))

-- ---- the links of a router

east_board : (n : ShapeNumbers) (x y : ℕ) → x + 1 < n.boards_x → board_on n (made x y) (toward x y (x + 1) y port.Here) ≡ Some (made (x + 1) y)
east_board n x y h = rw (lt-ltb x (x + 1) (omega arith), lt-ltb (x + 1) n.boards_x h) refl

west_board : (n : ShapeNumbers) (x y : ℕ) → 0 < x → board_on n (made x y) (toward x y (x - 1) y port.Here) ≡ Some (made (x - 1) y)
west_board n x y h = rw (le-ltb x (x - 1) (omega arith), lt-ltb (x - 1) x (omega arith), lt-ltb 0 x h) refl

south_board : (n : ShapeNumbers) (x y : ℕ) → y + 1 < n.boards_y → board_on n (made x y) (toward x y x (y + 1) port.Here) ≡ Some (made x (y + 1))
south_board n x y h = rw (le-ltb x x (omega arith), lt-ltb y (y + 1) (omega arith), lt-ltb (y + 1) n.boards_y h) refl

north_board : (n : ShapeNumbers) (x y : ℕ) → 0 < y → board_on n (made x y) (toward x y x (y - 1) port.Here) ≡ Some (made x (y - 1))
north_board n x y h = rw (le-ltb x x (omega arith), le-ltb y (y - 1) (omega arith), lt-ltb (y - 1) y (omega arith), lt-ltb 0 y h) refl

abbrev Leads : ShapeNumbers → Board → Board → Type 0
Leads n a b = board_on n a (toward a.x a.y b.x b.y port.Here) ≡ Some b

routers_near : (n : ShapeNumbers) (i j : ℕ) (there : ℕ) (b : Board) → i < board_count n → j < board_count n → router_part n j ≡ there → b ≡ board_at n j → Leads n (board_at n i) b → Near n (kind_of n (router_part n i)) (kind_of n there)
routers_near n i j there b h k f e leads =
    subst (λ x. Near n x (kind_of n there)) (sym (kind_router n i h))
    (subst (λ x. Near n (kind.Router (board_at n i)) x) (sym (ap (kind_of n) (sym f) ∙ kind_router n j k)) (subst (Leads n (board_at n i)) e leads))

router_links_near : (n : ShapeNumbers) (i : ℕ) → WithinLimits n → i < board_count n → AllNear n (router_links n i)
router_links_near n i l h =
    let x = i % n.boards_x in
    let y = i / n.boards_x in
    let here = router_part n i in
    let tile : i * board_tiles n + 0 < board_tiles n * board_count n = mul-add-lt i (board_tiles n) 0 (board_count n) h (some_of _ _ l.tiles_x.0 l.tiles_y.0) in
    let whole : i / n.boards_x * n.boards_x + i % n.boards_x ≡ i = div-add-mod' i n.boards_x in
    near_five n (link here (tile_part (i * board_tiles n)) ∷ []) _ _ _ _
    (near_one n here (tile_part (i * board_tiles n))
    (subst (λ k. Near n k (kind_of n (tile_part (i * board_tiles n)))) (sym (kind_router n i h)) (subst (λ k. Near n (kind.Router (board_at n i)) k) (sym (tile_kind n (i * board_tiles n) (omega arith))) tt)))
    (near_if n here (here + 1) (nat_lt (x + 1) n.boards_x)
    (λ east.
    let inside = ltb-true _ _ east in
    let next : i + 1 < n.boards_y * n.boards_x = next_in_row i n.boards_x n.boards_y l.boards_x.0 (omega arith) inside in
    routers_near n i (i + 1) (here + 1) (made (x + 1) y) h (omega arith) (omega arith) (sym (same_made _ _ _ _ (next_mod i n.boards_x inside) (next_same i n.boards_x inside))) (east_board n x y inside)))
    (near_if n here (here - 1) (nat_lt 0 x)
    (λ west.
    let inside = ltb-true _ _ west in
    routers_near n i (i - 1) (here - 1) (made (x - 1) y) h (omega arith) (omega arith) (sym (same_made _ _ _ _ (last_mod i n.boards_x l.boards_x.0 inside) (last_same i n.boards_x l.boards_x.0 inside))) (west_board n x y inside)))
    (near_if n here (here + n.boards_x) (nat_lt (y + 1) n.boards_y)
    (λ south.
    let inside = ltb-true _ _ south in
    let next : i + n.boards_x < n.boards_y * n.boards_x = next_row i n.boards_x n.boards_y l.boards_x.0 inside in
    let row = lower_row i n.boards_x l.boards_x.0 in
    routers_near n i (i + n.boards_x) (here + n.boards_x) (made x (y + 1)) h (omega arith) (omega arith) (sym (same_made _ _ _ _ row.1 row.0)) (south_board n x y inside)))
    (near_if n here (here - n.boards_x) (nat_lt 0 y)
    (λ north.
    let inside = ltb-true _ _ north in
    let row = upper_row i n.boards_x l.boards_x.0 inside in
    let most : 1 * n.boards_x ≤ i / n.boards_x * n.boards_x = mul-le 1 n.boards_x (i / n.boards_x) n.boards_x inside (omega arith) in
    routers_near n i (i - n.boards_x) (here - n.boards_x) (made x (y - 1)) h (omega arith) (omega arith) (sym (same_made _ _ _ _ row.1 row.0)) (north_board n x y inside)))

-- ---- all links

host_links_near : (n : ShapeNumbers) → WithinLimits n → AllNear n (from_host_links n)
host_links_near n l zero = subst (λ k. Near n k kind.Host) (sym (kind_router n 0 (some_of n.boards_x n.boards_y l.boards_x.0 l.boards_y.0))) tt
host_links_near n l (suc zero) = tt
host_links_near n l (suc (suc zero)) = tt
host_links_near n l (suc (suc (suc k))) = tt

all_near : (n : ShapeNumbers) → WithinLimits n → AllNear n (from_tile_links n)
all_near n l =
    near_both n (all_tile_links n) (from_router_links n)
    (near_each n (tile_links n) 0 (tile_count n) (λ i h. tile_links_near n i l (omega arith)))
    (near_both n (all_router_links n) (from_host_links n)
    (near_each n (router_links n) 0 (board_count n) (λ i h. router_links_near n i l (omega arith)))
    (host_links_near n l))

kind_behind : (n : ShapeNumbers) (l : ℕ) → visited n ≤ l → kind_of n l ≡ get_or (from_tile_links n) (l - visited n) kind.Detector
kind_behind n zero h = absurd (omega arith)
kind_behind n (suc i) h =
    behind_at (λ i. kind.Tile (record { 0 = tile_at n i })) (tile_count n) i (from_routers n) kind.Detector (omega arith)
    ∙ behind_at (λ i. kind.Router (board_at n i)) (board_count n) (i - tile_count n) (from_tile_links n) kind.Detector (omega arith)
    ∙ ap (λ k. get_or (from_tile_links n) k kind.Detector) (omega arith)

pub links_near : (n : ShapeNumbers) (l : ℕ) (from onto : PartId) → WithinLimits n → kind_of n l ≡ kind.Link from onto → Near n (kind_of n from.0) (kind_of n onto.0)
links_near n l from onto limits e =
    let ends = joins_visited n l from onto limits e in
    subst (NearEnds n) (sym (kind_behind n l ends.behind) ∙ e) (all_near n limits (l - visited n))
