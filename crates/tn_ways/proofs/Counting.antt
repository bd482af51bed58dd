-- How many parts pass a test: the sum over the lists of links.
use Rattle.std.proofs.Common.{ℕ, ◌≡◌, ◌≢◌, ◌≤◌, ◌<◌, ◌+◌, ◌-◌, ◌*◌, ◌/◌, ◌%◌, ◌++◌, ◌∷◌, ◌==◌, ◌&&◌, [], List, Bool, true, false, cond, map, nat_lt, get_or, zero, suc, refl, arith, inl, inr, ap, ◌∙◌}
use Rattle.std.specs.List.{flat_map, range_with_len, sum_by}
use Rattle.std.proofs.lemmas.Bool.{cases_eq}
use Rattle.std.proofs.lemmas.List.Sums.{sum_by-append, sum_by-cons}
use Rattle.tn_base.specs.declared.ids.Board.{Board}
use Rattle.tn_base.specs.declared.ids.TileId.{TileId}
use Rattle.tn_base.specs.declared.part.Kind.{Kind}
use Rattle.tn_base.specs.declared.part.Kind.TheVariants as kind
use Rattle.tn_base.specs.declared.shape.ShapeNumbers.{ShapeNumbers}
use Rattle.tn_base.specs.Parts.{all_router_links, all_tile_links, board_at, board_count, board_tiles, from_host_links, from_router_links, from_routers, from_tile_links, from_tiles, link, only_if, parts, router_links, router_part, tile_at, tile_count, tile_links, tile_part}

abbrev pub one : Bool → ℕ
one b = cond b 1 0

-- how many of these parts pass a test
abbrev pub count : (Kind → Bool) → List Kind → ℕ
count p kinds = sum_by (λ k. one (p k)) kinds

-- the sum of a number's values
abbrev pub total : (ℕ → ℕ) → ℕ → ℕ → ℕ
total f from many = sum_by f (range_with_len from many)

-- ---- sums over numbers

total_next : (f : ℕ → ℕ) (a m : ℕ) → total f a (suc m) ≡ f a + total f (a + 1) m
total_next f a m = sum_by-cons f a (range_with_len (a + 1) m)

pub total_none : (f : ℕ → ℕ) (a m : ℕ) → ((j : ℕ) → a ≤ j → j < a + m → f j ≡ 0) → total f a m ≡ 0
total_none f a zero none = refl
total_none f a (suc m) none =
    let e = total_next f a m in
    let here = none a (omega arith) (omega arith) in
    let rest = total_none f (a + 1) m (λ j l h. none j (omega arith) (omega arith)) in
    omega arith

one_from : (f : ℕ → ℕ) (i a m : ℕ) → a ≤ i → i < a + m → ((j : ℕ) → j < a + m → j ≢ i → f j ≡ 0) → total f a m ≡ f i
one_from f i a zero low high none = absurd (omega arith)
one_from f i a (suc m) low high none =
    let e = total_next f a m in
    elim (cases_eq a i) [
      | inl same ↦
          let rest = total_none f (a + 1) m (λ j l h. none j (omega arith) (omega arith)) in
          let here : f a ≡ f i = ap f same in omega arith
      | inr other ↦
          let rest = one_from f i (a + 1) m (omega arith) (omega arith) (λ j h. none j (omega arith)) in
          let here = none a (omega arith) other in omega arith
    ]

-- only the number i counts
pub total_one : (f : ℕ → ℕ) (i m : ℕ) → i < m → ((j : ℕ) → j < m → j ≢ i → f j ≡ 0) → total f 0 m ≡ f i
total_one f i m h none = one_from f i 0 m (omega arith) (omega arith) (λ j l. none j (omega arith))

pub total_same : (f g : ℕ → ℕ) (a m : ℕ) → ((j : ℕ) → j < a + m → f j ≡ g j) → total f a m ≡ total g a m
total_same f g a zero same = refl
total_same f g a (suc m) same =
    let e = total_next f a m in
    let d = total_next g a m in
    let here = same a (omega arith) in
    let rest = total_same f g (a + 1) m (λ j h. same j (omega arith)) in
    omega arith

pub total_four : (f g h k : ℕ → ℕ) (a m : ℕ) → total (λ j. f j + g j + h j + k j) a m ≡ total f a m + total g a m + total h a m + total k a m
total_four f g h k a zero = refl
total_four f g h k a (suc m) =
    let e = total_next (λ j. f j + g j + h j + k j) a m in
    let rest = total_four f g h k (a + 1) m in
    omega (arith, total_next f a m, total_next g a m, total_next h a m, total_next k a m)

-- ---- parts that pass

pub count_both : (p : Kind → Bool) (xs ys : List Kind) → count p (xs ++ ys) ≡ count p xs + count p ys
count_both p xs ys = sum_by-append (λ k. one (p k)) xs ys

count_one : (p : Kind → Bool) (k : Kind) → count p (k ∷ []) ≡ one (p k)
count_one p k = let e = sum_by-cons (λ k. one (p k)) k [] in omega arith

count_if : (p : Kind → Bool) (there : Bool) (k : Kind) → count p (only_if there k) ≡ one (there && p k)
count_if p true k = count_one p k
count_if p false k = refl

count_each : (p : Kind → Bool) (f : ℕ → List Kind) (a m : ℕ) → count p (flat_map f (range_with_len a m)) ≡ total (λ j. count p (f j)) a m
count_each p f a zero = refl
count_each p f a (suc m) =
    let e = total_next (λ j. count p (f j)) a m in
    let rest = count_each p f (a + 1) m in
    let split = count_both p (f a) (flat_map f (range_with_len (a + 1) m)) in
    omega arith

count_none : (p : Kind → Bool) (f : ℕ → Kind) (a m : ℕ) → ((j : ℕ) → p (f j) ≡ false) → count p (map f (range_with_len a m)) ≡ 0
count_none p f a zero none = refl
count_none p f a (suc m) none =
    let e = sum_by-cons (λ k. one (p k)) (f a) (map f (range_with_len (a + 1) m)) in
    let rest = count_none p f (a + 1) m none in
    let here : one (p (f a)) ≡ 0 = ap one (none a) in
    omega arith

count_five : (p : Kind → Bool) (a b c d e : List Kind) → count p (a ++ b ++ c ++ d ++ e) ≡ count p a + count p b + count p c + count p d + count p e
count_five p a b c d e = omega (arith, count_both p a b, count_both p (a ++ b) c, count_both p (a ++ b ++ c) d, count_both p (a ++ b ++ c ++ d) e)

-- the links of one tile, and of one router, that pass
abbrev pub of_tile : (Kind → Bool) → ShapeNumbers → ℕ → ℕ
of_tile p n i =
    one (nat_lt (i % n.tiles_x + 1) n.tiles_x && p (link (tile_part i) (tile_part i + 1)))
    + one (nat_lt 0 (i % n.tiles_x) && p (link (tile_part i) (tile_part i - 1)))
    + one (nat_lt (i / n.tiles_x % n.tiles_y + 1) n.tiles_y && p (link (tile_part i) (tile_part i + n.tiles_x)))
    + one (nat_lt 0 (i / n.tiles_x % n.tiles_y) && p (link (tile_part i) (tile_part i - n.tiles_x)))
    + one (i % board_tiles n == 0 && p (link (tile_part i) (router_part n (i / board_tiles n))))

abbrev pub of_router : (Kind → Bool) → ShapeNumbers → ℕ → ℕ
of_router p n i =
    one (p (link (router_part n i) (tile_part (i * board_tiles n))))
    + one (nat_lt (i % n.boards_x + 1) n.boards_x && p (link (router_part n i) (router_part n i + 1)))
    + one (nat_lt 0 (i % n.boards_x) && p (link (router_part n i) (router_part n i - 1)))
    + one (nat_lt (i / n.boards_x + 1) n.boards_y && p (link (router_part n i) (router_part n i + n.boards_x)))
    + one (nat_lt 0 (i / n.boards_x) && p (link (router_part n i) (router_part n i - n.boards_x)))

five : (a b c d e p q r s t : ℕ) → a ≡ p → b ≡ q → c ≡ r → d ≡ s → e ≡ t → a + b + c + d + e ≡ p + q + r + s + t
five a b c d e p q r s t u v w x y = omega arith

tile_counted : (p : Kind → Bool) (n : ShapeNumbers) (i : ℕ) → count p (tile_links n i) ≡ of_tile p n i
tile_counted p n i =
    let x = i % n.tiles_x in
    let y = i / n.tiles_x % n.tiles_y in
    let here = tile_part i in
    count_five p (only_if (nat_lt (x + 1) n.tiles_x) (link here (here + 1))) (only_if (nat_lt 0 x) (link here (here - 1))) (only_if (nat_lt (y + 1) n.tiles_y) (link here (here + n.tiles_x)))
    (only_if (nat_lt 0 y) (link here (here - n.tiles_x))) (only_if (i % board_tiles n == 0) (link here (router_part n (i / board_tiles n))))
    ∙ five _ _ _ _ _ _ _ _ _ _
    (count_if p (nat_lt (x + 1) n.tiles_x) (link here (here + 1)))
    (count_if p (nat_lt 0 x) (link here (here - 1)))
    (count_if p (nat_lt (y + 1) n.tiles_y) (link here (here + n.tiles_x)))
    (count_if p (nat_lt 0 y) (link here (here - n.tiles_x)))
    (count_if p (i % board_tiles n == 0) (link here (router_part n (i / board_tiles n))))

router_counted : (p : Kind → Bool) (n : ShapeNumbers) (i : ℕ) → count p (router_links n i) ≡ of_router p n i
router_counted p n i =
    let x = i % n.boards_x in
    let y = i / n.boards_x in
    let here = router_part n i in
    count_five p (link here (tile_part (i * board_tiles n)) ∷ []) (only_if (nat_lt (x + 1) n.boards_x) (link here (here + 1))) (only_if (nat_lt 0 x) (link here (here - 1)))
    (only_if (nat_lt (y + 1) n.boards_y) (link here (here + n.boards_x))) (only_if (nat_lt 0 y) (link here (here - n.boards_x)))
    ∙ five _ _ _ _ _ _ _ _ _ _
    (count_one p (link here (tile_part (i * board_tiles n))))
    (count_if p (nat_lt (x + 1) n.boards_x) (link here (here + 1)))
    (count_if p (nat_lt 0 x) (link here (here - 1)))
    (count_if p (nat_lt (y + 1) n.boards_y) (link here (here + n.boards_x)))
    (count_if p (nat_lt 0 y) (link here (here - n.boards_x)))

-- the two links of the host that pass
abbrev pub of_host : (Kind → Bool) → ShapeNumbers → ℕ
of_host p n = one (p (link (router_part n 0) 0)) + one (p (link 0 (router_part n 0)))

host_counted : (p : Kind → Bool) (n : ShapeNumbers) → p kind.Detector ≡ false → count p (from_host_links n) ≡ of_host p n
host_counted p n none =
    let a = sum_by-cons (λ k. one (p k)) (link (router_part n 0) 0) (link 0 (router_part n 0) ∷ kind.Detector ∷ []) in
    let b = sum_by-cons (λ k. one (p k)) (link 0 (router_part n 0)) (kind.Detector ∷ []) in
    let c = sum_by-cons (λ k. one (p k)) kind.Detector [] in
    let d : one (p kind.Detector) ≡ 0 = ap one none in
    omega arith

-- how many links pass
abbrev pub of_links : (Kind → Bool) → ShapeNumbers → ℕ
of_links p n = total (of_tile p n) 0 (tile_count n) + total (of_router p n) 0 (board_count n) + of_host p n

pub links_counted : (p : Kind → Bool) (n : ShapeNumbers) → p kind.Detector ≡ false → count p (from_tile_links n) ≡ of_links p n
links_counted p n none =
    let tiles : count p (all_tile_links n) ≡ total (of_tile p n) 0 (tile_count n) =
    count_each p (tile_links n) 0 (tile_count n) ∙ total_same (λ j. count p (tile_links n j)) (of_tile p n) 0 (tile_count n) (λ j h. tile_counted p n j) in
    let routers : count p (all_router_links n) ≡ total (of_router p n) 0 (board_count n) =
    count_each p (router_links n) 0 (board_count n) ∙ total_same (λ j. count p (router_links n j)) (of_router p n) 0 (board_count n) (λ j h. router_counted p n j) in
    let host = host_counted p n none in
    let front = count_both p (all_tile_links n) (from_router_links n) in
    let back = count_both p (all_router_links n) (from_host_links n) in
    omega arith

-- a test that only links pass
pub record OfLinks (p : Kind → Bool) : Type 0 where
  pub host : p kind.Host ≡ false
  pub tile : (a : TileId) → p (kind.Tile a) ≡ false
  pub router : (b : Board) → p (kind.Router b) ≡ false
  pub detector : p kind.Detector ≡ false

pub parts_counted : (p : Kind → Bool) (n : ShapeNumbers) → OfLinks p → count p (parts n) ≡ of_links p n
parts_counted p n only =
    let links = links_counted p n only.detector in
    let routers = count_none p (λ i. kind.Router (board_at n i)) 0 (board_count n) (λ j. only.router (board_at n j)) in
    let tiles = count_none p (λ i. kind.Tile (record { 0 = tile_at n i })) 0 (tile_count n) (λ j. only.tile (record { 0 = tile_at n j })) in
    let behind = count_both p (map (λ i. kind.Router (board_at n i)) (range_with_len 0 (board_count n))) (from_tile_links n) in
    let front = count_both p (map (λ i. kind.Tile (record { 0 = tile_at n i })) (range_with_len 0 (tile_count n))) (from_routers n) in
    let first = sum_by-cons (λ k. one (p k)) kind.Host (from_tiles n) in
    let host : one (p kind.Host) ≡ 0 = ap one only.host in
    omega arith

-- ---- places by their count

pub none_at : (p : Kind → Bool) (xs : List Kind) (k : ℕ) → p kind.Detector ≡ false → count p xs ≡ 0 → p (get_or xs k kind.Detector) ≡ false
none_at p [] k none h = none
none_at p (x ∷ xs) zero none h = by (p x) refl (let e = sum_by-cons (λ k. one (p k)) x xs in omega arith) where
  by : (b : Bool) → p x ≡ b → one (p x) ≡ 0 → p x ≡ false
  by false e g = e
  by true e g = let d : one (p x) ≡ 1 = ap one e in absurd (omega arith)
none_at p (x ∷ xs) (suc k) none h = none_at p xs k none (let e = sum_by-cons (λ k. one (p k)) x xs in omega arith)

pub some_place : (p : Kind → Bool) (xs : List Kind) → 0 < count p xs → (k : ℕ) × (p (get_or xs k kind.Detector) ≡ true)
some_place p [] h = absurd (omega arith)
some_place p (x ∷ xs) h = by (λ g. some_place p xs g) (p x) refl where
  by : (0 < count p xs → (k : ℕ) × (p (get_or xs k kind.Detector) ≡ true)) → (b : Bool) → p x ≡ b → (k : ℕ) × (p (get_or (x ∷ xs) k kind.Detector) ≡ true)
  by rest true e = (0, e)
  by rest false e =
      let d : one (p x) ≡ 0 = ap one e in
      let split = sum_by-cons (λ k. one (p k)) x xs in
      let got = rest (omega arith) in
      (suc got.0, got.1)

one_of_true : (b : Bool) → b ≡ true → one b ≡ 1
one_of_true b e = ap one e

pub at_place : (p : Kind → Bool) (xs : List Kind) (k : ℕ) → p kind.Detector ≡ false → p (get_or xs k kind.Detector) ≡ true → 0 < count p xs
at_place p [] k none e = absurd (cc)
at_place p (x ∷ xs) zero none e = let split = sum_by-cons (λ k. one (p k)) x xs in let here = one_of_true (p x) e in omega arith
at_place p (x ∷ xs) (suc k) none e = let split = sum_by-cons (λ k. one (p k)) x xs in let rest = at_place p xs k none e in omega arith

-- at most one part passes
pub same_place : (p : Kind → Bool) (xs : List Kind) (k l : ℕ) → p kind.Detector ≡ false → count p xs ≤ 1 → p (get_or xs k kind.Detector) ≡ true → p (get_or xs l kind.Detector) ≡ true → k ≡ l
same_place p [] k l none few e f = absurd (cc)
same_place p (x ∷ xs) zero zero none few e f = refl
same_place p (x ∷ xs) zero (suc l) none few e f =
    let split = sum_by-cons (λ k. one (p k)) x xs in
    let here = one_of_true (p x) e in
    let rest = at_place p xs l none f in absurd (omega arith)
same_place p (x ∷ xs) (suc k) zero none few e f =
    let split = sum_by-cons (λ k. one (p k)) x xs in
    let here = one_of_true (p x) f in
    let rest = at_place p xs k none e in absurd (omega arith)
same_place p (x ∷ xs) (suc k) (suc l) none few e f =
    let split = sum_by-cons (λ k. one (p k)) x xs in
    ap suc (same_place p xs k l none (omega arith) e f)
