-- Each link leads from one part that the detector visits to another.
use Rattle.std.proofs.Common.{ℕ, ◌≡◌, ◌≢◌, ◌≤◌, ◌<◌, ◌+◌, ◌-◌, ◌*◌, ◌/◌, ◌%◌, ◌++◌, ◌∷◌, ◌==◌, [], List, Bool, true, false, nat_lt, get_or, zero, suc, refl, arith, inl, inr, sym, ap, ◌∙◌}
use Rattle.std.specs.Prelude.{⊤}
use Rattle.std.specs.List.{flat_map, range_with_len}
use Rattle.std.proofs.lemmas.Bool.{cases_lt, ltb-true}
use Rattle.std.proofs.lemmas.List.{get_or_past}
use Rattle.std.proofs.lemmas.Nat.{div_below, div-add-mod', mod_below, mul-add-lt, mul-le}
use Rattle.tn_base.specs.declared.shape.ShapeNumbers.{ShapeNumbers}
use Rattle.tn_base.specs.declared.ids.PartId.{PartId}
use Rattle.tn_base.specs.declared.part.Kind.{Kind}
use Rattle.tn_base.specs.declared.part.Kind.TheVariants.{Host, Tile, Router, Link, Detector}
use Rattle.tn_base.specs.Shape.{WithinLimits}
use Rattle.tn_base.specs.Parts.{JoinsVisited, all_router_links, all_tile_links, board_at, board_count, board_tiles, from_host_links, from_router_links, from_routers, from_tile_links, from_tiles, kind_of, link, only_if, part_count, parts, router_links, router_part, tile_at, tile_count, tile_links, visited}
use Rattle.tn_base.proofs.Listing.{behind_at, front_at}

-- two parts below `v`
record Ends (v from onto : ℕ) : Type 0 where
  pub from_below : from < v
  pub onto_below : onto < v
  pub apart : from ≢ onto

-- a link's ends are two parts below `v`
abbrev Joins : ℕ → Kind → Type 0
Joins v Host = ⊤
Joins v (Tile tile) = ⊤
Joins v (Router board) = ⊤
Joins v (Link from onto) = Ends v from.0 onto.0
Joins v Detector = ⊤

-- those of each link of a list are
abbrev AllJoin : ℕ → List Kind → Type 0
AllJoin v kinds = (k : ℕ) → Joins v (get_or kinds k Detector)

join_both : (v : ℕ) (xs ys : List Kind) → AllJoin v xs → AllJoin v ys → AllJoin v (xs ++ ys)
join_both v [] ys p q k = q k
join_both v (x ∷ xs) ys p q zero = p zero
join_both v (x ∷ xs) ys p q (suc k) = join_both v xs ys (λ j. p (suc j)) q k

join_one : (v from onto : ℕ) → Ends v from onto → AllJoin v (link from onto ∷ [])
join_one v from onto e zero = e
join_one v from onto e (suc k) = tt

join_if : (v from onto : ℕ) (there : Bool) → (there ≡ true → Ends v from onto) → AllJoin v (only_if there (link from onto))
join_if v from onto true e = join_one v from onto (e refl)
join_if v from onto false e = λ k. tt

join_each : (v : ℕ) (f : ℕ → List Kind) (i count : ℕ) → ((j : ℕ) → j < i + count → AllJoin v (f j)) → AllJoin v (flat_map f (range_with_len i count))
join_each v f i zero each = λ k. tt
join_each v f i (suc count) each =
    join_both v (f i) (flat_map f (range_with_len (i + 1) count)) (each i (omega arith)) (join_each v f (i + 1) count (λ j h. each j (omega arith)))

-- the next number of a row of `m` numbers, one of `rows`
next_in_row : (i m rows : ℕ) → 0 < m → i < rows * m → i % m + 1 < m → i + 1 < rows * m
next_in_row i m rows some h inside =
    let row : i / m < rows = div_below i m rows some h in
    let next : i / m * m + (i % m + 1) < m * rows = mul-add-lt (i / m) m (i % m + 1) rows row inside in
    let whole : i / m * m + i % m ≡ i = div-add-mod' i m in
    omega arith

-- the same place of the next row
next_row : (i m rows : ℕ) → 0 < m → i / m + 1 < rows → i + m < rows * m
next_row i m rows some h =
    let next : (i / m + 1) * m + i % m < m * rows = mul-add-lt (i / m + 1) m (i % m) rows h (mod_below i m some) in
    let whole : i / m * m + i % m ≡ i = div-add-mod' i m in
    omega arith

-- the links that lead away from one part, each under its condition
join_five : (v here p q r s t : ℕ) (a b c d e : Bool) →
    (a ≡ true → Ends v here p) → (b ≡ true → Ends v here q) → (c ≡ true → Ends v here r) → (d ≡ true → Ends v here s) → (e ≡ true → Ends v here t) →
    AllJoin v (only_if a (link here p) ++ only_if b (link here q) ++ only_if c (link here r) ++ only_if d (link here s) ++ only_if e (link here t))
join_five v here p q r s t a b c d e to_p to_q to_r to_s to_t =
    let two = join_both v (only_if a (link here p)) (only_if b (link here q)) (join_if v here p a to_p) (join_if v here q b to_q) in
    let three = join_both v (only_if a (link here p) ++ only_if b (link here q)) (only_if c (link here r)) two (join_if v here r c to_r) in
    let four = join_both v (only_if a (link here p) ++ only_if b (link here q) ++ only_if c (link here r)) (only_if d (link here s)) three (join_if v here s d to_s) in
    join_both v (only_if a (link here p) ++ only_if b (link here q) ++ only_if c (link here r) ++ only_if d (link here s)) (only_if e (link here t)) four (join_if v here t e to_t)

some_of : (a b : ℕ) → 1 ≤ a → 1 ≤ b → 1 ≤ a * b
some_of a b h k = mul-le 1 1 a b h k

tile_links_join : (n : ShapeNumbers) (i : ℕ) → WithinLimits n → i < tile_count n → AllJoin (visited n) (tile_links n i)
tile_links_join n i l h =
    let x = i % n.tiles_x in
    let y = i / n.tiles_x % n.tiles_y in
    let rows = n.boards_x * n.boards_y * n.tiles_y in
    let here = 1 + i in
    let row : i / n.tiles_x < rows = div_below i n.tiles_x rows l.tiles_x.0 (omega arith) in
    let board : i / board_tiles n < board_count n = div_below i (board_tiles n) (board_count n) (some_of _ _ l.tiles_x.0 l.tiles_y.0) (omega arith) in
    join_five (visited n) here (here + 1) (here - 1) (here + n.tiles_x) (here - n.tiles_x) (router_part n (i / board_tiles n))
    (nat_lt (x + 1) n.tiles_x) (nat_lt 0 x) (nat_lt (y + 1) n.tiles_y) (nat_lt 0 y) (i % board_tiles n == 0)
    (λ east.
    let next : i + 1 < rows * n.tiles_x = next_in_row i n.tiles_x rows l.tiles_x.0 (omega arith) (ltb-true _ _ east) in
    record { from_below = omega arith; onto_below = omega arith; apart = λ e. absurd (omega arith) })
    (λ west. record { from_below = omega arith; onto_below = omega arith; apart = λ e. absurd (omega arith) })
    (λ south.
    let lower : i / n.tiles_x + 1 < rows = next_in_row (i / n.tiles_x) n.tiles_y (n.boards_x * n.boards_y) l.tiles_y.0 row (ltb-true _ _ south) in
    let next : i + n.tiles_x < rows * n.tiles_x = next_row i n.tiles_x rows l.tiles_x.0 lower in
    record { from_below = omega arith; onto_below = omega arith; apart = λ e. absurd (omega (arith, l.tiles_x.0)) })
    (λ north. record { from_below = omega arith; onto_below = omega arith; apart = λ e. absurd (omega (arith, l.tiles_x.0)) })
    (λ first. record { from_below = omega arith; onto_below = omega (arith, board); apart = λ e. absurd (omega arith) })

router_links_join : (n : ShapeNumbers) (i : ℕ) → WithinLimits n → i < board_count n → AllJoin (visited n) (router_links n i)
router_links_join n i l h =
    let x = i % n.boards_x in
    let y = i / n.boards_x in
    let here = router_part n i in
    let tile : i * board_tiles n + 0 < board_tiles n * board_count n = mul-add-lt i (board_tiles n) 0 (board_count n) h (some_of _ _ l.tiles_x.0 l.tiles_y.0) in
    join_five (visited n) here (1 + i * board_tiles n) (here + 1) (here - 1) (here + n.boards_x) (here - n.boards_x)
    true (nat_lt (x + 1) n.boards_x) (nat_lt 0 x) (nat_lt (y + 1) n.boards_y) (nat_lt 0 y)
    (λ down. record { from_below = omega arith; onto_below = omega (arith, tile); apart = λ e. absurd (omega (arith, tile)) })
    (λ east.
    let next : i + 1 < n.boards_y * n.boards_x = next_in_row i n.boards_x n.boards_y l.boards_x.0 (omega arith) (ltb-true _ _ east) in
    record { from_below = omega arith; onto_below = omega arith; apart = λ e. absurd (omega arith) })
    (λ west. record { from_below = omega arith; onto_below = omega arith; apart = λ e. absurd (omega arith) })
    (λ south.
    let next : i + n.boards_x < n.boards_y * n.boards_x = next_row i n.boards_x n.boards_y l.boards_x.0 (ltb-true _ _ south) in
    record { from_below = omega arith; onto_below = omega arith; apart = λ e. absurd (omega (arith, l.boards_x.0)) })
    (λ north. record { from_below = omega arith; onto_below = omega arith; apart = λ e. absurd (omega (arith, l.boards_x.0)) })

host_links_join : (n : ShapeNumbers) → WithinLimits n → AllJoin (visited n) (from_host_links n)
host_links_join n l zero =
    let some : 1 ≤ n.boards_x * n.boards_y = some_of _ _ l.boards_x.0 l.boards_y.0 in
    record { from_below = omega (arith, some); onto_below = omega arith; apart = λ e. absurd (omega arith) }
host_links_join n l (suc zero) =
    let some : 1 ≤ n.boards_x * n.boards_y = some_of _ _ l.boards_x.0 l.boards_y.0 in
    record { from_below = omega arith; onto_below = omega (arith, some); apart = λ e. absurd (omega arith) }
host_links_join n l (suc (suc zero)) = tt
host_links_join n l (suc (suc (suc k))) = tt

links_join : (n : ShapeNumbers) → WithinLimits n → AllJoin (visited n) (from_tile_links n)
links_join n l =
    join_both (visited n) (all_tile_links n) (from_router_links n)
    (join_each (visited n) (tile_links n) 0 (tile_count n) (λ i h. tile_links_join n i l (omega arith)))
    (join_both (visited n) (all_router_links n) (from_host_links n)
    (join_each (visited n) (router_links n) 0 (board_count n) (λ i h. router_links_join n i l (omega arith)))
    (host_links_join n l))

-- the kind of a part behind the routers
kind_behind : (n : ShapeNumbers) (l : ℕ) → visited n ≤ l → kind_of n l ≡ get_or (from_tile_links n) (l - visited n) Detector
kind_behind n zero h = absurd (omega arith)
kind_behind n (suc i) h =
    behind_at (λ i. Tile (record { 0 = tile_at n i })) (tile_count n) i (from_routers n) Detector (omega arith)
    ∙ behind_at (λ i. Router (board_at n i)) (board_count n) (i - tile_count n) (from_tile_links n) Detector (omega arith)
    ∙ ap (λ k. get_or (from_tile_links n) k Detector) (omega arith)

-- no part before is a link
no_link : (n : ShapeNumbers) (l : ℕ) (from onto : PartId) → l < visited n → kind_of n l ≢ Link from onto
no_link n zero from onto h e = absurd cc
no_link n (suc i) from onto h e =
    elim (cases_lt i (tile_count n)) [
      | inl tile ↦
          let kind : get_or (from_tiles n) i Detector ≡ Tile (record { 0 = tile_at n i }) = front_at (λ i. Tile (record { 0 = tile_at n i })) (tile_count n) i (from_routers n) Detector tile in
          absurd cc
      | inr past ↦
          let behind : get_or (from_tiles n) i Detector ≡ get_or (from_routers n) (i - tile_count n) Detector =
          behind_at (λ i. Tile (record { 0 = tile_at n i })) (tile_count n) i (from_routers n) Detector past in
          let kind : get_or (from_routers n) (i - tile_count n) Detector ≡ Router (board_at n (i - tile_count n)) =
          front_at (λ i. Router (board_at n i)) (board_count n) (i - tile_count n) (from_tile_links n) Detector (omega arith) in
          absurd cc
    ]

-- no part is past the last
no_part : (n : ShapeNumbers) (l : ℕ) (from onto : PartId) → part_count n ≤ l → kind_of n l ≢ Link from onto
no_part n l from onto h e = let none : kind_of n l ≡ Detector = get_or_past (parts n) l Detector h in absurd cc

pub joins_visited : (n : ShapeNumbers) (l : ℕ) (from onto : PartId) → WithinLimits n → kind_of n l ≡ Link from onto → JoinsVisited n l from.0 onto.0
joins_visited n l from onto limits e =
    elim (cases_lt l (visited n)) [
      | inl front ↦ absurd (no_link n l from onto front e)
      | inr behind ↦ elim (cases_lt l (part_count n)) [
        | inl there ↦
            let kind : get_or (from_tile_links n) (l - visited n) Detector ≡ Link from onto = sym (kind_behind n l behind) ∙ e in
            let ends : Ends (visited n) from.0 onto.0 = rw kind at (links_join n limits (l - visited n)) in
            record { behind = behind; there = there; from_visited = ends.from_below; onto_visited = ends.onto_below; apart = ends.apart }
        | inr past ↦ absurd (no_part n l from onto past e)
      ]
    ]
