-- The tables of routes name the four directions alone.
use Rattle.std.proofs.Common.{ℕ, zero, suc, ◌+◌, ◌<◌, ◌==◌, ◌++◌, true, false, cond, List, [], ◌∷◌, drop, take, length, replicate, arith}
use Rattle.std.specs.Prelude.{Option, Some, None, slice_index_or, slice_set}
use Rattle.std.specs.List.{AllByRecursion, flat_map, range_with_len}
use Rattle.tn_base.specs.declared.ids.Board.{Board}
use Rattle.tn_base.specs.declared.shape.ShapeNumbers.{ShapeNumbers}
use Rattle.tn_base.specs.Parts.{board_count}
use Rattle.tn_keys.specs.declared.record.RouteRec.{RouteRec}
use Rattle.tn_keys.specs.declared.record.RouteRec.TheVariants.{Mrm}
use Rattle.tn_keys.specs.Beat.{is_beat}
use Rattle.tn_keys.specs.Copies.{neighbour}
use Rattle.tn_keys.specs.Key.{key_count, key_first}
use Rattle.tn_keys.specs.Tables.{Table, beats_in, board_place, is_bad_key, joined, records_at, table_of}
use Rattle.polite_routes.specs.declared.target.Pin.{Pin}
use Rattle.polite_routes.specs.declared.target.Spot.{Spot}
use Rattle.polite_routes.specs.declared.tree.Child.{Child}
use Rattle.polite_routes.specs.Pack.{filled, pack, with_records}
use Rattle.polite_routes.specs.Routes.{pin_at, spots_of, tables_after, tables_of}
use Rattle.polite_routes.specs.Targets.{spot_at}
use Rattle.polite_routes.specs.Tree.{Planted, child, column, mrm, mrms, planted, row, rr, rrs, tile_index, tree, tree_records}
use Rattle.polite_flow.specs.OnWay.{AreDirected, IsDirected}

-- ---- lists of which each element has P

all_append : {X : Type 0} (P : X → Type 0) (xs ys : List X) → AllByRecursion P xs → AllByRecursion P ys → AllByRecursion P (xs ++ ys)
all_append P [] ys a b = b
all_append P (x ∷ xs) ys a b = (a.0, all_append P xs ys a.1 b)

all_flat : {X : Type 0} (P : X → Type 0) (f : ℕ → List X) (i count : ℕ) → ((k : ℕ) → AllByRecursion P (f k)) → AllByRecursion P (flat_map f (range_with_len i count))
all_flat P f i zero h = tt
all_flat P f i (suc count) h = all_append P (f i) (flat_map f (range_with_len (i + 1) count)) (h i) (all_flat P f (i + 1) count h)

pub all_set : {X : Type 0} (P : X → Type 0) (xs : List X) (i : ℕ) (x : X) → AllByRecursion P xs → P x → AllByRecursion P (slice_set xs i x)
all_set P [] i x a p = tt
all_set P (y ∷ ys) zero x a p = (p, a.1)
all_set P (y ∷ ys) (suc i) x a p = (a.0, all_set P ys i x a.1 p)

all_at : {X : Type 0} (P : X → Type 0) (xs : List X) (i : ℕ) (d : X) → AllByRecursion P xs → P d → P (slice_index_or xs i d)
all_at P [] i d a p = p
all_at P (x ∷ xs) zero d a p = a.0
all_at P (x ∷ xs) (suc i) d a p = all_at P xs i d a.1 p

all_take : {X : Type 0} (P : X → Type 0) (i : ℕ) (xs : List X) → AllByRecursion P xs → AllByRecursion P (take i xs)
all_take P zero xs a = tt
all_take P (suc i) [] a = tt
all_take P (suc i) (x ∷ xs) a = (a.0, all_take P i xs a.1)

all_drop : {X : Type 0} (P : X → Type 0) (i : ℕ) (xs : List X) → AllByRecursion P xs → AllByRecursion P (drop i xs)
all_drop P zero xs a = a
all_drop P (suc i) [] a = tt
all_drop P (suc i) (x ∷ xs) a = all_drop P i xs a.1

all_same : {X : Type 0} (P : X → Type 0) (count : ℕ) (x : X) → P x → AllByRecursion P (replicate count x)
all_same P zero x p = tt
all_same P (suc count) x p = (p, all_same P count x p)

-- ---- beats and tables

abbrev Records : List RouteRec → Type 0
Records rs = AllByRecursion IsDirected rs

abbrev Beats : Table → Type 0
Beats beats = AllByRecursion Records beats

abbrev Tables : List Table → Type 0
Tables ts = AllByRecursion Beats ts

all_joined : (beats : Table) → Beats beats → Records (joined beats)
all_joined [] a = tt
all_joined (beat ∷ beats) a = all_append IsDirected beat (joined beats) a.0 (all_joined beats a.1)

all_filled : (beat rs : List RouteRec) → Records beat → Records rs → Beats (filled beat rs)
all_filled beat [] b a = (b, tt)
all_filled beat (r ∷ rs) b a =
    elim (is_beat (beat ++ r ∷ [])) as (λ v. Beats (cond v (filled (beat ++ r ∷ []) rs) (beat ∷ filled (r ∷ []) rs))) [
      | true ↦ all_filled (beat ++ r ∷ []) rs (all_append IsDirected beat (r ∷ []) b (a.0, tt)) a.1
      | false ↦ (b, all_filled (r ∷ []) rs (a.0, tt) a.1)
    ]

all_pack : (rs : List RouteRec) → Records rs → Beats (pack rs)
all_pack [] a = tt
all_pack (r ∷ rs) a = all_filled (r ∷ []) rs (a.0, tt) a.1

all_with : (n : ShapeNumbers) (b : Board) (rs : List RouteRec) (ts : List Table) → Tables ts → Records rs → Tables (with_records n b rs ts)
unfolding with_records
all_with n b rs ts t r =
    all_set Beats ts (board_place n b) (table_of n ts b ++ pack rs) t (all_append Records (table_of n ts b) (pack rs) (all_at Beats ts (board_place n b) [] t tt) (all_pack rs r))

all_records : (table : Table) (key : ℕ) → Beats table → Records (records_at table key)
unfolding records_at
all_records table key a =
    elim (is_bad_key (length table) key) as (λ v. Records (cond v [] (joined (beats_in table key)))) [
      | true ↦ tt
      | false ↦ all_joined (beats_in table key) (all_take Records (key_count key) (drop (key_first key) table) (all_drop Records (key_first key) table a))
    ]

-- ---- trees

abbrev IsFour : Child → Type 0
IsFour c = c.dir < 4

mrm_directed : (tile : ℕ) (s : Spot) → Records (mrm tile s)
mrm_directed tile s = elim (s.mask == 0) as (λ v. Records (cond v [] (Mrm tile s.local s.mask ∷ []))) [ true ↦ tt | false ↦ (tt, tt) ]

mrms_directed : (ss : List Spot) (b : Board) (count : ℕ) → Records (mrms ss b count)
unfolding mrms
mrms_directed ss b count = all_flat IsDirected (λ tile. mrm tile (spot_at ss (tile_index b tile))) 0 count (λ k. mrm_directed k (spot_at ss (tile_index b k)))

rr_directed : (dir : ℕ) (key : Option ℕ) → dir < 4 → Records (rr dir key)
rr_directed dir None l = tt
rr_directed dir (Some key) l = (l, tt)

rrs_directed : (cs : List Child) → AllByRecursion IsFour cs → Records (rrs cs)
rrs_directed [] a = tt
rrs_directed (c ∷ cs) a = all_append IsDirected (rr c.dir c.key) (rrs cs) (rr_directed c.dir c.key a.0) (rrs_directed cs a.1)

planted_directed : (n : ShapeNumbers) (ss : List Spot) (b : Board) (cs : List Child) (ts : List Table) → Tables ts → AllByRecursion IsFour cs → Tables (planted n ss b cs ts).tables
planted_directed n ss b cs ts t a =
    all_with n b (tree_records ss b cs) ts t (all_append IsDirected (mrms ss b 16) (rrs cs) (mrms_directed ss b 16) (rrs_directed cs a))

column_directed : (n : ShapeNumbers) (ss : List Spot) (d m : ℕ) (at : Option Board) (ts : List Table) → d < 4 → Tables ts → Tables (column n ss d m at ts).tables
column_directed n ss d zero at ts l t = t
column_directed n ss d (suc m) None ts l t = t
column_directed n ss d (suc m) (Some b) ts l t =
    let next : Planted = column n ss d m (neighbour n d b) ts in
    planted_directed n ss b (child d next.key ∷ []) next.tables (column_directed n ss d m (neighbour n d b) ts l t) (l, tt)

row_directed : (n : ShapeNumbers) (ss : List Spot) (d m : ℕ) (at : Option Board) (ts : List Table) → d < 4 → Tables ts → Tables (row n ss d m at ts).tables
row_directed n ss d zero at ts l t = t
row_directed n ss d (suc m) None ts l t = t
row_directed n ss d (suc m) (Some b) ts l t =
    let ahead : Planted = row n ss d m (neighbour n d b) ts in
    let below : Planted = column n ss 2 n.boards_y (neighbour n 2 b) ahead.tables in
    let above : Planted = column n ss 3 n.boards_y (neighbour n 3 b) below.tables in
    let p = row_directed n ss d m (neighbour n d b) ts l t in
    let q = column_directed n ss 2 n.boards_y (neighbour n 2 b) ahead.tables (omega arith) p in
    let r = column_directed n ss 3 n.boards_y (neighbour n 3 b) below.tables (omega arith) q in
    planted_directed n ss b (child d ahead.key ∷ child 2 below.key ∷ child 3 above.key ∷ []) above.tables r (l, (omega arith, (omega arith, tt)))

tree_directed : (n : ShapeNumbers) (ss : List Spot) (b : Board) (ts : List Table) → Tables ts → Tables (tree n ss b ts).tables
tree_directed n ss b ts t =
    let east : Planted = row n ss 0 n.boards_x (neighbour n 0 b) ts in
    let west : Planted = row n ss 1 n.boards_x (neighbour n 1 b) east.tables in
    let below : Planted = column n ss 2 n.boards_y (neighbour n 2 b) west.tables in
    let above : Planted = column n ss 3 n.boards_y (neighbour n 3 b) below.tables in
    let p = row_directed n ss 0 n.boards_x (neighbour n 0 b) ts (omega arith) t in
    let q = row_directed n ss 1 n.boards_x (neighbour n 1 b) east.tables (omega arith) p in
    let r = column_directed n ss 2 n.boards_y (neighbour n 2 b) west.tables (omega arith) q in
    let s = column_directed n ss 3 n.boards_y (neighbour n 3 b) below.tables (omega arith) r in
    planted_directed n ss b (child 0 east.key ∷ child 1 west.key ∷ child 2 below.key ∷ child 3 above.key ∷ []) above.tables s (omega arith, (omega arith, (omega arith, (omega arith, tt))))

tables_directed : (n : ShapeNumbers) (pins : List Pin) (j : ℕ) → Tables (tables_after n pins j)
unfolding tables_after
tables_directed n pins zero = all_same Beats (board_count n) [] tt
tables_directed n pins (suc j) = tree_directed n (spots_of pins j) (pin_at pins j).board (tables_after n pins j) (tables_directed n pins j)

pub directed : (n : ShapeNumbers) (pins : List Pin) → AreDirected n (tables_of n pins)
directed n pins b key h = all_records (table_of n (tables_of n pins) b) key (all_at Beats (tables_of n pins) (board_place n b) [] (tables_directed n pins (length pins)) tt)
