-- Each hop of a tree finds an edge.
use Rattle.std.proofs.Common.{◌≡◌, ◌<◌, ℕ, suc, zero, ◌+◌, ◌*◌, ◌/◌, eqb, cond, Bool, true, false, ◌||◌, List, [], ◌∷◌, length, map, refl, sym, ◌∙◌, ap, arith}
use Rattle.std.specs.Int.{bit_at}
use Rattle.std.specs.List.{All, filter, list_any}
use Rattle.tn_base.specs.declared.ids.Board.{Board}
use Rattle.tn_base.specs.declared.shape.ShapeNumbers.{ShapeNumbers}
use Rattle.tn_base.specs.Shape.{WithinLimits}
use Rattle.tn_keys.specs.Copies.{only_if, tile_address}
use Rattle.tn_sums.specs.Totals.{total, weigh}
use Rattle.tn_sums.proofs.Laws.{total_same, total_zero}
use Rattle.polite_switch.specs.declared.device.InEdge.{InEdge}
use Rattle.polite_routes.specs.declared.target.Spot.{Spot}
use Rattle.polite_routes.specs.declared.target.Target.{Target}
use Rattle.polite_routes.specs.Hops.{Hop, hop}
use Rattle.polite_routes.specs.Once.{AllFind, Listed, Lists}
use Rattle.polite_routes.specs.Targets.{edges_to, mask_of, spot_at, spots_for}
use Rattle.polite_routes.specs.Tree.{tile_index}
use Rattle.polite_routes.proofs.Each.{weigh_below}
use Rattle.polite_routes.proofs.Grid.{at, board_weight, column_weight, weigh_tree}
use Rattle.polite_routes.proofs.Leading.{here, mask_hops, spot_hops}
use Rattle.polite_routes.proofs.Marks.{mask_bit, spot_is, to, to_tile}
use Rattle.polite_routes.proofs.Trees.{tree_hops}

-- 1 for a list without edges
abbrev empty_one : List InEdge → ℕ
empty_one [] = 1
empty_one (e ∷ es) = 0

abbrev miss : Lists → Hop → ℕ
miss lists h = empty_one (lists h.receiver h.local)

some_edge : (ts : List Target) (a : ℕ) → list_any (to a) ts ≡ true → empty_one (edges_to ts a) ≡ 0
some_edge [] a h = absurd (cc)
some_edge (t ∷ ts) a h = by (eqb t.thread.0 a) h (some_edge ts a) where
  by : (v : Bool) → (v || list_any (to a) ts) ≡ true → (list_any (to a) ts ≡ true → empty_one (edges_to ts a) ≡ 0) → empty_one (map (λ (x : Target). x.edge) (cond v (t ∷ filter (to a) ts) (filter (to a) ts))) ≡ 0
  by true q f = refl
  by false q f = f q

bit_finds : (lists : Lists) (ts : List Target) (local : ℕ → ℕ) (i k : ℕ) (v : Bool) → k < 64 → Listed lists ts local → eqb (bit_at (mask_of ts i) k) 1 ≡ v → weigh (miss lists) (only_if v (hop (i * 64 + k) (local i))) ≡ 0
bit_finds lists ts local i k true h l e =
    let a : ℕ = i * 64 + k in
    let d : a / 64 ≡ i = omega arith in
    let any : list_any (to a) ts ≡ true = sym (mask_bit ts i k h) ∙ e in
    let f : lists a (local i) ≡ edges_to ts a = ap (λ j. lists a (local j)) (sym d) ∙ l.listed a (to_tile ts a any) in
    let z = ap empty_one f ∙ some_edge ts a any in
    omega arith
bit_finds lists ts local i k false h l e = refl

spot_finds : (lists : Lists) (ts : List Target) (earlier : ℕ → ℕ) (i a : ℕ) (v : Bool) → a ≡ i * 64 → Listed lists ts earlier → weigh (miss lists) (cond v [] (mask_hops a (cond v 0 (earlier i)) (mask_of ts i))) ≡ 0
unfolding mask_hops
spot_finds lists ts earlier i a true ea l = refl
spot_finds lists ts earlier i a false ea l =
    weigh_below (miss lists) (λ k. only_if (eqb (bit_at (mask_of ts i) k) 1) (hop (a + k) (earlier i))) 64
    ∙ total_same (λ k. weigh (miss lists) (only_if (eqb (bit_at (mask_of ts i) k) 1) (hop (a + k) (earlier i)))) (λ _. 0) 64
    (λ k h. ap (λ b. weigh (miss lists) (only_if (eqb (bit_at (mask_of ts i) k) 1) (hop (b + k) (earlier i)))) ea ∙ bit_finds lists ts earlier i k (eqb (bit_at (mask_of ts i) k) 1) h l refl)
    ∙ total_zero 64

board_finds : (lists : Lists) (ts : List Target) (earlier : ℕ → ℕ) (x y : ℕ) → x < 4 → y < 4 → Listed lists ts earlier → board_weight (miss lists) (spots_for ts earlier) x y ≡ 0
unfolding here
board_finds lists ts earlier x y hx hy l =
    let ss : List Spot = spots_for ts earlier in
    let b : Board = at x y in
    weigh_below (miss lists) (λ tile. spot_hops (tile_address b tile) (spot_at ss (tile_index b tile))) 16
    ∙ total_same (λ tile. weigh (miss lists) (spot_hops (tile_address b tile) (spot_at ss (tile_index b tile)))) (λ _. 0) 16
    (λ tile h.
    let small : tile_index b tile < 256 = omega arith in
    ap (λ q. weigh (miss lists) (spot_hops (tile_address b tile) q)) (spot_is ts earlier (tile_index b tile) small)
    ∙ spot_finds lists ts earlier (tile_index b tile) (tile_address b tile) (eqb (mask_of ts (tile_index b tile)) 0) (omega arith) l)
    ∙ total_zero 16

none_miss : (n : ShapeNumbers) (ts : List Target) (earlier : ℕ → ℕ) (lists : Lists) (x y : ℕ) → WithinLimits n → x < n.boards_x → y < n.boards_y → Listed lists ts earlier → weigh (miss lists) (tree_hops n (spots_for ts earlier) (at x y)) ≡ 0
unfolding column_weight
none_miss n ts earlier lists x y l hx hy f =
    weigh_tree (miss lists) n (spots_for ts earlier) x y hx hy
    ∙ total_same (λ x. total (board_weight (miss lists) (spots_for ts earlier) x) n.boards_y) (λ _. 0) n.boards_x
    (λ i hi. total_same (board_weight (miss lists) (spots_for ts earlier) i) (λ _. 0) n.boards_y
    (λ j hj. let mx = l.boards_x.1 in let my = l.boards_y.1 in board_finds lists ts earlier i j (omega arith) (omega arith) f) ∙ total_zero n.boards_y)
    ∙ total_zero n.boards_x

some_found : (es : List InEdge) → empty_one es ≡ 0 → 0 < length es
some_found [] h = absurd (omega arith)
some_found (e ∷ es) h = omega arith

find_all : (lists : Lists) (hs : List Hop) → weigh (miss lists) hs ≡ 0 → All (λ (h : Hop). 0 < length (lists h.receiver h.local)) hs
find_all lists [] e = λ k d l. absurd (omega arith)
find_all lists (h ∷ hs) e = by (find_all lists hs (omega arith)) where
  by : All (λ (h : Hop). 0 < length (lists h.receiver h.local)) hs → All (λ (h : Hop). 0 < length (lists h.receiver h.local)) (h ∷ hs)
  by r zero d l = some_found (lists h.receiver h.local) (omega arith)
  by r (suc k) d l = r k d (omega arith)

-- each hop of a tree finds an edge
pub all_find : (n : ShapeNumbers) (ts : List Target) (earlier : ℕ → ℕ) (lists : Lists) (x y : ℕ) → WithinLimits n → x < n.boards_x → y < n.boards_y → Listed lists ts earlier → AllFind lists (tree_hops n (spots_for ts earlier) (at x y))
all_find n ts earlier lists x y l hx hy f = record { found = find_all lists (tree_hops n (spots_for ts earlier) (at x y)) (none_miss n ts earlier lists x y l hx hy f) }
