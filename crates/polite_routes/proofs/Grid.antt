-- The boards of a tree are all boards of the machine, each once.
use Rattle.std.proofs.Common.{◌≡◌, ◌<◌, ◌≤◌, ℕ, suc, zero, ◌+◌, ◌-◌, ltb, cond, Bool, true, false, List, ◌++◌, refl, sym, ◌∙◌, ap, arith, Some, None}
use Rattle.std.proofs.lemmas.Bool.Decides.{nat_tests}
use Rattle.tn_base.specs.declared.ids.Board.{Board}
use Rattle.tn_base.specs.declared.shape.ShapeNumbers.{ShapeNumbers}
use Rattle.tn_keys.specs.Copies.{neighbour}
use Rattle.tn_sums.specs.Totals.{total, weigh}
use Rattle.tn_sums.proofs.Laws.{total-suc, total_nothing, weigh-append}
use Rattle.polite_routes.specs.declared.target.Spot.{Spot}
use Rattle.polite_routes.specs.Hops.{Hop}
use Rattle.polite_routes.proofs.Leading.{here}
use Rattle.polite_routes.proofs.Trees.{column_hops, row_hops, tree_hops}

abbrev pub at : ℕ → ℕ → Board
at x y = record { x = x; y = y }

-- what a board weighs, and a column of boards
abbrev pub board_weight : (Hop → ℕ) → List Spot → ℕ → ℕ → ℕ
board_weight g ss x y = weigh g (here ss (at x y) 16)

unfoldable pub column_weight : (Hop → ℕ) → List Spot → ℕ → ℕ → ℕ
column_weight g ss height x = total (board_weight g ss x) height

not_lt : (a b : ℕ) → false ≡ ltb a b → b ≤ a
not_lt a b h = grind (arith, nat_tests)

is_lt : (a b : ℕ) → true ≡ ltb a b → a < b
is_lt a b h = grind (arith, nat_tests)

south : (g : Hop → ℕ) (n : ShapeNumbers) (ss : List Spot) (x m y : ℕ) → y < n.boards_y → n.boards_y ≤ suc y + m
    → total (board_weight g ss x) (suc y) + weigh g (column_hops n ss 2 m (neighbour n 2 (at x y))) ≡ total (board_weight g ss x) n.boards_y
south g n ss x zero y h l = let e : suc y ≡ n.boards_y = omega arith in let t = ap (total (board_weight g ss x)) e in omega arith
south g n ss x (suc m) y h l = by (ltb (y + 1) n.boards_y) refl (λ q. south g n ss x m (y + 1) q (omega arith)) where
  by : (v : Bool) → v ≡ ltb (y + 1) n.boards_y → (y + 1 < n.boards_y → total (board_weight g ss x) (suc (y + 1)) + weigh g (column_hops n ss 2 m (neighbour n 2 (at x (y + 1)))) ≡ total (board_weight g ss x) n.boards_y)
      → total (board_weight g ss x) (suc y) + weigh g (column_hops n ss 2 (suc m) (cond v (Some (at x (y + 1))) None)) ≡ total (board_weight g ss x) n.boards_y
  by true e r =
      let i = r (is_lt (y + 1) n.boards_y e) in
      let a = weigh-append g (here ss (at x (y + 1)) 16) (column_hops n ss 2 m (neighbour n 2 (at x (y + 1)))) in
      let s = total-suc (board_weight g ss x) (y + 1) in
      let t : total (board_weight g ss x) (y + 1) ≡ total (board_weight g ss x) (suc y) = ap (total (board_weight g ss x)) (omega arith) in
      omega arith
  by false e r =
      let le = not_lt (y + 1) n.boards_y e in
      let i : suc y ≡ n.boards_y = omega arith in
      let t = ap (total (board_weight g ss x)) i in omega arith

back_of : (p : ℕ) → ltb 0 (suc p) ≡ true
back_of p = grind (arith, nat_tests)

north_of : (n : ShapeNumbers) (x y : ℕ) → neighbour n 3 (at x (suc y)) ≡ Some (at x y)
north_of n x y = let i : suc y - 1 ≡ y = omega arith in ap (λ v. cond v (Some (at x (suc y - 1))) None) (back_of y) ∙ ap (λ j. Some (at x j)) i

west_of : (n : ShapeNumbers) (x y : ℕ) → neighbour n 1 (at (suc x) y) ≡ Some (at x y)
west_of n x y = let i : suc x - 1 ≡ x = omega arith in ap (λ v. cond v (Some (at (suc x - 1) y)) None) (back_of x) ∙ ap (λ j. Some (at j y)) i

north : (g : Hop → ℕ) (n : ShapeNumbers) (ss : List Spot) (x m y : ℕ) → y ≤ m → weigh g (column_hops n ss 3 m (neighbour n 3 (at x y))) ≡ total (board_weight g ss x) y
north g n ss x zero zero l = sym (total_nothing (board_weight g ss x))
north g n ss x zero (suc y) l = absurd (omega arith)
north g n ss x (suc m) zero l = sym (total_nothing (board_weight g ss x))
north g n ss x (suc m) (suc y) l =
    let r = north g n ss x m y (omega arith) in
    let a = weigh-append g (here ss (at x y) 16) (column_hops n ss 3 m (neighbour n 3 (at x y))) in
    let s = total-suc (board_weight g ss x) y in
    let e = ap (λ o. weigh g (column_hops n ss 3 (suc m) o)) (north_of n x y) in
    omega arith

-- a board with its two columns weighs as its whole column
pub board_column : (g : Hop → ℕ) (n : ShapeNumbers) (ss : List Spot) (x y : ℕ) → y < n.boards_y
    → weigh g (here ss (at x y) 16) + (weigh g (column_hops n ss 2 n.boards_y (neighbour n 2 (at x y))) + weigh g (column_hops n ss 3 n.boards_y (neighbour n 3 (at x y)))) ≡ column_weight g ss n.boards_y x
unfolding column_weight
board_column g n ss x y h =
    let a = south g n ss x n.boards_y y h (omega arith) in
    let b = north g n ss x n.boards_y y (omega arith) in
    let s = total-suc (board_weight g ss x) y in
    omega arith

-- a board of a row, with what follows it
row_step : (g : Hop → ℕ) (n : ShapeNumbers) (ss : List Spot) (d m x y : ℕ) → y < n.boards_y
    → weigh g (row_hops n ss d (suc m) (Some (at x y))) ≡ column_weight g ss n.boards_y x + weigh g (row_hops n ss d m (neighbour n d (at x y)))
row_step g n ss d m x y h =
    let c2 = column_hops n ss 2 n.boards_y (neighbour n 2 (at x y)) in
    let c3 = column_hops n ss 3 n.boards_y (neighbour n 3 (at x y)) in
    let ahead = row_hops n ss d m (neighbour n d (at x y)) in
    let a = weigh-append g (here ss (at x y) 16) (ahead ++ (c2 ++ c3)) in
    let b = weigh-append g ahead (c2 ++ c3) in
    let c = weigh-append g c2 c3 in
    let e = board_column g n ss x y h in
    omega arith

east : (g : Hop → ℕ) (n : ShapeNumbers) (ss : List Spot) (m x y : ℕ) → y < n.boards_y → x < n.boards_x → n.boards_x ≤ suc x + m
    → total (column_weight g ss n.boards_y) (suc x) + weigh g (row_hops n ss 0 m (neighbour n 0 (at x y))) ≡ total (column_weight g ss n.boards_y) n.boards_x
east g n ss zero x y hy h l = let e : suc x ≡ n.boards_x = omega arith in let t = ap (total (column_weight g ss n.boards_y)) e in omega arith
east g n ss (suc m) x y hy h l = by (ltb (x + 1) n.boards_x) refl (λ q. east g n ss m (x + 1) y hy q (omega arith)) where
  by : (v : Bool) → v ≡ ltb (x + 1) n.boards_x → (x + 1 < n.boards_x → total (column_weight g ss n.boards_y) (suc (x + 1)) + weigh g (row_hops n ss 0 m (neighbour n 0 (at (x + 1) y))) ≡ total (column_weight g ss n.boards_y) n.boards_x)
      → total (column_weight g ss n.boards_y) (suc x) + weigh g (row_hops n ss 0 (suc m) (cond v (Some (at (x + 1) y)) None)) ≡ total (column_weight g ss n.boards_y) n.boards_x
  by true e r =
      let i = r (is_lt (x + 1) n.boards_x e) in
      let a = row_step g n ss 0 m (x + 1) y hy in
      let s = total-suc (column_weight g ss n.boards_y) (x + 1) in
      let t : total (column_weight g ss n.boards_y) (x + 1) ≡ total (column_weight g ss n.boards_y) (suc x) = ap (total (column_weight g ss n.boards_y)) (omega arith) in
      omega arith
  by false e r =
      let le = not_lt (x + 1) n.boards_x e in
      let i : suc x ≡ n.boards_x = omega arith in
      let t = ap (total (column_weight g ss n.boards_y)) i in omega arith

west : (g : Hop → ℕ) (n : ShapeNumbers) (ss : List Spot) (m x y : ℕ) → y < n.boards_y → x ≤ m → weigh g (row_hops n ss 1 m (neighbour n 1 (at x y))) ≡ total (column_weight g ss n.boards_y) x
west g n ss zero zero y hy l = sym (total_nothing (column_weight g ss n.boards_y))
west g n ss zero (suc x) y hy l = absurd (omega arith)
west g n ss (suc m) zero y hy l = sym (total_nothing (column_weight g ss n.boards_y))
west g n ss (suc m) (suc x) y hy l =
    let r = west g n ss m x y hy (omega arith) in
    let a = row_step g n ss 1 m x y hy in
    let s = total-suc (column_weight g ss n.boards_y) x in
    let e = ap (λ o. weigh g (row_hops n ss 1 (suc m) o)) (west_of n x y) in
    omega arith

-- the whole tree weighs as all columns
pub weigh_tree : (g : Hop → ℕ) (n : ShapeNumbers) (ss : List Spot) (x y : ℕ) → x < n.boards_x → y < n.boards_y → weigh g (tree_hops n ss (at x y)) ≡ total (column_weight g ss n.boards_y) n.boards_x
weigh_tree g n ss x y hx hy =
    let c2 = column_hops n ss 2 n.boards_y (neighbour n 2 (at x y)) in
    let c3 = column_hops n ss 3 n.boards_y (neighbour n 3 (at x y)) in
    let r0 = row_hops n ss 0 n.boards_x (neighbour n 0 (at x y)) in
    let r1 = row_hops n ss 1 n.boards_x (neighbour n 1 (at x y)) in
    let a = weigh-append g (here ss (at x y) 16) (r0 ++ (r1 ++ (c2 ++ c3))) in
    let b = weigh-append g r0 (r1 ++ (c2 ++ c3)) in
    let c = weigh-append g r1 (c2 ++ c3) in
    let d = weigh-append g c2 c3 in
    let e = east g n ss n.boards_x x y hy hx (omega arith) in
    let w = west g n ss n.boards_x x y hy (omega arith) in
    let s = total-suc (column_weight g ss n.boards_y) x in
    let k = board_column g n ss x y hy in
    omega arith
