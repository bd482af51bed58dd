-- What hops find is each edge once.
use Rattle.std.proofs.Common.{◌≡◌, ◌<◌, ◌≤◌, ℕ, suc, zero, ◌+◌, ◌-◌, ◌*◌, ◌/◌, ◌%◌, eqb, cond, Bool, true, false, ◌||◌, List, [], ◌∷◌, get_or, map, refl, sym, ◌∙◌, ap, arith}
use Rattle.std.proofs.lemmas.Bool.Decides.{nat_tests}
use Rattle.std.proofs.lemmas.Bool.{and_parts, ltb-true, or_parts}
use Rattle.std.proofs.lemmas.List.Sums.{sum_by-cons}
use Rattle.std.specs.Int.{bit_at}
use Rattle.std.specs.List.{All, filter, list_any, sum_by}
use Rattle.tn_base.specs.declared.ids.Board.{Board}
use Rattle.tn_base.specs.declared.shape.ShapeNumbers.{ShapeNumbers}
use Rattle.tn_base.specs.Address.{has_thread}
use Rattle.tn_base.specs.Shape.{WithinLimits}
use Rattle.tn_keys.specs.Copies.{each_below, only_if, tile_address}
use Rattle.tn_sums.specs.Totals.{total, weigh}
use Rattle.tn_sums.proofs.Laws.{total-plus, total-suc, total_blocks, total_grid, total_nothing, total_one, total_same, total_zero, weigh-append, weigh_is}
use Rattle.polite_switch.specs.declared.device.InEdge.{InEdge}
use Rattle.polite_routes.specs.declared.target.Spot.{Spot}
use Rattle.polite_routes.specs.declared.target.Target.{Target}
use Rattle.polite_routes.specs.Hops.{Hop, hop}
use Rattle.polite_routes.specs.Once.{AllThere, EachOnce, Listed, Lists}
use Rattle.polite_routes.specs.Targets.{edges_to, mask_of, reaches, spot_at, spot_for, spots_for}
use Rattle.polite_routes.specs.Tree.{tile_index}
use Rattle.polite_routes.proofs.Grid.{at, board_weight, column_weight, weigh_tree}
use Rattle.polite_routes.proofs.Leading.{here, mask_hops, spot_hops}
use Rattle.polite_routes.proofs.Marks.{mask_bit, no_bits, spot_is, to, to_tile}
use Rattle.polite_routes.proofs.Ranges.{below_suc}
use Rattle.polite_routes.proofs.Trees.{tree_hops}

-- a list over a range weighs as the sum
pub weigh_below : (g : Hop → ℕ) (f : ℕ → List Hop) (n : ℕ) → weigh g (each_below n f) ≡ total (λ i. weigh g (f i)) n
weigh_below g f zero = sym (total_nothing (λ i. weigh g (f i)))
weigh_below g f (suc n) =
    let r = weigh_below g f n in
    let e = ap (weigh g) (below_suc f n) in
    let a = weigh-append g (each_below n f) (f n) in
    let s = total-suc (λ i. weigh g (f i)) n in
    omega arith

-- the edges to a thread, and what they weigh
abbrev pub those : List Target → ℕ → List Target
those ts a = filter (to a) ts

abbrev pub Weight : Type 0
Weight = ℕ → InEdge → ℕ → ℕ

pub those_weight : Weight → (ℕ → ℕ) → List Target → ℕ → ℕ
those_weight w local ts a = weigh (λ (t : Target). w a t.edge (local (a / 64))) (those ts a)

weigh_map : (f : InEdge → ℕ) (ts : List Target) → weigh f (map (λ (t : Target). t.edge) ts) ≡ weigh (λ (t : Target). f t.edge) ts
weigh_map f [] = refl
weigh_map f (t ∷ ts) = ap (λ k. f t.edge + k) (weigh_map f ts)

-- what a hop finds
pub found_weight : Weight → Lists → Hop → ℕ
found_weight w lists h = weigh (λ e. w h.receiver e h.local) (lists h.receiver h.local)

none_those : (ts : List Target) (a : ℕ) → list_any (to a) ts ≡ false → those ts a ≡ []
none_those [] a h = refl
none_those (t ∷ ts) a h = let p = or_parts (to a t) (list_any (to a) ts) h in ap (λ b. cond b (t ∷ those ts a) (those ts a)) p.0 ∙ none_those ts a p.1

-- the hop of a thread, where its bit is set, finds its edges
bit_weight : (w : Weight) (lists : Lists) (ts : List Target) (local : ℕ → ℕ) (i k : ℕ) (v : Bool) → k < 64 → Listed lists ts local → eqb (bit_at (mask_of ts i) k) 1 ≡ v
    → weigh (found_weight w lists) (only_if v (hop (i * 64 + k) (local i))) ≡ those_weight w local ts (i * 64 + k)
unfolding those_weight found_weight
bit_weight w lists ts local i k true h l e =
    let a : ℕ = i * 64 + k in
    let d : a / 64 ≡ i = omega arith in
    let any : list_any (to a) ts ≡ true = sym (mask_bit ts i k h) ∙ e in
    let r : reaches ts (a / 64) ≡ true = to_tile ts a any in
    let f : lists a (local i) ≡ edges_to ts a = ap (λ j. lists a (local j)) (sym d) ∙ l.listed a r in
    let x : weigh (λ e. w a e (local i)) (lists a (local i)) ≡ weigh (λ (t : Target). w a t.edge (local i)) (those ts a) = ap (weigh (λ e. w a e (local i))) f ∙ weigh_map (λ e. w a e (local i)) (those ts a) in
    let y : weigh (λ (t : Target). w a t.edge (local i)) (those ts a) ≡ weigh (λ (t : Target). w a t.edge (local (a / 64))) (those ts a) = ap (λ j. weigh (λ (t : Target). w a t.edge (local j)) (those ts a)) (sym d) in
    omega arith
bit_weight w lists ts local i k false h l e =
    let none : those ts (i * 64 + k) ≡ [] = none_those ts (i * 64 + k) (sym (mask_bit ts i k h) ∙ e) in
    ap (weigh (λ (t : Target). w (i * 64 + k) t.edge (local ((i * 64 + k) / 64)))) (sym none)

tile_weight : Weight → (ℕ → ℕ) → List Target → ℕ → ℕ
tile_weight w local ts i = total (λ k. those_weight w local ts (i * 64 + k)) 64

-- a tile's hops find the edges to its threads
spot_weight : (w : Weight) (lists : Lists) (ts : List Target) (earlier : ℕ → ℕ) (i a : ℕ) (v : Bool) → a ≡ i * 64 → Listed lists ts earlier → eqb (mask_of ts i) 0 ≡ v
    → weigh (found_weight w lists) (cond v [] (mask_hops a (cond v 0 (earlier i)) (mask_of ts i))) ≡ tile_weight w earlier ts i
unfolding mask_hops tile_weight those_weight
spot_weight w lists ts earlier i a true ea l e =
    sym (total_same (λ k. weigh (λ (t : Target). w (i * 64 + k) t.edge (earlier ((i * 64 + k) / 64))) (those ts (i * 64 + k))) (λ _. 0) 64
    (λ k h. ap (weigh (λ (t : Target). w (i * 64 + k) t.edge (earlier ((i * 64 + k) / 64)))) (none_those ts (i * 64 + k) (no_bits ts i k h e))) ∙ total_zero 64)
spot_weight w lists ts earlier i a false ea l e =
    weigh_below (found_weight w lists) (λ k. only_if (eqb (bit_at (mask_of ts i) k) 1) (hop (a + k) (earlier i))) 64
    ∙ total_same (λ k. weigh (found_weight w lists) (only_if (eqb (bit_at (mask_of ts i) k) 1) (hop (a + k) (earlier i)))) (λ k. those_weight w earlier ts (i * 64 + k)) 64
    (λ k h. ap (λ b. weigh (found_weight w lists) (only_if (eqb (bit_at (mask_of ts i) k) 1) (hop (b + k) (earlier i)))) ea ∙ bit_weight w lists ts earlier i k (eqb (bit_at (mask_of ts i) k) 1) h l refl)

-- a board's hops
board_is : (w : Weight) (lists : Lists) (ts : List Target) (earlier : ℕ → ℕ) (x y : ℕ) → x < 4 → y < 4 → Listed lists ts earlier
    → board_weight (found_weight w lists) (spots_for ts earlier) x y ≡ total (λ tile. tile_weight w earlier ts ((y * 4 + x) * 16 + tile)) 16
unfolding here
board_is w lists ts earlier x y hx hy l =
    let ss : List Spot = spots_for ts earlier in
    let b : Board = at x y in
    weigh_below (found_weight w lists) (λ tile. spot_hops (tile_address b tile) (spot_at ss (tile_index b tile))) 16
    ∙ total_same (λ tile. weigh (found_weight w lists) (spot_hops (tile_address b tile) (spot_at ss (tile_index b tile)))) (λ tile. tile_weight w earlier ts ((y * 4 + x) * 16 + tile)) 16
    (λ tile h.
    let i : tile_index b tile ≡ (y * 4 + x) * 16 + tile = omega arith in
    let small : tile_index b tile < 256 = omega arith in
    let s : spot_at ss (tile_index b tile) ≡ spot_for ts earlier (tile_index b tile) = spot_is ts earlier (tile_index b tile) small in
    ap (λ q. weigh (found_weight w lists) (spot_hops (tile_address b tile) q)) s
    ∙ spot_weight w lists ts earlier (tile_index b tile) (tile_address b tile) (eqb (mask_of ts (tile_index b tile)) 0) (omega arith) l refl
    ∙ ap (tile_weight w earlier ts) i)

-- more places that weigh nothing
total_more : (f : ℕ → ℕ) (m k : ℕ) → ((i : ℕ) → m ≤ i → i < m + k → f i ≡ 0) → total f (m + k) ≡ total f m
total_more f m zero h = ap (total f) (omega arith)
total_more f m (suc k) h =
    let e : m + suc k ≡ suc (m + k) = omega arith in
    let t = ap (total f) e in
    let s = total-suc f (m + k) in
    let z = h (m + k) (omega arith) (omega arith) in
    let r = total_more f m k (λ i a b. h i a (omega arith)) in
    omega arith

total_four : (f : ℕ → ℕ) (m : ℕ) → m ≤ 4 → ((i : ℕ) → m ≤ i → i < 4 → f i ≡ 0) → total f 4 ≡ total f m
total_four f m l h = let e : m + (4 - m) ≡ 4 = omega arith in ap (total f) (sym e) ∙ total_more f m (4 - m) (λ i a b. h i a (omega arith))

weigh_first : (w : Weight) (local : ℕ → ℕ) (t : Target) (ts : List Target) (a : ℕ) → those_weight w local (t ∷ ts) a ≡ cond (eqb t.thread.0 a) (w t.thread.0 t.edge (local (t.thread.0 / 64))) 0 + those_weight w local ts a
unfolding those_weight
weigh_first w local t ts a = by (eqb t.thread.0 a) refl where
  by : (v : Bool) → v ≡ eqb t.thread.0 a → weigh (λ (t : Target). w a t.edge (local (a / 64))) (cond v (t ∷ those ts a) (those ts a)) ≡ cond v (w t.thread.0 t.edge (local (t.thread.0 / 64))) 0 + weigh (λ (t : Target). w a t.edge (local (a / 64))) (those ts a)
  by true e = let i : a ≡ t.thread.0 = grind (arith, nat_tests) in ap (λ b. w b t.edge (local (b / 64)) + weigh (λ (t : Target). w a t.edge (local (a / 64))) (those ts a)) i
  by false e = omega arith

nothing_to : (w : Weight) (local : ℕ → ℕ) (a : ℕ) → those_weight w local [] a ≡ 0
unfolding those_weight
nothing_to w local a = refl

-- the edges to each thread are together all edges
all_edges : (w : Weight) (local : ℕ → ℕ) (n : ℕ) (ts : List Target) → All (λ (t : Target). t.thread.0 < n) ts → total (those_weight w local ts) n ≡ weigh (λ (t : Target). w t.thread.0 t.edge (local (t.thread.0 / 64))) ts
all_edges w local n [] h = total_same (those_weight w local []) (λ _. 0) n (λ a l. nothing_to w local a) ∙ total_zero n
all_edges w local n (t ∷ ts) h =
    let b : t.thread.0 < n = h 0 t (omega arith) in
    let r = all_edges w local n ts (λ k d l. h (suc k) d (omega arith)) in
    let first = total_same (those_weight w local (t ∷ ts)) (λ a. cond (eqb t.thread.0 a) (w t.thread.0 t.edge (local (t.thread.0 / 64))) 0 + those_weight w local ts a) n (λ a l. weigh_first w local t ts a) in
    let plus = total-plus (λ a. cond (eqb t.thread.0 a) (w t.thread.0 t.edge (local (t.thread.0 / 64))) 0) (those_weight w local ts) n in
    let one = total_one t.thread.0 (w t.thread.0 t.edge (local (t.thread.0 / 64))) n b in
    omega arith

-- what an address of a thread tells
pub record Parts (n : ShapeNumbers) (a : ℕ) : Type 0 where
  pub small : a < 16384
  pub tile_x : a / 64 % 4 < n.tiles_x
  pub tile_y : a / 256 % 4 < n.tiles_y
  pub board_x : a / 1024 % 4 < n.boards_x
  pub board_y : a / 4096 % 4 < n.boards_y
  pub thread : a % 16 < n.threads
  pub core : a / 16 % 4 < n.cores

pub parts : (n : ShapeNumbers) (a : ℕ) → has_thread n a ≡ true → Parts n a
parts n a h =
    let p = and_parts _ _ h in
    let q = and_parts _ _ p.0 in
    let r = and_parts _ _ q.0 in
    let s = and_parts _ _ r.0 in
    let t = and_parts _ _ s.0 in
    let u = and_parts _ _ t.0 in
    record { small = ltb-true _ _ u.0; tile_x = ltb-true _ _ u.1; tile_y = ltb-true _ _ t.1; board_x = ltb-true _ _ s.1; board_y = ltb-true _ _ r.1; thread = ltb-true _ _ q.1; core = ltb-true _ _ p.1 }

pub not_to : (n : ShapeNumbers) (ts : List Target) (a : ℕ) → All (λ (t : Target). has_thread n t.thread.0 ≡ true) ts → (has_thread n a ≡ true → ⊥) → list_any (to a) ts ≡ false
not_to n [] a h f = refl
not_to n (t ∷ ts) a h f = by (eqb t.thread.0 a) refl (h 0 t (omega arith)) (not_to n ts a (λ k d l. h (suc k) d (omega arith)) f) where
  by : (v : Bool) → v ≡ eqb t.thread.0 a → has_thread n t.thread.0 ≡ true → list_any (to a) ts ≡ false → (v || list_any (to a) ts) ≡ false
  by true e g r = let i : t.thread.0 ≡ a = grind (arith, nat_tests) in absurd (f (ap (has_thread n) (sym i) ∙ g))
  by false e g r = r

-- a board that is not there has no edges
abbrev board_total : Weight → (ℕ → ℕ) → List Target → ℕ → ℕ
board_total w local ts j = total (λ tile. tile_weight w local ts (j * 16 + tile)) 16

off_thread : (w : Weight) (local : ℕ → ℕ) (n : ShapeNumbers) (ts : List Target) (a : ℕ) → All (λ (t : Target). has_thread n t.thread.0 ≡ true) ts → (has_thread n a ≡ true → ⊥) → those_weight w local ts a ≡ 0
unfolding those_weight
off_thread w local n ts a h f = ap (weigh (λ (t : Target). w a t.edge (local (a / 64)))) (none_those ts a (not_to n ts a h f))

off_board : (w : Weight) (local : ℕ → ℕ) (n : ShapeNumbers) (ts : List Target) (x y : ℕ) → AllThere n ts → x < 4 → y < 4 → (x < n.boards_x → y < n.boards_y → ⊥) → board_total w local ts (y * 4 + x) ≡ 0
unfolding tile_weight
off_board w local n ts x y h hx hy f =
    total_same (λ tile. total (λ k. those_weight w local ts (((y * 4 + x) * 16 + tile) * 64 + k)) 64) (λ _. 0) 16
    (λ tile ht.
    total_same (λ k. those_weight w local ts (((y * 4 + x) * 16 + tile) * 64 + k)) (λ _. 0) 64
    (λ k hk. off_thread w local n ts (((y * 4 + x) * 16 + tile) * 64 + k) h.there
    (λ g.
    let p = parts n (((y * 4 + x) * 16 + tile) * 64 + k) g in
    let bx = p.board_x in
    let by = p.board_y in
    let ex : (((y * 4 + x) * 16 + tile) * 64 + k) / 1024 % 4 ≡ x = omega arith in
    let ey : (((y * 4 + x) * 16 + tile) * 64 + k) / 4096 % 4 ≡ y = omega arith in
    f (omega arith) (omega arith)))
    ∙ total_zero 64)
    ∙ total_zero 16

sums_same : {X : Type 0} (f g : X → ℕ) (xs : List X) → ((x : X) → f x ≡ g x) → sum_by f xs ≡ weigh g xs
sums_same f g [] h = refl
sums_same f g (x ∷ xs) h = let e = sum_by-cons f x xs in let a = h x in let r = sums_same f g xs h in omega arith

found_is : (w : Weight) (lists : Lists) (h : Hop) → sum_by (λ e. w h.receiver e h.local) (lists h.receiver h.local) ≡ found_weight w lists h
unfolding found_weight
found_is w lists h = sym (weigh_is (λ e. w h.receiver e h.local) (lists h.receiver h.local))

all_boards : (w : Weight) (local : ℕ → ℕ) (n : ShapeNumbers) (ts : List Target) → WithinLimits n → AllThere n ts → total (λ x. total (λ y. board_total w local ts (y * 4 + x)) n.boards_y) n.boards_x ≡ weigh (λ (t : Target). w t.thread.0 t.edge (local (t.thread.0 / 64))) ts
unfolding tile_weight
all_boards w local n ts l h =
    total_same (λ x. total (λ y. board_total w local ts (y * 4 + x)) n.boards_y) (λ x. total (λ y. board_total w local ts (y * 4 + x)) 4) n.boards_x
    (λ x hx. let m = l.boards_x.1 in sym (total_four (λ y. board_total w local ts (y * 4 + x)) n.boards_y l.boards_y.1 (λ y a b. off_board w local n ts x y h (omega arith) b (λ p q. omega arith))))
    ∙ sym (total_four (λ x. total (λ y. board_total w local ts (y * 4 + x)) 4) n.boards_x l.boards_x.1
    (λ x a b. total_same (λ y. board_total w local ts (y * 4 + x)) (λ _. 0) 4 (λ y c. off_board w local n ts x y h b c (λ p q. omega arith)) ∙ total_zero 4))
    ∙ total_grid (board_total w local ts) 4 4
    ∙ total_blocks (tile_weight w local ts) 16 16
    ∙ total_blocks (those_weight w local ts) 64 256
    ∙ all_edges w local 16384 ts (λ k d q. (parts n (get_or ts k d).thread.0 (h.there k d q)).small)

-- what a tree reaches, with the in-edges, is each edge once
pub each_once : (n : ShapeNumbers) (ts : List Target) (earlier : ℕ → ℕ) (lists : Lists) (x y : ℕ) → WithinLimits n → x < n.boards_x → y < n.boards_y → AllThere n ts → Listed lists ts earlier → EachOnce lists (tree_hops n (spots_for ts earlier) (at x y)) ts earlier
unfolding column_weight
each_once n ts earlier lists x y l hx hy h f = record {
  once = λ w.
      sums_same (λ (q : Hop). sum_by (λ e. w q.receiver e q.local) (lists q.receiver q.local)) (found_weight w lists) (tree_hops n (spots_for ts earlier) (at x y)) (found_is w lists)
      ∙ weigh_tree (found_weight w lists) n (spots_for ts earlier) x y hx hy
      ∙ total_same (λ x. total (board_weight (found_weight w lists) (spots_for ts earlier) x) n.boards_y) (λ x. total (λ y. board_total w earlier ts (y * 4 + x)) n.boards_y) n.boards_x
      (λ i hi. total_same (board_weight (found_weight w lists) (spots_for ts earlier) i) (λ y. board_total w earlier ts (y * 4 + i)) n.boards_y
      (λ j hj. let mx = l.boards_x.1 in let my = l.boards_y.1 in board_is w lists ts earlier i j (omega arith) (omega arith) f))
      ∙ all_boards w earlier n ts l h
      ∙ weigh_is (λ (t : Target). w t.thread.0 t.edge (earlier (t.thread.0 / 64))) ts;
}
