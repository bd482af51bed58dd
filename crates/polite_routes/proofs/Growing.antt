-- A tree that is planted keeps a table that is too long.
use Rattle.std.proofs.Common.{◌≡◌, ℕ, suc, zero, true, List, ◌∷◌, [], refl, Option, Some, None}
use Rattle.tn_base.specs.declared.ids.Board.{Board}
use Rattle.tn_base.specs.declared.shape.ShapeNumbers.{ShapeNumbers}
use Rattle.tn_keys.specs.Copies.{neighbour}
use Rattle.tn_keys.specs.Tables.{Table}
use Rattle.polite_routes.specs.declared.target.Spot.{Spot}
use Rattle.polite_routes.specs.declared.tree.Child.{Child}
use Rattle.polite_routes.specs.Full.{is_full}
use Rattle.polite_routes.specs.Tree.{Planted, child, column, planted, row, tree}
use Rattle.polite_routes.proofs.Fullness.{full_grows}

pub full_planted : (n : ShapeNumbers) (ss : List Spot) (b : Board) (cs : List Child) (ts : List Table) → is_full ts ≡ true → is_full (planted n ss b cs ts).tables ≡ true
full_planted n ss b cs ts h = full_grows n b _ ts h

pub full_column : (n : ShapeNumbers) (ss : List Spot) (d m : ℕ) (at : Option Board) (ts : List Table) → is_full ts ≡ true → is_full (column n ss d m at ts).tables ≡ true
full_column n ss d zero at ts h = h
full_column n ss d (suc m) None ts h = h
full_column n ss d (suc m) (Some b) ts h = full_planted n ss b (child d (column n ss d m (neighbour n d b) ts).key ∷ []) (column n ss d m (neighbour n d b) ts).tables (full_column n ss d m (neighbour n d b) ts h)

pub full_row : (n : ShapeNumbers) (ss : List Spot) (d m : ℕ) (at : Option Board) (ts : List Table) → is_full ts ≡ true → is_full (row n ss d m at ts).tables ≡ true
full_row n ss d zero at ts h = h
full_row n ss d (suc m) None ts h = h
full_row n ss d (suc m) (Some b) ts h =
    let ahead : Planted = row n ss d m (neighbour n d b) ts in
    let below : Planted = column n ss 2 n.boards_y (neighbour n 2 b) ahead.tables in
    let above : Planted = column n ss 3 n.boards_y (neighbour n 3 b) below.tables in
    full_planted n ss b (child d ahead.key ∷ child 2 below.key ∷ child 3 above.key ∷ []) above.tables (full_column n ss 3 n.boards_y (neighbour n 3 b) below.tables (full_column n ss 2 n.boards_y (neighbour n 2 b) ahead.tables (full_row n ss d m (neighbour n d b) ts h)))

-- the equations of a step
pub column_is : (n : ShapeNumbers) (ss : List Spot) (d m k : ℕ) (at next : Option Board) (b : Board) (ts us : List Table) (key : Option ℕ) → m ≡ suc k → at ≡ Some b → next ≡ neighbour n d b → key ≡ (column n ss d k next ts).key → us ≡ (column n ss d k next ts).tables
    → planted n ss b (child d key ∷ []) us ≡ column n ss d m at ts
column_is n ss d m k at next b ts us key i a e p q = rw (i, a, ← e, ← p, ← q) refl

pub row_is : (n : ShapeNumbers) (ss : List Spot) (d m k : ℕ) (at next south north : Option Board) (b : Board) (ts us vs ws : List Table) (ahead below above : Option ℕ) → m ≡ suc k → at ≡ Some b → next ≡ neighbour n d b → south ≡ neighbour n 2 b → north ≡ neighbour n 3 b
    → ahead ≡ (row n ss d k next ts).key → us ≡ (row n ss d k next ts).tables
    → below ≡ (column n ss 2 n.boards_y south us).key → vs ≡ (column n ss 2 n.boards_y south us).tables
    → above ≡ (column n ss 3 n.boards_y north vs).key → ws ≡ (column n ss 3 n.boards_y north vs).tables
    → planted n ss b (child d ahead ∷ child 2 below ∷ child 3 above ∷ []) ws ≡ row n ss d m at ts
row_is n ss d m k at next south north b ts us vs ws ahead below above i a e f g p q r s t u = rw (i, a, ← e, ← f, ← g, ← p, ← q, ← r, ← s, ← t, ← u) refl

pub tree_is : (n : ShapeNumbers) (ss : List Spot) (east west south north : Option Board) (b : Board) (ts es us vs ws : List Table) (ahead behind below above : Option ℕ) → east ≡ neighbour n 0 b → west ≡ neighbour n 1 b → south ≡ neighbour n 2 b → north ≡ neighbour n 3 b
    → ahead ≡ (row n ss 0 n.boards_x east ts).key → es ≡ (row n ss 0 n.boards_x east ts).tables
    → behind ≡ (row n ss 1 n.boards_x west es).key → us ≡ (row n ss 1 n.boards_x west es).tables
    → below ≡ (column n ss 2 n.boards_y south us).key → vs ≡ (column n ss 2 n.boards_y south us).tables
    → above ≡ (column n ss 3 n.boards_y north vs).key → ws ≡ (column n ss 3 n.boards_y north vs).tables
    → planted n ss b (child 0 ahead ∷ child 1 behind ∷ child 2 below ∷ child 3 above ∷ []) ws ≡ tree n ss b ts
tree_is n ss east west south north b ts es us vs ws ahead behind below above e f g h p q r s t u v w = rw (← e, ← f, ← g, ← h, ← p, ← q, ← r, ← s, ← t, ← u, ← v, ← w) refl

-- a part that is too long makes the whole too long
pub column_full : (n : ShapeNumbers) (ss : List Spot) (d m k : ℕ) (at next : Option Board) (b : Board) (ts : List Table) → m ≡ suc k → at ≡ Some b → next ≡ neighbour n d b → is_full (column n ss d k next ts).tables ≡ true → is_full (column n ss d m at ts).tables ≡ true
column_full n ss d m k at next b ts i a e h =
    rw (i, a) (full_planted n ss b (child d (column n ss d k (neighbour n d b) ts).key ∷ []) (column n ss d k (neighbour n d b) ts).tables (rw e at h))

pub row_full_1 : (n : ShapeNumbers) (ss : List Spot) (d m k : ℕ) (at next : Option Board) (b : Board) (ts : List Table) → m ≡ suc k → at ≡ Some b → next ≡ neighbour n d b → is_full (row n ss d k next ts).tables ≡ true → is_full (row n ss d m at ts).tables ≡ true
row_full_1 n ss d m k at next b ts i a e h =
    let g : is_full (row n ss d k (neighbour n d b) ts).tables ≡ true = rw e at h in
    let ahead : Planted = row n ss d k (neighbour n d b) ts in
    let below : Planted = column n ss 2 n.boards_y (neighbour n 2 b) ahead.tables in
    let above : Planted = column n ss 3 n.boards_y (neighbour n 3 b) below.tables in
    rw (i, a) (full_planted n ss b (child d ahead.key ∷ child 2 below.key ∷ child 3 above.key ∷ []) above.tables (full_column n ss 3 n.boards_y (neighbour n 3 b) below.tables (full_column n ss 2 n.boards_y (neighbour n 2 b) ahead.tables g)))

pub row_full_2 : (n : ShapeNumbers) (ss : List Spot) (d m k : ℕ) (at next south : Option Board) (b : Board) (ts us : List Table) → m ≡ suc k → at ≡ Some b → next ≡ neighbour n d b → south ≡ neighbour n 2 b → us ≡ (row n ss d k next ts).tables
    → is_full (column n ss 2 n.boards_y south us).tables ≡ true → is_full (row n ss d m at ts).tables ≡ true
row_full_2 n ss d m k at next south b ts us i a e f u h =
    let g : is_full (column n ss 2 n.boards_y (neighbour n 2 b) (row n ss d k (neighbour n d b) ts).tables).tables ≡ true = rw (f, u, e) at h in
    let ahead : Planted = row n ss d k (neighbour n d b) ts in
    let below : Planted = column n ss 2 n.boards_y (neighbour n 2 b) ahead.tables in
    let above : Planted = column n ss 3 n.boards_y (neighbour n 3 b) below.tables in
    rw (i, a) (full_planted n ss b (child d ahead.key ∷ child 2 below.key ∷ child 3 above.key ∷ []) above.tables (full_column n ss 3 n.boards_y (neighbour n 3 b) below.tables g))

pub row_full_3 : (n : ShapeNumbers) (ss : List Spot) (d m k : ℕ) (at next south north : Option Board) (b : Board) (ts us vs : List Table) → m ≡ suc k → at ≡ Some b → next ≡ neighbour n d b → south ≡ neighbour n 2 b → north ≡ neighbour n 3 b
    → us ≡ (row n ss d k next ts).tables → vs ≡ (column n ss 2 n.boards_y south us).tables
    → is_full (column n ss 3 n.boards_y north vs).tables ≡ true → is_full (row n ss d m at ts).tables ≡ true
row_full_3 n ss d m k at next south north b ts us vs i a e f f2 u v h =
    let g : is_full (column n ss 3 n.boards_y (neighbour n 3 b) (column n ss 2 n.boards_y (neighbour n 2 b) (row n ss d k (neighbour n d b) ts).tables).tables).tables ≡ true = rw (f2, v, f, u, e) at h in
    let ahead : Planted = row n ss d k (neighbour n d b) ts in
    let below : Planted = column n ss 2 n.boards_y (neighbour n 2 b) ahead.tables in
    let above : Planted = column n ss 3 n.boards_y (neighbour n 3 b) below.tables in
    rw (i, a) (full_planted n ss b (child d ahead.key ∷ child 2 below.key ∷ child 3 above.key ∷ []) above.tables g)

-- the whole tree behind its parts
tree_end : (n : ShapeNumbers) (ss : List Spot) (b : Board) (ts : List Table) → is_full (column n ss 3 n.boards_y (neighbour n 3 b)
    (column n ss 2 n.boards_y (neighbour n 2 b) (row n ss 1 n.boards_x (neighbour n 1 b) (row n ss 0 n.boards_x (neighbour n 0 b) ts).tables).tables).tables).tables ≡ true → is_full (tree n ss b ts).tables ≡ true
tree_end n ss b ts h =
    let east : Planted = row n ss 0 n.boards_x (neighbour n 0 b) ts in
    let west : Planted = row n ss 1 n.boards_x (neighbour n 1 b) east.tables in
    let below : Planted = column n ss 2 n.boards_y (neighbour n 2 b) west.tables in
    let above : Planted = column n ss 3 n.boards_y (neighbour n 3 b) below.tables in
    full_planted n ss b (child 0 east.key ∷ child 1 west.key ∷ child 2 below.key ∷ child 3 above.key ∷ []) above.tables h

pub tree_full_1 : (n : ShapeNumbers) (ss : List Spot) (east : Option Board) (b : Board) (ts : List Table) → east ≡ neighbour n 0 b → is_full (row n ss 0 n.boards_x east ts).tables ≡ true → is_full (tree n ss b ts).tables ≡ true
tree_full_1 n ss east b ts e h =
    tree_end n ss b ts (full_column n ss 3 n.boards_y (neighbour n 3 b) _ (full_column n ss 2 n.boards_y (neighbour n 2 b) _ (full_row n ss 1 n.boards_x (neighbour n 1 b) _ (rw e at h))))

pub tree_full_2 : (n : ShapeNumbers) (ss : List Spot) (east west : Option Board) (b : Board) (ts es : List Table) → east ≡ neighbour n 0 b → west ≡ neighbour n 1 b → es ≡ (row n ss 0 n.boards_x east ts).tables
    → is_full (row n ss 1 n.boards_x west es).tables ≡ true → is_full (tree n ss b ts).tables ≡ true
tree_full_2 n ss east west b ts es e f u h =
    tree_end n ss b ts (full_column n ss 3 n.boards_y (neighbour n 3 b) _ (full_column n ss 2 n.boards_y (neighbour n 2 b) _ (rw (f, u, e) at h)))

pub tree_full_3 : (n : ShapeNumbers) (ss : List Spot) (east west south : Option Board) (b : Board) (ts es us : List Table) → east ≡ neighbour n 0 b → west ≡ neighbour n 1 b → south ≡ neighbour n 2 b → es ≡ (row n ss 0 n.boards_x east ts).tables → us ≡ (row n ss 1 n.boards_x west es).tables
    → is_full (column n ss 2 n.boards_y south us).tables ≡ true → is_full (tree n ss b ts).tables ≡ true
tree_full_3 n ss east west south b ts es us e f g u v h = tree_end n ss b ts (full_column n ss 3 n.boards_y (neighbour n 3 b) _ (rw (g, v, f, u, e) at h))

pub tree_full_4 : (n : ShapeNumbers) (ss : List Spot) (east west south north : Option Board) (b : Board) (ts es us vs : List Table) → east ≡ neighbour n 0 b → west ≡ neighbour n 1 b → south ≡ neighbour n 2 b → north ≡ neighbour n 3 b
    → es ≡ (row n ss 0 n.boards_x east ts).tables → us ≡ (row n ss 1 n.boards_x west es).tables → vs ≡ (column n ss 2 n.boards_y south us).tables
    → is_full (column n ss 3 n.boards_y north vs).tables ≡ true → is_full (tree n ss b ts).tables ≡ true
tree_full_4 n ss east west south north b ts es us vs e f g g2 u v w h = tree_end n ss b ts (rw (g2, w, g, v, f, u, e) at h)

pub full_tree : (n : ShapeNumbers) (ss : List Spot) (b : Board) (ts : List Table) → is_full ts ≡ true → is_full (tree n ss b ts).tables ≡ true
full_tree n ss b ts h = tree_full_1 n ss (neighbour n 0 b) b ts refl (full_row n ss 0 n.boards_x (neighbour n 0 b) ts h)
