-- The tree of a pin without edges: nothing is planted.
use Rattle.std.proofs.Common.{◌≡◌, ℕ, suc, zero, ◌+◌, eqb, Bool, true, false, List, [], ◌∷◌, ◌++◌, append-nil, length, map, refl, sym, ◌∙◌, ap, arith, Option, Some, None, Ok}
use Rattle.std.proofs.lemmas.Bool.Decides.{nat_tests}
use Rattle.std.proofs.lemmas.List.{nil_from_length, set-get_or}
use Rattle.std.specs.List.{flat_map, range_with_len}
use Rattle.tn_base.specs.declared.ids.Board.{Board}
use Rattle.tn_base.specs.declared.shape.ShapeNumbers.{ShapeNumbers}
use Rattle.tn_keys.specs.Copies.{neighbour}
use Rattle.tn_keys.specs.Tables.{Table, board_place, table_of}
use Rattle.tn_keys.specs.declared.record.RouteRec.{RouteRec}
use Rattle.polite_routes.specs.declared.target.Spot.{Spot}
use Rattle.polite_routes.specs.declared.tree.Child.{Child}
use Rattle.polite_routes.specs.declared.target.Target.{Target}
use Rattle.polite_routes.specs.Full.{Gives, is_full}
use Rattle.polite_routes.specs.Pack.{key_for, with_records}
use Rattle.polite_routes.specs.Targets.{spot_at, spot_for, spots_for}
use Rattle.polite_routes.specs.Tree.{Planted, child, column, mrm, mrms, no_key, planted, row, rrs, tile_index, tree, tree_records}

-- no tile has a mask
pub record Blank (spots : List Spot) : Type 0 where
  pub blank : (i : ℕ) → (spot_at spots i).mask ≡ 0

none_of : (f : ℕ → List RouteRec) (a m : ℕ) → ((i : ℕ) → f i ≡ []) → flat_map f (range_with_len a m) ≡ []
none_of f a zero h = refl
none_of f a (suc m) h = ap (λ xs. xs ++ flat_map f (range_with_len (a + 1) m)) (h a) ∙ none_of f (a + 1) m h

no_mrms : (spots : List Spot) (b : Board) (count : ℕ) → Blank spots → mrms spots b count ≡ []
unfolding mrms
no_mrms spots b count h = none_of (λ tile. mrm tile (spot_at spots (tile_index b tile))) 0 count (λ i. one i) where
  one : (i : ℕ) → mrm i (spot_at spots (tile_index b i)) ≡ []
  one i = let e = h.blank (tile_index b i) in rw e refl

no_records : (n : ShapeNumbers) (b : Board) (ts : List Table) → with_records n b [] ts ≡ ts
unfolding with_records
no_records n b ts = rw (append-nil (table_of n ts b)) (set-get_or ts (board_place n b) [])

no_key_for : (n : ShapeNumbers) (b : Board) (ts : List Table) → key_for n b [] ts ≡ None
unfolding key_for
no_key_for n b ts = refl

plant_none : (n : ShapeNumbers) (spots : List Spot) (b : Board) (cs : List Child) (ts : List Table) → Blank spots → rrs cs ≡ [] → planted n spots b cs ts ≡ no_key ts
plant_none n spots b cs ts h e =
    let rs : tree_records spots b cs ≡ [] = ap (λ xs. xs ++ rrs cs) (no_mrms spots b 16 h) ∙ e in
    ap (λ xs. planted_by n b xs ts) rs ∙ both where
      planted_by : ShapeNumbers → Board → List RouteRec → List Table → Planted
      planted_by n b xs ts = record { tables = with_records n b xs ts; key = key_for n b xs ts }

      both : planted_by n b [] ts ≡ no_key ts
      both = ap (λ us. let p : Planted = record { tables = us; key = key_for n b [] ts } in p) (no_records n b ts) ∙ ap (λ k. let p : Planted = record { tables = ts; key = k } in p) (no_key_for n b ts)

column_none : (n : ShapeNumbers) (spots : List Spot) (dir most : ℕ) (at : Option Board) (ts : List Table) → Blank spots → column n spots dir most at ts ≡ no_key ts
column_none n spots dir zero at ts h = refl
column_none n spots dir (suc most) None ts h = refl
column_none n spots dir (suc most) (Some b) ts h =
    ap (λ (q : Planted). planted n spots b (child dir q.key ∷ []) q.tables) (column_none n spots dir most (neighbour n dir b) ts h)
    ∙ plant_none n spots b (child dir None ∷ []) ts h refl

row_none : (n : ShapeNumbers) (spots : List Spot) (dir most : ℕ) (at : Option Board) (ts : List Table) → Blank spots → row n spots dir most at ts ≡ no_key ts
row_none n spots dir zero at ts h = refl
row_none n spots dir (suc most) None ts h = refl
row_none n spots dir (suc most) (Some b) ts h =
    rw (row_none n spots dir most (neighbour n dir b) ts h, column_none n spots 2 n.boards_y (neighbour n 2 b) ts h, column_none n spots 3 n.boards_y (neighbour n 3 b) ts h)
    (plant_none n spots b (child dir None ∷ child 2 None ∷ child 3 None ∷ []) ts h refl)

pub tree_none : (n : ShapeNumbers) (spots : List Spot) (b : Board) (ts : List Table) → Blank spots → tree n spots b ts ≡ no_key ts
tree_none n spots b ts h =
    rw (row_none n spots 0 n.boards_x (neighbour n 0 b) ts h, row_none n spots 1 n.boards_x (neighbour n 1 b) ts h, column_none n spots 2 n.boards_y (neighbour n 2 b) ts h, column_none n spots 3 n.boards_y (neighbour n 3 b) ts h)
    (plant_none n spots b (child 0 None ∷ child 1 None ∷ child 2 None ∷ child 3 None ∷ []) ts h refl)

blank_by : (f : ℕ → ℕ) (a m i : ℕ) → (spot_at (map (spot_for [] f) (range_with_len a m)) i).mask ≡ 0
blank_by f a zero i = refl
blank_by f a (suc m) zero = refl
blank_by f a (suc m) (suc i) = blank_by f (a + 1) m i

pub blank_spots : (f : ℕ → ℕ) → Blank (spots_for [] f)
unfolding spots_for
blank_spots f = record { blank = λ i. blank_by f 0 256 i }

-- the tree of no edges
pub bare_tree : (n : ShapeNumbers) (f : ℕ → ℕ) (b : Board) (ts : List Table) → tree n (spots_for [] f) b ts ≡ no_key ts
bare_tree n f b ts = tree_none n (spots_for [] f) b ts (blank_spots f)

pub gives_none : (n : ShapeNumbers) (f : ℕ → ℕ) (b : Board) (ts : List Table) (targets : List Target) → targets ≡ [] → is_full ts ≡ false → Gives (Ok None) ts (tree n (spots_for targets f) b ts).tables (tree n (spots_for targets f) b ts).key
gives_none n f b ts targets h short =
    let e : tree n (spots_for targets f) b ts ≡ no_key ts = ap (λ xs. tree n (spots_for xs f) b ts) h ∙ bare_tree n f b ts in
    (sym (ap (λ (q : Planted). q.key) e), sym (ap (λ (q : Planted). q.tables) e), ap (λ (q : Planted). is_full q.tables) e ∙ short)

pub no_targets : (ts slice : List Target) (v : Bool) → v ≡ true → v ≡ eqb (length slice) 0 → slice ≡ ts → ts ≡ []
no_targets ts slice v h e s = let z : length slice ≡ 0 = grind (arith, nat_tests) in sym s ∙ nil_from_length slice z
