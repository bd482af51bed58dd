-- The boards of a tree, each behind those to which it leads.
use Rattle.std.proofs.Common.{◌≡◌, ◌<◌, ◌≤◌, ℕ, suc, zero, ◌+◌, ◌-◌, eqb, ltb, cond, Bool, true, false, List, [], ◌∷◌, ◌++◌, length, append-nil, refl, sym, ◌∙◌, arith, Option, Some, None}
use Rattle.std.proofs.lemmas.Bool.Decides.{nat_tests}
use Rattle.std.proofs.lemmas.Nat.{mul-add-lt}
use Rattle.tn_base.specs.declared.ids.Board.{Board}
use Rattle.tn_base.specs.declared.shape.ShapeNumbers.{ShapeNumbers}
use Rattle.tn_base.specs.Parts.{board_count}
use Rattle.tn_keys.specs.Copies.{neighbour}
use Rattle.tn_keys.specs.Tables.{HasBoard, Table, board_place}
use Rattle.polite_routes.specs.declared.target.Spot.{Spot}
use Rattle.polite_routes.specs.declared.tree.Child.{Child}
use Rattle.polite_routes.specs.Hops.{Hop}
use Rattle.tn_keys.specs.declared.record.RouteRec.{RouteRec}
use Rattle.polite_routes.specs.Straight.{Straight, StraightRecords, may}
use Rattle.polite_routes.specs.Tree.{Planted, child, column, mrms, planted, row, rrs, tree, tree_records}
use Rattle.polite_routes.proofs.Grows.{Grows, grows_refl, grows_trans, grows_with, length_with}
use Rattle.polite_routes.proofs.Leading.{Follow, Leads, Sound, here, leads_grows, leads_none, leads_planted, leads_up, straight_mrms, straight_rrs}
use Rattle.polite_routes.proofs.Passing.{AllStraight, all_with}
use Rattle.polite_routes.proofs.Walks.{straight_any, straight_append, straight_map, straight_up}

-- a board, if it is there, is one of the machine
abbrev pub HasAt : ShapeNumbers → Option Board → Type 0
HasAt n None = Unit {0}
HasAt n (Some b) = HasBoard n b

has_if : (n : ShapeNumbers) (v : Bool) (b : Board) → (v ≡ true → HasBoard n b) → HasAt n (cond v (Some b) None)
has_if n true b h = h refl
has_if n false b h = tt

pub has_neighbour : (n : ShapeNumbers) (d : ℕ) (b : Board) → HasBoard n b → HasAt n (neighbour n d b)
has_neighbour n d b h = by (eqb d 0) (eqb d 1) (eqb d 2) where
  by : (p q r : Bool) → HasAt n (cond p (cond (ltb (b.x + 1) n.boards_x) (Some (record { x = b.x + 1; y = b.y })) None) (cond q (cond (ltb 0 b.x) (Some (record { x = b.x - 1; y = b.y })) None)
      (cond r (cond (ltb (b.y + 1) n.boards_y) (Some (record { x = b.x; y = b.y + 1 })) None) (cond (ltb 0 b.y) (Some (record { x = b.x; y = b.y - 1 })) None))))
  by true q r = has_if n (ltb (b.x + 1) n.boards_x) _ (λ e. (grind (arith, nat_tests), h.1))
  by false true r = has_if n (ltb 0 b.x) _ (λ e. (let x = h.0 in omega arith, h.1))
  by false false true = has_if n (ltb (b.y + 1) n.boards_y) _ (λ e. (h.0, grind (arith, nat_tests)))
  by false false false = has_if n (ltb 0 b.y) _ (λ e. (h.0, let y = h.1 in omega arith))

pub place_below : (n : ShapeNumbers) (b : Board) (ts : List Table) → HasBoard n b → length ts ≡ board_count n → board_place n b < length ts
place_below n b ts h e = let l = mul-add-lt b.y n.boards_x b.x n.boards_y h.1 h.0 in omega arith

-- the hops of the boards of a column, of a row and of a tree
abbrev pub column_hops : ShapeNumbers → List Spot → ℕ → ℕ → Option Board → List Hop
column_hops n ss d zero at = []
column_hops n ss d (suc m) None = []
column_hops n ss d (suc m) (Some b) = here ss b 16 ++ column_hops n ss d m (neighbour n d b)

abbrev pub row_hops : ShapeNumbers → List Spot → ℕ → ℕ → Option Board → List Hop
row_hops n ss d zero at = []
row_hops n ss d (suc m) None = []
row_hops n ss d (suc m) (Some b) =
    here ss b 16 ++ (row_hops n ss d m (neighbour n d b) ++ (column_hops n ss 2 n.boards_y (neighbour n 2 b) ++ column_hops n ss 3 n.boards_y (neighbour n 3 b)))

abbrev pub tree_hops : ShapeNumbers → List Spot → Board → List Hop
tree_hops n ss b =
    here ss b 16 ++ (row_hops n ss 0 n.boards_x (neighbour n 0 b) ++ (row_hops n ss 1 n.boards_x (neighbour n 1 b)
    ++ (column_hops n ss 2 n.boards_y (neighbour n 2 b) ++ column_hops n ss 3 n.boards_y (neighbour n 3 b))))

-- what planting leaves
pub record Plants (m : ℕ) (n : ShapeNumbers) (ts : List Table) (p : Planted) (last : ℕ) (at : Option Board) (hops : List Hop) : Type 0 where
  pub grows : Grows n ts p.tables
  pub count : length p.tables ≡ length ts
  pub leads : Leads m n p.tables last at p.key hops
  pub keeps : (k : ℕ) → m ≤ k → AllStraight k n ts → AllStraight k n p.tables

plants_none : (m : ℕ) (n : ShapeNumbers) (ts : List Table) (last : ℕ) (at : Option Board) → Plants m n ts (record { tables = ts; key = None }) last at []
plants_none m n ts last at = record { grows = grows_refl n ts; count = refl; leads = leads_none m n ts last at; keeps = λ k l a. a }

-- one board more, behind its children
pub plants_board : (m : ℕ) (n : ShapeNumbers) (ts us : List Table) (last : ℕ) (b : Board) (ss : List Spot) (cs : List Child) (hops : List Hop) → Grows n ts us → length us ≡ length ts → length ts ≡ board_count n → length cs ≤ 4 → HasBoard n b → Sound n ss
    → Follow m n us last b cs hops → ((k : ℕ) → m ≤ k → AllStraight k n ts → AllStraight k n us) → Plants (suc m) n ts (planted n ss b cs us) last (Some b) (here ss b 16 ++ hops)
plants_board m n ts us last b ss cs hops g l e few h s f under =
    let p : board_place n b < length us = place_below n b us h (l ∙ e) in
    record {
      grows = grows_trans n ts us (planted n ss b cs us).tables g (grows_with n b (tree_records ss b cs) us p);
      count = length_with n b (tree_records ss b cs) us ∙ l;
      leads = leads_planted m n us last b ss cs hops p few h s f;
      keeps = λ k q a.
          let rs : List RouteRec = tree_records ss b cs in
          let here_straight : StraightRecords (Straight m n us) n last b rs = straight_append (Straight m n us) n last b (mrms ss b 16) (rrs cs) (straight_mrms (Straight m n us) n last b ss 16 h s (omega arith)) (straight_rrs m n us last b cs hops f) in
          all_with k n b rs us p h (under k (omega arith) a)
          (straight_map (Straight m n us) (Straight k n us) n 4 b rs (λ d c j x. straight_up m k n us d c j (omega arith) x) (straight_any (Straight m n us) n last b rs here_straight));
    }

pub plants_column : (n : ShapeNumbers) (ss : List Spot) (d m : ℕ) (at : Option Board) (ts : List Table) → may d d ≡ true → HasAt n at → Sound n ss → length ts ≡ board_count n → Plants m n ts (column n ss d m at ts) d at (column_hops n ss d m at)
plants_column n ss d zero at ts t h s e = plants_none zero n ts d at
plants_column n ss d (suc m) None ts t h s e = plants_none (suc m) n ts d None
plants_column n ss d (suc m) (Some b) ts t h s e =
    let next : Planted = column n ss d m (neighbour n d b) ts in
    let p = plants_column n ss d m (neighbour n d b) ts t (has_neighbour n d b h) s e in
    plants_board m n ts next.tables d b ss (child d next.key ∷ []) (column_hops n ss d m (neighbour n d b)) p.grows p.count e (omega arith) h s
    (column_hops n ss d m (neighbour n d b), [], sym (append-nil (column_hops n ss d m (neighbour n d b))), t, p.leads, refl) p.keeps

pub plants_row : (n : ShapeNumbers) (ss : List Spot) (d m : ℕ) (at : Option Board) (ts : List Table) → may d d ≡ true → may d 2 ≡ true → may d 3 ≡ true → HasAt n at → Sound n ss → length ts ≡ board_count n
    → Plants (m + n.boards_y) n ts (row n ss d m at ts) d at (row_hops n ss d m at)
plants_row n ss d zero at ts t x y h s e = plants_none (zero + n.boards_y) n ts d at
plants_row n ss d (suc m) None ts t x y h s e = plants_none (suc m + n.boards_y) n ts d None
plants_row n ss d (suc m) (Some b) ts t x y h s e =
    let ahead : Planted = row n ss d m (neighbour n d b) ts in
    let below : Planted = column n ss 2 n.boards_y (neighbour n 2 b) ahead.tables in
    let above : Planted = column n ss 3 n.boards_y (neighbour n 3 b) below.tables in
    let p = plants_row n ss d m (neighbour n d b) ts t x y (has_neighbour n d b h) s e in
    let q = plants_column n ss 2 n.boards_y (neighbour n 2 b) ahead.tables refl (has_neighbour n 2 b h) s (p.count ∙ e) in
    let r = plants_column n ss 3 n.boards_y (neighbour n 3 b) below.tables refl (has_neighbour n 3 b h) s (q.count ∙ (p.count ∙ e)) in
    let k : ℕ = m + n.boards_y in
    let lp = leads_grows k n ahead.tables above.tables d (neighbour n d b) ahead.key (row_hops n ss d m (neighbour n d b)) (grows_trans n ahead.tables below.tables above.tables q.grows r.grows) p.leads in
    let lq = leads_up n.boards_y k n above.tables 2 (neighbour n 2 b) below.key (column_hops n ss 2 n.boards_y (neighbour n 2 b)) (omega arith) (leads_grows n.boards_y n below.tables above.tables 2 (neighbour n 2 b) below.key (column_hops n ss 2 n.boards_y (neighbour n 2 b)) r.grows q.leads) in
    let lr = leads_up n.boards_y k n above.tables 3 (neighbour n 3 b) above.key (column_hops n ss 3 n.boards_y (neighbour n 3 b)) (omega arith) r.leads in
    let i : suc k ≡ suc m + n.boards_y = omega arith in
    rw (← i) (plants_board k n ts above.tables d b ss (child d ahead.key ∷ child 2 below.key ∷ child 3 above.key ∷ [])
    (row_hops n ss d m (neighbour n d b) ++ (column_hops n ss 2 n.boards_y (neighbour n 2 b) ++ column_hops n ss 3 n.boards_y (neighbour n 3 b)))
    (grows_trans n ts ahead.tables above.tables p.grows (grows_trans n ahead.tables below.tables above.tables q.grows r.grows)) (r.count ∙ (q.count ∙ p.count)) e (omega arith) h s (
      row_hops n ss d m (neighbour n d b),
      column_hops n ss 2 n.boards_y (neighbour n 2 b) ++ column_hops n ss 3 n.boards_y (neighbour n 3 b),
      refl,
      t,
      lp,
      (
        column_hops n ss 2 n.boards_y (neighbour n 2 b),
        column_hops n ss 3 n.boards_y (neighbour n 3 b),
        refl,
        x,
        lq,
        (column_hops n ss 3 n.boards_y (neighbour n 3 b), [], sym (append-nil (column_hops n ss 3 n.boards_y (neighbour n 3 b))), y, lr, refl),
      ),
    )
    (λ j l a. r.keeps j (omega arith) (q.keeps j (omega arith) (p.keeps j l a))))

-- the whole tree: at most so many records lead on one after the other
unfoldable pub depth : ShapeNumbers → ℕ
depth n = suc (n.boards_x + n.boards_y)

pub plants_tree : (n : ShapeNumbers) (ss : List Spot) (b : Board) (ts : List Table) → HasBoard n b → Sound n ss → length ts ≡ board_count n → Plants (depth n) n ts (tree n ss b ts) 4 (Some b) (tree_hops n ss b)
unfolding depth
plants_tree n ss b ts h s e =
    let east : Planted = row n ss 0 n.boards_x (neighbour n 0 b) ts in
    let west : Planted = row n ss 1 n.boards_x (neighbour n 1 b) east.tables in
    let below : Planted = column n ss 2 n.boards_y (neighbour n 2 b) west.tables in
    let above : Planted = column n ss 3 n.boards_y (neighbour n 3 b) below.tables in
    let p = plants_row n ss 0 n.boards_x (neighbour n 0 b) ts refl refl refl (has_neighbour n 0 b h) s e in
    let o = plants_row n ss 1 n.boards_x (neighbour n 1 b) east.tables refl refl refl (has_neighbour n 1 b h) s (p.count ∙ e) in
    let q = plants_column n ss 2 n.boards_y (neighbour n 2 b) west.tables refl (has_neighbour n 2 b h) s (o.count ∙ (p.count ∙ e)) in
    let r = plants_column n ss 3 n.boards_y (neighbour n 3 b) below.tables refl (has_neighbour n 3 b h) s (q.count ∙ (o.count ∙ (p.count ∙ e))) in
    let k : ℕ = n.boards_x + n.boards_y in
    let g1 = grows_trans n west.tables below.tables above.tables q.grows r.grows in
    let g2 = grows_trans n east.tables west.tables above.tables o.grows g1 in
    let lp = leads_grows k n east.tables above.tables 0 (neighbour n 0 b) east.key (row_hops n ss 0 n.boards_x (neighbour n 0 b)) g2 p.leads in
    let lo = leads_grows k n west.tables above.tables 1 (neighbour n 1 b) west.key (row_hops n ss 1 n.boards_x (neighbour n 1 b)) g1 o.leads in
    let lq = leads_up n.boards_y k n above.tables 2 (neighbour n 2 b) below.key (column_hops n ss 2 n.boards_y (neighbour n 2 b)) (omega arith) (leads_grows n.boards_y n below.tables above.tables 2 (neighbour n 2 b) below.key (column_hops n ss 2 n.boards_y (neighbour n 2 b)) r.grows q.leads) in
    let lr = leads_up n.boards_y k n above.tables 3 (neighbour n 3 b) above.key (column_hops n ss 3 n.boards_y (neighbour n 3 b)) (omega arith) r.leads in
    plants_board k n ts above.tables 4 b ss (child 0 east.key ∷ child 1 west.key ∷ child 2 below.key ∷ child 3 above.key ∷ [])
    (row_hops n ss 0 n.boards_x (neighbour n 0 b) ++ (row_hops n ss 1 n.boards_x (neighbour n 1 b) ++ (column_hops n ss 2 n.boards_y (neighbour n 2 b) ++ column_hops n ss 3 n.boards_y (neighbour n 3 b))))
    (grows_trans n ts east.tables above.tables p.grows g2) (r.count ∙ (q.count ∙ (o.count ∙ p.count))) e (omega arith) h s (
      row_hops n ss 0 n.boards_x (neighbour n 0 b),
      row_hops n ss 1 n.boards_x (neighbour n 1 b) ++ (column_hops n ss 2 n.boards_y (neighbour n 2 b) ++ column_hops n ss 3 n.boards_y (neighbour n 3 b)),
      refl,
      refl,
      lp,
      (
        row_hops n ss 1 n.boards_x (neighbour n 1 b),
        column_hops n ss 2 n.boards_y (neighbour n 2 b) ++ column_hops n ss 3 n.boards_y (neighbour n 3 b),
        refl,
        refl,
        lo,
        (
          column_hops n ss 2 n.boards_y (neighbour n 2 b),
          column_hops n ss 3 n.boards_y (neighbour n 3 b),
          refl,
          refl,
          lq,
          (column_hops n ss 3 n.boards_y (neighbour n 3 b), [], sym (append-nil (column_hops n ss 3 n.boards_y (neighbour n 3 b))), refl, lr, refl),
        ),
      ),
    )
    (λ j l a. r.keeps j (omega arith) (q.keeps j (omega arith) (o.keeps j l (p.keeps j l a))))
