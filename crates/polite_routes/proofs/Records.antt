-- The records of a tree at a board.
use Rattle.std.proofs.Common.{◌≡◌, ◌<◌, ◌≤◌, ℕ, suc, zero, ◌+◌, ◌^◌, eqb, cond, Bool, true, false, ◌&&◌, List, [], ◌∷◌, ◌++◌, length, refl, sym, ◌∙◌, ap, arith, Option, Some, None, length-append}
use Rattle.std.proofs.lemmas.Bool.{and_parts, lt-ltb}
use Rattle.std.specs.List.{list_all}
use Rattle.tn_base.specs.declared.ids.Board.{Board}
use Rattle.tn_keys.specs.declared.record.RouteRec.{RouteRec}
use Rattle.tn_keys.specs.declared.record.RouteRec.TheVariants.{Rr, Mrm}
use Rattle.polite_routes.specs.declared.target.Spot.{Spot}
use Rattle.polite_routes.specs.declared.tree.Child.{Child}
use Rattle.polite_routes.specs.Pack.{is_alone}
use Rattle.polite_routes.specs.Targets.{spot_at}
use Rattle.polite_routes.specs.Tree.{Few, mrm, mrms, rr, rrs, tile_index, tree_records}
use Rattle.polite_routes.proofs.Ranges.{below_one, below_suc}

-- one more tile
pub mrms_more : (spots : List Spot) (b : Board) (t first : ℕ) (s : Spot) (out next : List RouteRec) → first + t ≡ tile_index b t → s ≡ spot_at spots (first + t) → out ≡ mrms spots b t → next ≡ out ++ mrm t s → next ≡ mrms spots b (t + 1)
unfolding mrms
mrms_more spots b t first s out next i e o n =
    let f : ℕ → List RouteRec = λ tile. mrm tile (spot_at spots (tile_index b tile)) in
    let s2 : s ≡ spot_at spots (tile_index b t) = e ∙ ap (spot_at spots) i in
    n ∙ ap (λ xs. xs ++ mrm t s) o ∙ ap (λ x. mrms spots b t ++ mrm t x) s2 ∙ sym (below_one f t)

pub mrms_none : (spots : List Spot) (b : Board) → mrms spots b 0 ≡ []
unfolding mrms
mrms_none spots b = refl

one_of : (b : Bool) (r : RouteRec) → length (cond b [] (r ∷ [])) ≤ 1
one_of true r = omega arith
one_of false r = omega arith

pub length_mrms : (spots : List Spot) (b : Board) (n : ℕ) → length (mrms spots b n) ≤ n
unfolding mrms
length_mrms spots b zero = omega arith
length_mrms spots b (suc n) =
    let f : ℕ → List RouteRec = λ tile. mrm tile (spot_at spots (tile_index b tile)) in
    let s : Spot = spot_at spots (tile_index b n) in
    let h = length_mrms spots b n in
    let o = one_of (eqb s.mask 0) (Mrm n s.local s.mask) in
    let e = ap length (below_suc f n) in
    let l = length-append (mrms spots b n) (f n) in
    omega arith

length_rr : (d : ℕ) (o : Option ℕ) → length (rr d o) ≤ 1
length_rr d None = omega arith
length_rr d (Some k) = omega arith

pub length_rrs : (cs : List Child) → length (rrs cs) ≤ length cs
length_rrs [] = omega arith
length_rrs (c ∷ cs) = let h = length_rrs cs in let l = length_rr c.dir c.key in let a = length-append (rr c.dir c.key) (rrs cs) in omega arith

pub few_records : (spots : List Spot) (b : Board) (cs : List Child) → length cs ≤ 4 → length (tree_records spots b cs) ≤ 20
few_records spots b cs h = let m = length_mrms spots b 16 in let l = length_rrs cs in let a = length-append (mrms spots b 16) (rrs cs) in omega arith

both_true : (a b : Bool) → a ≡ true → b ≡ true → (a && b) ≡ true
both_true a b p q = rw (p, q) refl

-- each record is a beat by itself
all_append : (xs ys : List RouteRec) → list_all is_alone xs ≡ true → list_all is_alone ys ≡ true → list_all is_alone (xs ++ ys) ≡ true
all_append [] ys h g = g
all_append (x ∷ xs) ys h g = let p = and_parts (is_alone x) (list_all is_alone xs) h in both_true (is_alone x) (list_all is_alone (xs ++ ys)) p.0 (all_append xs ys p.1 g)

mrm_alone : (tile local mask : ℕ) → tile < 16 → local < 65536 → mask < 2 ^ 64 → is_alone (Mrm tile local mask) ≡ true
mrm_alone tile local mask t l m = rw (lt-ltb tile 16 t, lt-ltb local 65536 l, lt-ltb mask (2 ^ 64) m) refl

rr_alone : (dir key : ℕ) → dir < 4 → key < 2 ^ 32 → is_alone (Rr dir key) ≡ true
rr_alone dir key d k = rw (lt-ltb dir 4 d, lt-ltb key (2 ^ 32) k) refl

push_alone : (xs : List RouteRec) (r : RouteRec) → list_all is_alone xs ≡ true → is_alone r ≡ true → list_all is_alone (xs ++ r ∷ []) ≡ true
push_alone xs r h g = all_append xs (r ∷ []) h (rw g refl)

pub mrm_pushed : (xs ys : List RouteRec) (tile local mask : ℕ) → ys ≡ xs ++ Mrm tile local mask ∷ [] → list_all is_alone xs ≡ true → tile < 16 → local < 65536 → mask < 2 ^ 64 → list_all is_alone ys ≡ true
mrm_pushed xs ys tile local mask e h t l m = rw e (push_alone xs (Mrm tile local mask) h (mrm_alone tile local mask t l m))

pub rr_pushed : (xs ys : List RouteRec) (dir key : ℕ) → ys ≡ xs ++ Rr dir key ∷ [] → list_all is_alone xs ≡ true → dir < 4 → key < 2 ^ 32 → list_all is_alone ys ≡ true
rr_pushed xs ys dir key e h d k = rw e (push_alone xs (Rr dir key) h (rr_alone dir key d k))

pub few_made : (spots : List Spot) (b : Board) (cs : List Child) (tiles all : List RouteRec) (t : ℕ) → Few cs → t ≡ 16 → tiles ≡ mrms spots b t → all ≡ tiles ++ rrs cs → length all ≤ 20
few_made spots b cs tiles all t f i e a =
    let s : all ≡ tree_records spots b cs = a ∙ ap (λ xs. xs ++ rrs cs) (e ∙ ap (mrms spots b) i) in
    let l = few_records spots b cs f.few in
    let m = ap length s in
    omega arith
