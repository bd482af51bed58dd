-- The trees of pins, one after another, as they are planted.
use Rattle.std.proofs.Common.{◌≡◌, ◌<◌, ◌≤◌, ℕ, suc, zero, ◌+◌, ◌-◌, eqb, ltb, cond, Bool, true, false, ◌||◌, List, [], ◌∷◌, ◌++◌, length, get_or, map, take, replicate, refl, sym, ◌∙◌, ap, arith, Option, Result, Ok, Err, subst}
use Rattle.std.proofs.lemmas.Bool.Decides.{nat_tests}
use Rattle.std.proofs.lemmas.Bool.{ltb-false, or_parts}
use Rattle.std.proofs.lemmas.Grind.{common_steps}
use Rattle.std.proofs.lemmas.List.{get_or_default, get_or_past}
use Rattle.std.proofs.lemmas.List.FromFn.{fill_by_all, get_or-map-range_with_len, length-map-range_with_len, map-range_with_len_more}
use Rattle.std.specs.List.{list_any, range_with_len}
use Rattle.std.specs.Result.{IsErrAnd}
use Rattle.tn_base.specs.declared.shape.ShapeNumbers.{ShapeNumbers}
use Rattle.tn_base.specs.Parts.{board_count}
use Rattle.tn_keys.specs.Tables.{Table}
use Rattle.polite_routes.specs.declared.planting.Planting.{Planting}
use Rattle.polite_routes.specs.declared.target.Pin.{Pin}
use Rattle.polite_routes.specs.declared.target.RouteStop.{RouteStop}
use Rattle.polite_routes.specs.declared.target.RouteStop.TheVariants.{KeysFull, Memory, TableFull}
use Rattle.polite_routes.specs.declared.target.Spot.{Spot}
use Rattle.polite_routes.specs.declared.target.Target.{Target}
use Rattle.polite_routes.specs.Full.{Gives, is_full}
use Rattle.polite_routes.specs.Routes.{IsPlanting, Lays, PinThere, PinsThere, key_at, keys_full, keys_to, local_of, pin_at, planting, spots_of, tables_after, tables_of, tree_of, trees_to}
use Rattle.polite_routes.specs.Targets.{Narrow, count_in, mask_of, one_more, reaches, spot, spot_at, spot_for, spots_for}
use Rattle.polite_routes.specs.Tree.{Planted, tree}
use Rattle.polite_routes.proofs.Growing.{full_tree}
use Rattle.polite_routes.proofs.Marking.{counted, mask_reached, no_pin, pins_one, trees_push}
use Rattle.polite_routes.proofs.Marks.{length_spots, spot_is}

pub taken_few : (ps : List Pin) (j : ℕ) → length ps ≤ 262144 → length (take j ps) ≤ 262144
taken_few ps j h = let l : length (take j ps) ≤ length ps = grind (arith, common_steps) in omega arith

pub item_is : (ps : List Pin) (j : ℕ) (p : Pin) → j < length ps → p ≡ get_or ps j p → p ≡ get_or ps j no_pin
item_is ps j p h e = e ∙ get_or_default ps j p no_pin h

pub item_there : (n : ShapeNumbers) (ps : List Pin) (j : ℕ) (p : Pin) → PinsThere n ps → j < length ps → p ≡ get_or ps j no_pin → PinThere n p
item_there n ps j p a h e = subst (λ (q : Pin). PinThere n q) (sym e) (a.each j no_pin h)

-- counts that say the same make the same spots
pub spots_same : (ts : List Target) (f g : ℕ → ℕ) → ((i : ℕ) → i < 256 → f i ≡ g i) → spots_for ts f ≡ spots_for ts g
unfolding spots_for
spots_same ts f g h =
    fill_by_all (spot_for ts g) (map (spot_for ts f) (range_with_len 0 256)) 256 (spot 0 0) (length-map-range_with_len (spot_for ts f) 0 256)
    (λ i l. get_or-map-range_with_len (spot_for ts f) 0 256 i i (spot 0 0) l (omega arith) ∙ ap (λ x. spot (mask_of ts i) (cond (eqb (mask_of ts i) 0) 0 x)) (h i l))

free_by : (ps : List Pin) (a m i : ℕ) (v : Bool) → v ≡ eqb a i → (ltb 65536 (trees_to ps a) ≡ false) × (list_any (λ i. ltb 65536 (trees_to ps i)) (range_with_len (a + 1) m) ≡ false) → a ≤ i
    → (a + 1 ≤ i → trees_to ps i ≤ 65536) → trees_to ps i ≤ 65536
free_by ps a m i true e p l r = let s : a ≡ i = grind (arith, nat_tests) in let b = ltb-false 65536 (trees_to ps a) p.0 in let t = ap (trees_to ps) s in omega arith
free_by ps a m i false e p l r = r (grind (arith, nat_tests))

-- no tile has too many trees
free_at : (ps : List Pin) (a m i : ℕ) → list_any (λ i. ltb 65536 (trees_to ps i)) (range_with_len a m) ≡ false → a ≤ i → i < a + m → trees_to ps i ≤ 65536
free_at ps a zero i h l q = absurd (omega arith)
free_at ps a (suc m) i h l q =
    let p = or_parts (ltb 65536 (trees_to ps a)) (list_any (λ i. ltb 65536 (trees_to ps i)) (range_with_len (a + 1) m)) h in
    free_by ps a m i (eqb a i) refl p l (λ d. free_at ps (a + 1) m i p.1 d (omega arith))

trees_le : (ps : List Pin) (j i : ℕ) → trees_to (take j ps) i ≤ trees_to ps i
trees_le [] zero i = omega arith
trees_le [] (suc j) i = omega arith
trees_le (p ∷ ps) zero i = omega arith
trees_le (p ∷ ps) (suc j) i = let r = trees_le ps j i in omega arith

local_small : (ps : List Pin) (j i : ℕ) (p : Pin) (v : Bool) → j < length ps → p ≡ get_or ps j no_pin → keys_full ps ≡ false → i < 256 → v ≡ eqb (mask_of p.targets i) 0 → cond v 0 (trees_to (take j ps) i) < 65536
unfolding keys_full
local_small ps j i p true h e f l m = omega arith
local_small ps j i p false h e f l m =
    let r : reaches p.targets i ≡ true = mask_reached p.targets i (sym m) in
    let t = trees_push (take j ps) p i in
    let one : cond {A = ℕ} (reaches p.targets i) 1 0 ≡ 1 = ap (λ b. cond {A = ℕ} b 1 0) r in
    let s : trees_to (take (j + 1) ps) i ≡ trees_to (take j ps ++ p ∷ []) i = ap (λ xs. trees_to xs i) (pins_one ps j h ∙ ap (λ x. take j ps ++ x ∷ []) (sym e)) in
    let le = trees_le ps (j + 1) i in
    let b = free_at ps 0 256 i f (omega arith) (omega arith) in
    omega arith

narrow_by : (ss : List Spot) (f : ℕ → ℕ) (ts : List Target) (i : ℕ) (v : Bool) → v ≡ ltb i 256 → ss ≡ spots_for ts f → (i < 256 → cond (eqb (mask_of ts i) 0) 0 (f i) < 65536) → (spot_at ss i).local < 65536
narrow_by ss f ts i true e s h =
    let l : i < 256 = grind (arith, nat_tests) in
    let q : spot_at ss i ≡ spot_for ts f i = ap (λ xs. spot_at xs i) s ∙ spot_is ts f i l in
    let r = ap (λ (x : Spot). x.local) q in let b = h l in omega arith
narrow_by ss f ts i false e s h =
    let l : 256 ≤ i = grind (arith, nat_tests) in
    let k : length ss ≡ 256 = ap length s ∙ length_spots ts f in
    let z : spot_at ss i ≡ spot 0 0 = get_or_past ss i (spot 0 0) (omega arith) in
    let r = ap (λ (x : Spot). x.local) z in omega arith

pub narrow_spots : (ps : List Pin) (j : ℕ) (p : Pin) (counts : List ℕ) → j < length ps → p ≡ get_or ps j no_pin → keys_full ps ≡ false → ((i : ℕ) → i < 256 → count_in counts i ≡ trees_to (take j ps) i) → Narrow (spots_for p.targets (count_in counts))
narrow_spots ps j p counts h e f c =
    let s : spots_for p.targets (count_in counts) ≡ spots_for p.targets (local_of ps j) = spots_same p.targets (count_in counts) (local_of ps j) c in
    record {
      all = length_spots p.targets (count_in counts);
      each = λ i. narrow_by (spots_for p.targets (count_in counts)) (local_of ps j) p.targets i (ltb i 256) refl s (λ l. local_small ps j i p (eqb (mask_of p.targets i) 0) h e f l refl);
    }

after_suc : (n : ShapeNumbers) (ps : List Pin) (j : ℕ) → tables_after n ps (suc j) ≡ (tree_of n ps j (tables_after n ps j)).tables
unfolding tables_after
after_suc n ps j = refl

-- the tree of a pin, by its counts
pub tree_is : (n : ShapeNumbers) (ps : List Pin) (j : ℕ) (p : Pin) (counts : List ℕ) (ts : List Table) → p ≡ get_or ps j no_pin → ((i : ℕ) → i < 256 → count_in counts i ≡ trees_to (take j ps) i) → ts ≡ tables_after n ps j
    → tree n (spots_for p.targets (count_in counts)) p.board ts ≡ tree_of n ps j (tables_after n ps j)
tree_is n ps j p counts ts e c t =
    ap (λ ss. tree n ss p.board ts) (spots_same p.targets (count_in counts) (local_of ps j) c)
    ∙ ap (λ (q : Pin). tree n (spots_for q.targets (local_of ps j)) q.board ts) e
    ∙ ap (tree_of n ps j) t

full_after : (n : ShapeNumbers) (ps : List Pin) (j k : ℕ) → is_full (tables_after n ps j) ≡ true → is_full (tables_after n ps (j + k)) ≡ true
full_after n ps j zero h = ap (λ i. is_full (tables_after n ps i)) (omega arith) ∙ h
full_after n ps j (suc k) h =
    let i : j + suc k ≡ suc (j + k) = omega arith in
    ap (λ q. is_full (tables_after n ps q)) i ∙ ap is_full (after_suc n ps (j + k)) ∙ full_tree n (spots_of ps (j + k)) (pin_at ps (j + k)).board (tables_after n ps (j + k)) (full_after n ps j k h)

-- a tree that needs too many beats makes the whole too long
pub full_end : (n : ShapeNumbers) (ps : List Pin) (j : ℕ) → j < length ps → is_full (tree_of n ps j (tables_after n ps j)).tables ≡ true → is_full (tables_of n ps) ≡ true
full_end n ps j h f =
    let i : suc j + (length ps - suc j) ≡ length ps = omega arith in
    ap (λ q. is_full (tables_after n ps q)) (sym i) ∙ full_after n ps (suc j) (length ps - suc j) (ap is_full (after_suc n ps j) ∙ f)

pub next_tables : (n : ShapeNumbers) (ps : List Pin) (j : ℕ) → (tree_of n ps j (tables_after n ps j)).tables ≡ tables_after n ps (j + 1)
next_tables n ps j = let i : suc j ≡ j + 1 = omega arith in sym (after_suc n ps j) ∙ ap (tables_after n ps) i

pub next_keys : (n : ShapeNumbers) (ps : List Pin) (j : ℕ) → keys_to n ps (j + 1) ≡ keys_to n ps j ++ key_at n ps j ∷ []
next_keys n ps j = map-range_with_len_more (key_at n ps) 0 j j (omega arith)

pub laid_stop : (r : Result Unit RouteStop) (e : RouteStop) (x new ts us : List Table) (k : Option ℕ) (got keys : List (Option ℕ)) → IsErrAnd r (λ z. z ≡ e) → Gives (Err e) x ts k → (is_full ts ≡ true → is_full us ≡ true) → Lays r new got us keys
laid_stop (Err TableFull) e x new ts us k got keys i g f = f (subst (λ (w : RouteStop). Gives (Err w) x ts k) (sym i) g)
laid_stop (Err KeysFull) e x new ts us k got keys i g f = absurd (subst (λ (w : RouteStop). Gives (Err w) x ts k) (sym i) g)
laid_stop (Err Memory) e x new ts us k got keys i g f = tt
laid_stop (Ok u) e x new ts us k got keys i g f = absurd i

pub bare_tables : (n : ShapeNumbers) (ps : List Pin) → tables_after n ps 0 ≡ replicate (board_count n) []
unfolding tables_after
bare_tables n ps = refl

pub bare_short : (k : ℕ) → is_full (replicate k []) ≡ false
bare_short zero = refl
bare_short (suc k) = bare_short k

-- what holds behind one pin more
pub record Next (n : ShapeNumbers) (ps : List Pin) (j : ℕ) (counts : List ℕ) (ts : List Table) (keys : List (Option ℕ)) : Type 0 where
  pub counted_all : (i : ℕ) → i < 256 → count_in counts i ≡ trees_to (take j ps) i
  pub room : length counts ≡ 256
  pub tables : ts ≡ tables_after n ps j
  pub boards : length ts ≡ board_count n
  pub short : is_full ts ≡ false
  pub keys_are : keys ≡ keys_to n ps j

pub next_pin : (n : ShapeNumbers) (ps : List Pin) (j : ℕ) (p : Pin) (counts new : List ℕ) (ts us : List Table) (keys got : List (Option ℕ)) (key : Option ℕ) → j < length ps → p ≡ get_or ps j no_pin → Next n ps j counts ts keys
    → ((i : ℕ) → i < 256 → count_in new i ≡ one_more (mask_of p.targets i) (count_in counts i)) → length new ≡ 256 → length us ≡ length ts
    → key ≡ (tree n (spots_for p.targets (count_in counts)) p.board ts).key → us ≡ (tree n (spots_for p.targets (count_in counts)) p.board ts).tables
    → is_full (tree n (spots_for p.targets (count_in counts)) p.board ts).tables ≡ false → got ≡ keys ++ key ∷ [] → Next n ps (j + 1) new us got
next_pin n ps j p counts new ts us keys got key h e s c r b k u f g =
    let t : tree n (spots_for p.targets (count_in counts)) p.board ts ≡ tree_of n ps j (tables_after n ps j) = tree_is n ps j p counts ts e s.counted_all s.tables in
    record {
      counted_all = λ i l. counted ps j i (count_in counts i) (count_in new i) p h e (s.counted_all i l) (c i l);
      room = r;
      tables = u ∙ ap (λ (q : Planted). q.tables) t ∙ next_tables n ps j;
      boards = b ∙ s.boards;
      short = ap is_full u ∙ f;
      keys_are = g ∙ ap (λ xs. xs ++ key ∷ []) s.keys_are ∙ ap (λ x. keys_to n ps j ++ x ∷ []) (k ∙ ap (λ (q : Planted). q.key) t) ∙ sym (next_keys n ps j);
    }

zero_at : (n i : ℕ) → get_or {A = ℕ} (replicate n 0) i 0 ≡ 0
zero_at zero i = refl
zero_at (suc n) zero = refl
zero_at (suc n) (suc i) = zero_at n i

pub none_counted : (counts : List ℕ) (i : ℕ) → counts ≡ replicate 256 0 → count_in counts i ≡ 0
none_counted counts i e = ap (λ xs. count_in xs i) e ∙ zero_at 256 i

any_map : (p : ℕ → Bool) (f : ℕ → ℕ) (xs : List ℕ) → list_any p (map f xs) ≡ list_any (λ i. p (f i)) xs
any_map p f [] = refl
any_map p f (x ∷ xs) = ap (λ b. p (f x) || b) (any_map p f xs)

pub full_is : (ps : List Pin) (counts : List ℕ) (v : Bool) → v ≡ list_any (λ c. ltb 65536 c) counts → length counts ≡ 256 → ((i : ℕ) → i < 256 → count_in counts i ≡ trees_to ps i) → v ≡ keys_full ps
unfolding keys_full
full_is ps counts v e l h =
    e ∙ ap (list_any (λ c. ltb 65536 c)) (fill_by_all (trees_to ps) counts 256 0 l h) ∙ any_map (λ c. ltb 65536 c) (trees_to ps) (range_with_len 0 256)

pub stop_is : (r : Result Planting RouteStop) (e : RouteStop) (n : ShapeNumbers) (ps : List Pin) (new : List Table) (got keys : List (Option ℕ)) → keys_full ps ≡ false → IsErrAnd r (λ z. z ≡ e) → Lays (Err e) new got (tables_of n ps) keys → IsPlanting r (planting n ps)
stop_is (Err TableFull) e n ps new got keys f i l =
    let full : is_full (tables_of n ps) ≡ true = subst (λ (w : RouteStop). Lays (Err w) new got (tables_of n ps) keys) (sym i) l in
    rw (f, full) refl
stop_is (Err KeysFull) e n ps new got keys f i l = absurd (subst (λ (w : RouteStop). Lays (Err w) new got (tables_of n ps) keys) (sym i) l)
stop_is (Err Memory) e n ps new got keys f i l = tt
stop_is (Ok p) e n ps new got keys f i l = absurd i
