-- One pin after another.
use Rattle.std.proofs.Common.{◌≡◌, ◌<◌, ◌≤◌, ℕ, suc, zero, ◌+◌, ◌*◌, ◌/◌, ◌%◌, eqb, cond, Bool, true, false, ◌||◌, List, [], ◌∷◌, length, get_or, map, take, replicate, refl, sym, ◌∙◌, ap, arith, Option, Some, None, subst}
use Rattle.std.proofs.lemmas.Bool.Decides.{nat_tests}
use Rattle.std.proofs.lemmas.Bool.{lt-ltb}
use Rattle.std.proofs.lemmas.List.{length-replicate}
use Rattle.std.specs.Int.{bit_at}
use Rattle.std.specs.List.{All, filter, list_any}
use Rattle.tn_base.specs.declared.ids.Board.{Board}
use Rattle.tn_base.specs.declared.shape.ShapeNumbers.{ShapeNumbers}
use Rattle.tn_base.specs.Address.{has_thread}
use Rattle.tn_base.specs.Mask.{names_threads}
use Rattle.tn_base.specs.Parts.{board_count}
use Rattle.tn_base.specs.Shape.{WithinLimits}
use Rattle.tn_keys.specs.Accepted.{has_place}
use Rattle.tn_keys.specs.Reach.{reach}
use Rattle.tn_keys.specs.Tables.{HasBoard, Table, board_place}
use Rattle.polite_routes.specs.declared.target.Pin.{Pin}
use Rattle.polite_routes.specs.declared.target.Spot.{Spot}
use Rattle.polite_routes.specs.declared.target.Target.{Target}
use Rattle.polite_routes.specs.Hops.{reach_from, reach_of}
use Rattle.polite_routes.specs.Once.{AllThere, Listed}
use Rattle.polite_routes.specs.Passes.{PassesButWidth}
use Rattle.polite_routes.specs.Routes.{PinRouted, PinThere, PinsThere, in_lists, key_at, lists_to, local_of, pin_at, spots_of, tables_after, tables_of, tree_of, trees_to}
use Rattle.polite_routes.specs.Targets.{edges_to, mask_of, reaches, spots_for}
use Rattle.polite_routes.specs.Tree.{tile_index}
use Rattle.polite_routes.proofs.Each.{each_once, parts}
use Rattle.polite_routes.proofs.Finding.{all_find}
use Rattle.polite_routes.proofs.Leading.{Leads, Sound, leads_grows, leads_up}
use Rattle.polite_routes.proofs.Marking.{no_mask}
use Rattle.polite_routes.proofs.Marks.{mask_bit, spot_is, to}
use Rattle.tn_base.proofs.NamesThreads.{names_from}
use Rattle.polite_routes.proofs.Passing.{AllStraight, BeatsStraight, passes}
use Rattle.polite_routes.proofs.Trees.{depth, plants_tree, tree_hops}

-- a tile with targets has a thread of the machine to which an edge leads
pub record Reached (n : ShapeNumbers) (i : ℕ) : Type 0 where
  pub thread : ℕ
  pub tile : thread / 64 ≡ i
  pub there : has_thread n thread ≡ true

reached : (n : ShapeNumbers) (ts : List Target) (i : ℕ) → All (λ (t : Target). has_thread n t.thread.0 ≡ true) ts → reaches ts i ≡ true → Reached n i
reached n [] i h r = absurd (cc)
reached n (t ∷ ts) i h r = by (eqb (t.thread.0 / 64) i) refl r (reached n ts i (λ k d l. h (suc k) d (omega arith))) where
  by : (v : Bool) → v ≡ eqb (t.thread.0 / 64) i → (v || reaches ts i) ≡ true → (reaches ts i ≡ true → Reached n i) → Reached n i
  by true e q f = record { thread = t.thread.0; tile = grind (arith, nat_tests); there = h 0 t (omega arith) }
  by false e q f = f q

some_target : (ts : List Target) (i : ℕ) (v : Bool) → v ≡ reaches ts i → eqb (mask_of ts i) 0 ≡ false → reaches ts i ≡ true
some_target ts i true e h = sym e
some_target ts i false e h = let z = no_mask ts 0 i (sym e) in absurd (cc (ap (λ m. eqb m 0) z))

place_there : (n : ShapeNumbers) (b : Board) (tile : ℕ) → tile < 16 → Reached n (tile_index b tile) → has_place n tile ≡ true
place_there n b tile l r =
    let p = parts n r.thread r.there in
    let tx = p.tile_x in
    let ty = p.tile_y in
    let e = r.tile in
    let x : tile % 4 < n.tiles_x = omega arith in
    let y : tile / 4 < n.tiles_y = omega arith in
    rw (lt-ltb (tile % 4) n.tiles_x x, lt-ltb (tile / 4) n.tiles_y y) refl

-- an edge to a thread: the thread is there
to_there : (n : ShapeNumbers) (ts : List Target) (a : ℕ) → All (λ (t : Target). has_thread n t.thread.0 ≡ true) ts → list_any (to a) ts ≡ true → has_thread n a ≡ true
to_there n [] a h r = absurd (cc)
to_there n (t ∷ ts) a h r = by (eqb t.thread.0 a) refl r (h 0 t (omega arith)) (to_there n ts a (λ k d l. h (suc k) d (omega arith))) where
  by : (v : Bool) → v ≡ eqb t.thread.0 a → (v || list_any (to a) ts) ≡ true → has_thread n t.thread.0 ≡ true → (list_any (to a) ts ≡ true → has_thread n a ≡ true) → has_thread n a ≡ true
  by true e q g f = let i : t.thread.0 ≡ a = grind (arith, nat_tests) in ap (has_thread n) (sym i) ∙ g
  by false e q g f = f q

pub bits_there : (n : ShapeNumbers) (ts : List Target) (i k : ℕ) → AllThere n ts → k < 64 → bit_at (mask_of ts i) k ≡ 1 → (k % 16 < n.threads) × (k / 16 < n.cores)
bits_there n ts i k h l e =
    let any : list_any (to (i * 64 + k)) ts ≡ true = sym (mask_bit ts i k l) ∙ ap (λ x. eqb x 1) e in
    let p = parts n (i * 64 + k) (to_there n ts (i * 64 + k) h.there any) in
    let t = p.thread in
    let c = p.core in
    let et : (i * 64 + k) % 16 ≡ k % 16 = omega arith in
    let ec : (i * 64 + k) / 16 % 4 ≡ k / 16 = omega arith in
    (omega arith, omega arith)

pub sound_spots : (n : ShapeNumbers) (ts : List Target) (earlier : ℕ → ℕ) → WithinLimits n → AllThere n ts → Sound n (spots_for ts earlier)
sound_spots n ts earlier l h = record {
  place = λ b tile hb ht e.
      let small = index_small n b tile l hb ht in
      let m : eqb (mask_of ts (tile_index b tile)) 0 ≡ false = ap (λ (s : Spot). eqb s.mask 0) (sym (spot_is ts earlier (tile_index b tile) small)) ∙ e in
      place_there n b tile ht (reached n ts (tile_index b tile) h.there (some_target ts (tile_index b tile) (reaches ts (tile_index b tile)) refl m));
  threads = λ b tile hb ht e.
      let small = index_small n b tile l hb ht in
      ap (λ (s : Spot). names_threads n s.mask) (spot_is ts earlier (tile_index b tile) small) ∙ names_from n (mask_of ts (tile_index b tile)) (λ k kl q. bits_there n ts (tile_index b tile) k h kl q);
} where
  index_small : (n : ShapeNumbers) (b : Board) (tile : ℕ) → WithinLimits n → HasBoard n b → tile < 16 → tile_index b tile < 256
  index_small n b tile l h t = let x = h.0 in let y = h.1 in let mx = l.boards_x.1 in let my = l.boards_y.1 in omega arith

-- of the trees that reach a tile, that of a pin stands at its local key
place_of_tree : (pins : List Pin) (j a : ℕ) → j < length pins → reaches (pin_at pins j).targets (a / 64) ≡ true
    → get_or (lists_to pins a) (trees_to (take j pins) (a / 64)) [] ≡ edges_to (pin_at pins j).targets a
unfolding lists_to
place_of_tree [] j a h r = absurd (omega arith)
place_of_tree (p ∷ ps) zero a h r = ap (λ b. get_or (map (λ (p : Pin). edges_to p.targets a) (cond b (p ∷ filter (λ (p : Pin). reaches p.targets (a / 64)) ps) (filter (λ (p : Pin). reaches p.targets (a / 64)) ps))) 0 []) r
place_of_tree (p ∷ ps) (suc j) a h r = by (reaches p.targets (a / 64)) (place_of_tree ps j a (omega arith) r) where
  by : (b : Bool) → get_or (map (λ (p : Pin). edges_to p.targets a) (filter (λ (p : Pin). reaches p.targets (a / 64)) ps)) (trees_to (take j ps) (a / 64)) [] ≡ edges_to (pin_at ps j).targets a
      → get_or (map (λ (p : Pin). edges_to p.targets a) (cond b (p ∷ filter (λ (p : Pin). reaches p.targets (a / 64)) ps) (filter (λ (p : Pin). reaches p.targets (a / 64)) ps))) (cond b 1 0 + trees_to (take j ps) (a / 64)) [] ≡ edges_to (pin_at ps j).targets a
  by true e = let i : 1 + trees_to (take j ps) (a / 64) ≡ suc (trees_to (take j ps) (a / 64)) = omega arith in ap (λ k. get_or (map (λ (p : Pin). edges_to p.targets a) (p ∷ filter (λ (p : Pin). reaches p.targets (a / 64)) ps)) k []) i ∙ e
  by false e = let i : 0 + trees_to (take j ps) (a / 64) ≡ trees_to (take j ps) (a / 64) = omega arith in ap (λ k. get_or (map (λ (p : Pin). edges_to p.targets a) (filter (λ (p : Pin). reaches p.targets (a / 64)) ps)) k []) i ∙ e

pub listed : (pins : List Pin) (j : ℕ) → j < length pins → Listed (in_lists pins) (pin_at pins j).targets (local_of pins j)
listed pins j h = record { listed = λ a r. place_of_tree pins j a h r }

-- what holds of the tables behind the first trees
pub record Made (n : ShapeNumbers) (pins : List Pin) (j : ℕ) (ts : List Table) : Type 0 where
  pub count : length ts ≡ board_count n
  pub straight : AllStraight (depth n) n ts
  pub leads : (i : ℕ) → i < j → Leads (depth n) n ts 4 (Some (pin_at pins i).board) (key_at n pins i) (tree_hops n (spots_of pins i) (pin_at pins i).board)

no_table : (k p : ℕ) → get_or {A = Table} (replicate k []) p [] ≡ []
no_table zero p = refl
no_table (suc k) zero = refl
no_table (suc k) (suc p) = no_table k p

abbrev Laid : ShapeNumbers → List Pin → ℕ → Type 0
Laid n pins j = Made n pins j (tables_after n pins j)

laid_none : (n : ShapeNumbers) (pins : List Pin) → Laid n pins 0
unfolding tables_after
laid_none n pins = record {
  count = length-replicate (board_count n) [];
  straight = record { beats = λ b h. subst (λ (t : Table). BeatsStraight (depth n) n (replicate (board_count n) []) b t) (sym (no_table (board_count n) (board_place n b))) tt };
  leads = λ i l. absurd (omega arith);
}

after_suc : (n : ShapeNumbers) (pins : List Pin) (j : ℕ) → tables_after n pins (suc j) ≡ (tree_of n pins j (tables_after n pins j)).tables
unfolding tables_after
after_suc n pins j = refl

leads_by : (n : ShapeNumbers) (pins : List Pin) (i j : ℕ) (us : List Table) (v : Bool) → v ≡ eqb i j → i < suc j → (i < j → Leads (depth n) n us 4 (Some (pin_at pins i).board) (key_at n pins i) (tree_hops n (spots_of pins i) (pin_at pins i).board))
    → Leads (depth n) n us 4 (Some (pin_at pins j).board) (key_at n pins j) (tree_hops n (spots_of pins j) (pin_at pins j).board)
    → Leads (depth n) n us 4 (Some (pin_at pins i).board) (key_at n pins i) (tree_hops n (spots_of pins i) (pin_at pins i).board)
leads_by n pins i j us true e l old new = let s : j ≡ i = grind (arith, nat_tests) in subst (λ (k : ℕ). Leads (depth n) n us 4 (Some (pin_at pins k).board) (key_at n pins k) (tree_hops n (spots_of pins k) (pin_at pins k).board)) s new
leads_by n pins i j us false e l old new = old (grind (arith, nat_tests))

laid_more : (n : ShapeNumbers) (pins : List Pin) (j : ℕ) → WithinLimits n → PinThere n (pin_at pins j) → Laid n pins j → Laid n pins (suc j)
laid_more n pins j l h s =
    let ts : List Table = tables_after n pins j in
    let p = plants_tree n (spots_of pins j) (pin_at pins j).board ts h.board (sound_spots n (pin_at pins j).targets (local_of pins j) l h.targets) s.count in
    subst (λ (us : List Table). Made n pins (suc j) us) (sym (after_suc n pins j)) (record {
      count = p.count ∙ s.count;
      straight = p.keeps (depth n) (omega arith) s.straight;
      leads = λ i q. leads_by n pins i j (tree_of n pins j ts).tables (eqb i j) refl q
          (λ r. leads_grows (depth n) n ts (tree_of n pins j ts).tables 4 (Some (pin_at pins i).board) (key_at n pins i) (tree_hops n (spots_of pins i) (pin_at pins i).board) p.grows (s.leads i r)) p.leads;
    })

pub laid : (n : ShapeNumbers) (pins : List Pin) (j : ℕ) → WithinLimits n → PinsThere n pins → j ≤ length pins → Laid n pins j
laid n pins zero l h m = laid_none n pins
laid n pins (suc j) l h m = laid_more n pins j l (h.each j (record { board = record { x = 0; y = 0 }; targets = [] }) (omega arith)) (laid n pins j l h (omega arith))

reach_is : (n : ShapeNumbers) (ts : List Table) (bytes : List ℕ) (b : Board) (key : Option ℕ) → reach_of n ts bytes b key ≡ reach_from 65 n ts bytes (Some b) key
unfolding reach
reach_is n ts bytes b None = refl
reach_is n ts bytes b (Some k) = refl

depth_small : (n : ShapeNumbers) → WithinLimits n → depth n ≤ 9
unfolding depth
depth_small n l = let x = l.boards_x.1 in let y = l.boards_y.1 in omega arith

-- each pin is routed
pub routed : (n : ShapeNumbers) (pins : List Pin) (j : ℕ) → WithinLimits n → PinsThere n pins → j < length pins
    → PinRouted n (tables_of n pins) (in_lists pins) (pin_at pins j).board (key_at n pins j) (pin_at pins j).targets (local_of pins j)
routed n pins j l h m =
    let s = laid n pins (length pins) l h (omega arith) in
    let there = h.each j (record { board = record { x = 0; y = 0 }; targets = [] }) m in
    let lead = s.leads j m in
    let d = depth_small n l in
    let b : Board = (pin_at pins j).board in
    record {
      hops = tree_hops n (spots_of pins j) b;
      reached = λ bytes. reach_is n (tables_of n pins) bytes b (key_at n pins j) ∙ lead.gives 64 bytes (omega arith);
      once = each_once n (pin_at pins j).targets (local_of pins j) (in_lists pins) b.x b.y l there.board.0 there.board.1 there.targets (listed pins j m);
      find = all_find n (pin_at pins j).targets (local_of pins j) (in_lists pins) b.x b.y l there.board.0 there.board.1 (listed pins j m);
      straight = record { straight = (leads_up (depth n) 9 n (tables_of n pins) 4 (Some b) (key_at n pins j) (tree_hops n (spots_of pins j) b) d lead).straight };
    }

-- all tables pass but for width
pub passes_all : (n : ShapeNumbers) (pins : List Pin) → WithinLimits n → PinsThere n pins → PassesButWidth n (tables_of n pins)
passes_all n pins l h =
    let s = laid n pins (length pins) l h (omega arith) in
    let d = depth_small n l in
    let p = l.boards_x.0 in
    passes (depth n) n (tables_of n pins) (omega arith) (omega arith) s.count s.straight
