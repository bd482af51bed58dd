-- A key leads to the targets of its board and of those behind.
use Rattle.std.proofs.Common.{◌≡◌, ◌<◌, ◌≤◌, ℕ, suc, zero, ◌+◌, eqb, cond, Bool, true, false, List, [], ◌∷◌, ◌++◌, length, map, append-nil, refl, sym, ◌∙◌, ap, arith, Option, Some, None}
use Rattle.std.proofs.lemmas.List.{map-append}
use Rattle.std.specs.Int.{bit_at}
use Rattle.std.specs.List.{flat_map, range_with_len}
use Rattle.tn_base.specs.declared.ids.Board.{Board}
use Rattle.tn_base.specs.declared.shape.ShapeNumbers.{ShapeNumbers}
use Rattle.tn_base.specs.Mask.{names_threads}
use Rattle.tn_keys.specs.declared.record.RouteRec.{RouteRec}
use Rattle.tn_keys.specs.declared.record.RouteRec.TheVariants.{Mrm}
use Rattle.tn_keys.specs.Accepted.{has_place}
use Rattle.tn_keys.specs.Copies.{Copy, copy_to, each_below, keyed, led, masked_copies, neighbour, only_if, onto, tile_address}
use Rattle.tn_keys.specs.Reach.{reach_by, walk}
use Rattle.tn_keys.specs.Tables.{HasBoard, Table, board_place, table_of}
use Rattle.polite_routes.specs.declared.target.Spot.{Spot}
use Rattle.polite_routes.specs.declared.tree.Child.{Child}
use Rattle.polite_routes.specs.Hops.{Hop, arrives, hop, reach_from}
use Rattle.polite_routes.specs.Pack.{key_for, key_of, pack, with_records}
use Rattle.polite_routes.specs.Straight.{Straight, StraightOf, StraightRecords, may}
use Rattle.polite_routes.specs.Targets.{spot_at}
use Rattle.polite_routes.specs.Tree.{mrm, mrms, planted, rr, rrs, tile_index, tree_records}
use Rattle.polite_routes.proofs.Grows.{Grows, given, grows_with}
use Rattle.polite_routes.proofs.Ranges.{below_suc}
use Rattle.polite_routes.proofs.Records.{few_records}
use Rattle.polite_routes.proofs.Walks.{reach_grows, reach_suc, straight_append, straight_grows, straight_map, straight_up, walk_append, walk_same}

-- a key, where there is one, starts straight branches of at most so many keys, and reaches exactly these hops
pub record Leads (m : ℕ) (n : ShapeNumbers) (ts : List Table) (last : ℕ) (at : Option Board) (key : Option ℕ) (hops : List Hop) : Type 0 where
  pub straight : StraightOf m n ts last at key
  pub gives : (k : ℕ) (bytes : List ℕ) → m ≤ k → reach_from (suc k) n ts bytes at key ≡ map (arrives bytes) hops

pub leads_none : (m : ℕ) (n : ShapeNumbers) (ts : List Table) (last : ℕ) (at : Option Board) → Leads m n ts last at None []
leads_none m n ts last at = record { straight = tt; gives = λ k bytes l. refl }

pub leads_up : (m k : ℕ) (n : ShapeNumbers) (ts : List Table) (last : ℕ) (at : Option Board) (key : Option ℕ) (hops : List Hop) → m ≤ k → Leads m n ts last at key hops → Leads k n ts last at key hops
leads_up m k n ts last at None hops l h = record { straight = tt; gives = λ j bytes q. h.gives j bytes (omega arith) }
leads_up m k n ts last None (Some key) hops l h = absurd h.straight
leads_up m k n ts last (Some b) (Some key) hops l h = record { straight = straight_up m k n ts last b key l h.straight; gives = λ j bytes q. h.gives j bytes (omega arith) }

pub leads_grows : (m : ℕ) (n : ShapeNumbers) (ts us : List Table) (last : ℕ) (at : Option Board) (key : Option ℕ) (hops : List Hop) → Grows n ts us → Leads m n ts last at key hops → Leads m n us last at key hops
leads_grows m n ts us last at None hops g h = record { straight = tt; gives = λ k bytes l. h.gives k bytes l }
leads_grows m n ts us last None (Some key) hops g h = absurd h.straight
leads_grows m n ts us last (Some b) (Some key) hops g h = record {
  straight = straight_grows m n ts us last b key g h.straight;
  gives = λ k bytes l. reach_grows m k n ts us bytes last b key l g h.straight ∙ h.gives k bytes l;
}

-- what records lead to at a board, the key leads to that they get there
pub leads_with : (m : ℕ) (n : ShapeNumbers) (ts : List Table) (last : ℕ) (b : Board) (rs : List RouteRec) (hops : List Hop) → board_place n b < length ts → length rs < 256 → StraightRecords (Straight m n ts) n last b rs
    → ((k : ℕ) (bytes : List ℕ) → m ≤ k → walk (reach_by (suc k) n ts bytes) n b bytes rs ≡ map (arrives bytes) hops) → Leads (suc m) n (with_records n b rs ts) last (Some b) (key_for n b rs ts) hops
unfolding key_for
leads_with m n ts last b [] hops h few s w = record { straight = tt; gives = λ k bytes l. w k bytes (omega arith) }
leads_with m n ts last b (r ∷ rs) hops h few s w =
    let qs : List RouteRec = r ∷ rs in
    let us : List Table = with_records n b qs ts in
    let key : ℕ = key_of (length (table_of n ts b)) (length (pack qs)) in
    let got = given n b r rs ts h few in
    let grow = grows_with n b qs ts h in
    record {
      straight = (got.good, rw got.records (straight_map (Straight m n ts) (Straight m n us) n last b qs (λ d c q f. straight_grows m n ts us d c q grow f) s));
      gives = λ k bytes l. more k bytes l;
    } where
      more : (k : ℕ) (bytes : List ℕ) → suc m ≤ k → reach_by (suc k) n (with_records n b (r ∷ rs) ts) bytes b (key_of (length (table_of n ts b)) (length (pack (r ∷ rs)))) ≡ map (arrives bytes) hops
      more zero bytes l = absurd (omega arith)
      more (suc k) bytes l =
          let qs : List RouteRec = r ∷ rs in
          let us : List Table = with_records n b qs ts in
          let key : ℕ = key_of (length (table_of n ts b)) (length (pack qs)) in
          let got = given n b r rs ts h few in
          let grow = grows_with n b qs ts h in
          reach_suc (suc k) n us bytes b key ∙ ap (walk (reach_by (suc k) n us bytes) n b bytes) got.records
          ∙ walk_same (Straight m n ts) (reach_by (suc k) n us bytes) (reach_by (suc k) n ts bytes) n last b bytes qs (λ d c q f. reach_grows m k n ts us bytes d c q (omega arith) grow f) s
          ∙ w k bytes (omega arith)

-- the hops of a mask, of a tile, and of a board's tiles
unfoldable pub mask_hops : ℕ → ℕ → ℕ → List Hop
mask_hops tile local mask = each_below 64 (λ k. only_if (eqb (bit_at mask k) 1) (hop (tile + k) local))

abbrev pub spot_hops : ℕ → Spot → List Hop
spot_hops tile s = cond (eqb s.mask 0) [] (mask_hops tile s.local s.mask)

unfoldable pub here : List Spot → Board → ℕ → List Hop
here spots b count = each_below count (λ tile. spot_hops (tile_address b tile) (spot_at spots (tile_index b tile)))

map_flat : (g : Hop → Copy) (f : ℕ → List Hop) (xs : List ℕ) → map g (flat_map f xs) ≡ flat_map (λ x. map g (f x)) xs
map_flat g f [] = refl
map_flat g f (x ∷ xs) = map-append g (f x) (flat_map f xs) ∙ ap (λ ys. map g (f x) ++ ys) (map_flat g f xs)

flat_same : (f g : ℕ → List Copy) (xs : List ℕ) → ((x : ℕ) → f x ≡ g x) → flat_map f xs ≡ flat_map g xs
flat_same f g [] h = refl
flat_same f g (x ∷ xs) h = let a = h x in let b = flat_same f g xs h in cc

map_only : (bytes : List ℕ) (t local : ℕ) (v : Bool) → map (arrives bytes) (only_if v (hop t local)) ≡ only_if v (copy_to t (keyed 2 local bytes))
map_only bytes t local true = refl
map_only bytes t local false = refl

pub mask_arrives : (tile local mask : ℕ) (bytes : List ℕ) → map (arrives bytes) (mask_hops tile local mask) ≡ masked_copies tile mask (keyed 2 local bytes)
unfolding mask_hops masked_copies
mask_arrives tile local mask bytes =
    map_flat (arrives bytes) (λ k. only_if (eqb (bit_at mask k) 1) (hop (tile + k) local)) (range_with_len 0 64)
    ∙ flat_same (λ k. map (arrives bytes) (only_if (eqb (bit_at mask k) 1) (hop (tile + k) local))) (λ k. only_if (eqb (bit_at mask k) 1) (copy_to (tile + k) (keyed 2 local bytes))) (range_with_len 0 64)
    (λ k. map_only bytes (tile + k) local (eqb (bit_at mask k) 1))

-- each tile and thread that the spots name at a board is there
pub record Sound (n : ShapeNumbers) (spots : List Spot) : Type 0 where
  pub place : (b : Board) (tile : ℕ) → HasBoard n b → tile < 16 → eqb (spot_at spots (tile_index b tile)).mask 0 ≡ false → has_place n tile ≡ true
  pub threads : (b : Board) (tile : ℕ) → HasBoard n b → tile < 16 → eqb (spot_at spots (tile_index b tile)).mask 0 ≡ false → names_threads n (spot_at spots (tile_index b tile)).mask ≡ true

straight_mrm : (P : ℕ → Board → ℕ → Type 0) (n : ShapeNumbers) (last : ℕ) (b : Board) (tile : ℕ) (s : Spot) (v : Bool) → eqb s.mask 0 ≡ v → (v ≡ false → has_place n tile ≡ true) → (v ≡ false → names_threads n s.mask ≡ true)
    → StraightRecords P n last b (cond v [] (Mrm tile s.local s.mask ∷ []))
straight_mrm P n last b tile s true e p t = tt
straight_mrm P n last b tile s false e p t = ((p refl, t refl, e), tt)

pub straight_mrms : (P : ℕ → Board → ℕ → Type 0) (n : ShapeNumbers) (last : ℕ) (b : Board) (spots : List Spot) (count : ℕ) → HasBoard n b → Sound n spots → count ≤ 16 → StraightRecords P n last b (mrms spots b count)
unfolding mrms
straight_mrms P n last b spots zero h s l = tt
straight_mrms P n last b spots (suc count) h s l =
    let f : ℕ → List RouteRec = λ tile. mrm tile (spot_at spots (tile_index b tile)) in
    let q : Spot = spot_at spots (tile_index b count) in
    let last_one : StraightRecords P n last b (f count) = straight_mrm P n last b count q (eqb q.mask 0) refl (λ e. s.place b count h (omega arith) e) (λ e. s.threads b count h (omega arith) e) in
    rw (below_suc f count) (straight_append P n last b (mrms spots b count) (f count) (straight_mrms P n last b spots count h s (omega arith)) last_one)

walk_mrm : (g : Board → ℕ → List Copy) (n : ShapeNumbers) (b : Board) (bytes : List ℕ) (tile : ℕ) (s : Spot) (v : Bool)
    → walk g n b bytes (cond v [] (Mrm tile s.local s.mask ∷ [])) ≡ map (arrives bytes) (cond v [] (mask_hops (tile_address b tile) s.local s.mask))
walk_mrm g n b bytes tile s true = refl
walk_mrm g n b bytes tile s false = append-nil (masked_copies (tile_address b tile) s.mask (keyed 2 s.local bytes)) ∙ sym (mask_arrives (tile_address b tile) s.local s.mask bytes)

pub walk_mrms : (g : Board → ℕ → List Copy) (n : ShapeNumbers) (b : Board) (bytes : List ℕ) (spots : List Spot) (count : ℕ) → HasBoard n b → Sound n spots → count ≤ 16 → walk g n b bytes (mrms spots b count) ≡ map (arrives bytes) (here spots b count)
unfolding mrms here
walk_mrms g n b bytes spots zero h s l = refl
walk_mrms g n b bytes spots (suc count) h s l =
    let f : ℕ → List RouteRec = λ tile. mrm tile (spot_at spots (tile_index b tile)) in
    let k : ℕ → List Hop = λ tile. spot_hops (tile_address b tile) (spot_at spots (tile_index b tile)) in
    let q : Spot = spot_at spots (tile_index b count) in
    ap (walk g n b bytes) (below_suc f count)
    ∙ walk_append (λ d c j. ⊥) g n 4 b bytes (mrms spots b count) (f count) (straight_mrms (λ d c j. ⊥) n 4 b spots count h s (omega arith))
    ∙ ap (λ xs. xs ++ walk g n b bytes (f count)) (walk_mrms g n b bytes spots count h s (omega arith))
    ∙ ap (λ xs. map (arrives bytes) (here spots b count) ++ xs) (walk_mrm g n b bytes count q (eqb q.mask 0))
    ∙ sym (map-append (arrives bytes) (here spots b count) (k count))
    ∙ ap (map (arrives bytes)) (sym (below_suc k count))

-- what children lead to
abbrev pub Follow : ℕ → ShapeNumbers → List Table → ℕ → Board → List Child → List Hop → Type 0
Follow m n ts last b [] hops = hops ≡ []
Follow m n ts last b (c ∷ cs) hops =
    (first : List Hop) × (rest : List Hop) × (hops ≡ first ++ rest) × (may last c.dir ≡ true) × Leads m n ts c.dir (neighbour n c.dir b) c.key first × Follow m n ts last b cs rest

straight_rr : (m : ℕ) (n : ShapeNumbers) (ts : List Table) (last : ℕ) (b : Board) (d : ℕ) (key : Option ℕ) → may last d ≡ true → StraightOf m n ts d (neighbour n d b) key → StraightRecords (Straight m n ts) n last b (rr d key)
straight_rr m n ts last b d None f h = tt
straight_rr m n ts last b d (Some key) f h = ((f, h), tt)

pub straight_rrs : (m : ℕ) (n : ShapeNumbers) (ts : List Table) (last : ℕ) (b : Board) (cs : List Child) (hops : List Hop) → Follow m n ts last b cs hops → StraightRecords (Straight m n ts) n last b (rrs cs)
straight_rrs m n ts last b [] hops f = tt
straight_rrs m n ts last b (c ∷ cs) hops f =
    straight_append (Straight m n ts) n last b (rr c.dir c.key) (rrs cs) (straight_rr m n ts last b c.dir c.key f.3 f.4.straight) (straight_rrs m n ts last b cs f.1 f.5)

walk_rr : (n : ShapeNumbers) (ts : List Table) (b : Board) (k : ℕ) (bytes : List ℕ) (d : ℕ) (key : Option ℕ) → walk (reach_by k n ts bytes) n b bytes (rr d key) ≡ reach_from k n ts bytes (neighbour n d b) key
walk_rr n ts b k bytes d None = refl
walk_rr n ts b k bytes d (Some key) = append-nil (led (reach_by k n ts bytes) (onto key (neighbour n d b)))

pub walk_rrs : (m k : ℕ) (n : ShapeNumbers) (ts : List Table) (last : ℕ) (b : Board) (bytes : List ℕ) (cs : List Child) (hops : List Hop) → m ≤ k → Follow m n ts last b cs hops → walk (reach_by (suc k) n ts bytes) n b bytes (rrs cs) ≡ map (arrives bytes) hops
walk_rrs m k n ts last b bytes [] hops l f = ap (map (arrives bytes)) (sym f)
walk_rrs m k n ts last b bytes (c ∷ cs) hops l f =
    walk_append (Straight m n ts) (reach_by (suc k) n ts bytes) n last b bytes (rr c.dir c.key) (rrs cs) (straight_rr m n ts last b c.dir c.key f.3 f.4.straight)
    ∙ ap (λ xs. xs ++ walk (reach_by (suc k) n ts bytes) n b bytes (rrs cs)) (walk_rr n ts b (suc k) bytes c.dir c.key ∙ f.4.gives k bytes l)
    ∙ ap (λ xs. map (arrives bytes) f.0 ++ xs) (walk_rrs m k n ts last b bytes cs f.1 l f.5)
    ∙ sym (map-append (arrives bytes) f.0 f.1)
    ∙ ap (map (arrives bytes)) (sym f.2)

-- the key of a board leads to its own targets, then to those behind
pub leads_planted : (m : ℕ) (n : ShapeNumbers) (ts : List Table) (last : ℕ) (b : Board) (spots : List Spot) (cs : List Child) (hops : List Hop) → board_place n b < length ts → length cs ≤ 4 → HasBoard n b → Sound n spots → Follow m n ts last b cs hops
    → Leads (suc m) n (planted n spots b cs ts).tables last (Some b) (planted n spots b cs ts).key (here spots b 16 ++ hops)
leads_planted m n ts last b spots cs hops h few there s f =
    let l = few_records spots b cs few in
    leads_with m n ts last b (tree_records spots b cs) (here spots b 16 ++ hops) h (omega arith)
    (straight_append (Straight m n ts) n last b (mrms spots b 16) (rrs cs) (straight_mrms (Straight m n ts) n last b spots 16 there s (omega arith)) (straight_rrs m n ts last b cs hops f))
    (λ k bytes q.
    walk_append (λ d c j. ⊥) (reach_by (suc k) n ts bytes) n 4 b bytes (mrms spots b 16) (rrs cs) (straight_mrms (λ d c j. ⊥) n 4 b spots 16 there s (omega arith))
    ∙ ap (λ xs. xs ++ walk (reach_by (suc k) n ts bytes) n b bytes (rrs cs)) (walk_mrms (reach_by (suc k) n ts bytes) n b bytes spots 16 there s (omega arith))
    ∙ ap (λ xs. map (arrives bytes) (here spots b 16) ++ xs) (walk_rrs m k n ts last b bytes cs hops q f)
    ∙ sym (map-append (arrives bytes) (here spots b 16) hops))
