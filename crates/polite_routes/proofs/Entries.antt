-- In-edge lists, edge by edge and pin by pin.
use Rattle.std.proofs.Common.{◌≡◌, ◌≢◌, ◌<◌, ℕ, suc, zero, ◌+◌, ◌/◌, eqb, cond, Bool, true, false, ◌||◌, ◌&&◌, List, [], ◌∷◌, ◌++◌, length, get_or, set, map, take, replicate, append-nil, append_assoc, refl, sym, ◌∙◌, ap, arith, length-set, drop}
use Rattle.std.proofs.lemmas.Bool.Decides.{nat_tests}
use Rattle.std.proofs.lemmas.Bool.{or_parts}
use Rattle.std.proofs.lemmas.Grind.{common_steps}
use Rattle.std.proofs.lemmas.List.{ext_get_or, get_or_append_left, get_or_push, get_or-set_other, get_or-set_same, map-append, get_or-map, map-set}
use Rattle.std.proofs.lemmas.List.Elements.{filter-append}
use Rattle.std.proofs.lemmas.List.FromFn.{fill_by_all}
use Rattle.std.specs.List.{filter}
use Rattle.tn_base.specs.declared.shape.ShapeNumbers.{ShapeNumbers}
use Rattle.tn_base.specs.Address.{has_thread, thread_at}
use Rattle.tn_base.specs.Shape.{thread_count}
use Rattle.polite_switch.specs.declared.device.InEdge.{InEdge}
use Rattle.polite_routes.specs.declared.target.Pin.{Pin}
use Rattle.polite_routes.specs.declared.target.Target.{Target}
use Rattle.polite_routes.specs.InEdges.{Located, edges_in}
use Rattle.polite_routes.specs.Once.{AllThere}
use Rattle.polite_routes.specs.Routes.{in_edges_of, lists_to, trees_to}
use Rattle.polite_routes.specs.Targets.{AllLow, edges_to, leads_to, reaches}
use Rattle.polite_routes.proofs.Each.{parts}
use Rattle.polite_routes.proofs.Marking.{no_pin, no_target, pins_one, take_one}

-- all lists of all threads
abbrev pub ByThread : Type 0
ByThread = List (List (List InEdge))

abbrev pub if_edge : Bool → InEdge → List InEdge
if_edge b e = cond b (e ∷ []) []

edges_push : (ts : List Target) (t : Target) (a : ℕ) → edges_to (ts ++ t ∷ []) a ≡ edges_to ts a ++ if_edge (eqb t.thread.0 a) t.edge
edges_push ts t a =
    ap (λ xs. map (λ (x : Target). x.edge) xs) (filter-append (λ (x : Target). eqb x.thread.0 a) ts (t ∷ []))
    ∙ map-append (λ (x : Target). x.edge) (filter (λ (x : Target). eqb x.thread.0 a) ts) (filter (λ (x : Target). eqb x.thread.0 a) (t ∷ []))
    ∙ ap (λ xs. edges_to ts a ++ xs) (one (eqb t.thread.0 a)) where
      one : (b : Bool) → map (λ (x : Target). x.edge) (cond b (t ∷ []) []) ≡ if_edge b t.edge
      one true = refl
      one false = refl

edges_more : (ts : List Target) (m : ℕ) (t : Target) (a : ℕ) → m < length ts → t ≡ get_or ts m no_target → edges_to (take (m + 1) ts) a ≡ edges_to (take m ts) a ++ if_edge (eqb t.thread.0 a) t.edge
edges_more ts m t a h is = ap (λ xs. edges_to xs a) (take_one ts m h ∙ ap (λ x. take m ts ++ x ∷ []) (sym is)) ∙ edges_push (take m ts) t a

-- a thread of a tile to which no edge leads has no edges
pub no_edges_to : (ts : List Target) (a : ℕ) → reaches ts (a / 64) ≡ false → edges_to ts a ≡ []
no_edges_to [] a h = refl
no_edges_to (t ∷ ts) a h =
    let p = or_parts (leads_to (a / 64) t) (reaches ts (a / 64)) h in
    let n : eqb t.thread.0 a ≡ false = by (eqb t.thread.0 a) refl p.0 in
    ap (λ b. map (λ (x : Target). x.edge) (cond b (t ∷ filter (λ (x : Target). eqb x.thread.0 a) ts) (filter (λ (x : Target). eqb x.thread.0 a) ts))) n ∙ no_edges_to ts a p.1 where
      by : (v : Bool) → v ≡ eqb t.thread.0 a → eqb (t.thread.0 / 64) (a / 64) ≡ false → v ≡ false
      by true e f = let s : t.thread.0 ≡ a = grind (arith, nat_tests) in let g : eqb (t.thread.0 / 64) (a / 64) ≡ true = ap (λ x. eqb (x / 64) (a / 64)) s ∙ same (a / 64) in absurd (cc) where
        same : (x : ℕ) → eqb x x ≡ true
        same x = grind (arith, nat_tests)
      by false e f = refl

-- an edge at the end of a list
pushed_by : (lists : ByThread) (i0 l0 : ℕ) (e : InEdge) (new : List (List InEdge)) (i k : ℕ) (v w : Bool) → v ≡ eqb i i0 → w ≡ eqb k l0 → i0 < length lists → l0 < length (get_or lists i0 [])
    → new ≡ set (get_or lists i0 []) l0 (get_or (get_or lists i0 []) l0 [] ++ e ∷ []) → edges_in (set lists i0 new) i k ≡ edges_in lists i k ++ if_edge (v && w) e
pushed_by lists i0 l0 e new i k true true p q a b n =
    let s : i ≡ i0 = grind (arith, nat_tests) in
    let t : k ≡ l0 = grind (arith, nat_tests) in
    ap (λ j. get_or (get_or (set lists i0 new) j []) k []) s ∙ ap (λ x. get_or x k []) (get_or-set_same lists i0 new [] a ∙ n) ∙ ap (λ j. get_or (set (get_or lists i0 []) l0 (get_or (get_or lists i0 []) l0 [] ++ e ∷ [])) j []) t
    ∙ get_or-set_same (get_or lists i0 []) l0 (get_or (get_or lists i0 []) l0 [] ++ e ∷ []) [] b
    ∙ ap (λ j. get_or (get_or lists i0 []) j [] ++ e ∷ []) (sym t) ∙ ap (λ j. edges_in lists j k ++ e ∷ []) (sym s)
pushed_by lists i0 l0 e new i k true false p q a b n =
    let s : i ≡ i0 = grind (arith, nat_tests) in
    let t : k ≢ l0 = grind (arith, nat_tests) in
    ap (λ j. get_or (get_or (set lists i0 new) j []) k []) s ∙ ap (λ x. get_or x k []) (get_or-set_same lists i0 new [] a ∙ n)
    ∙ get_or-set_other (get_or lists i0 []) l0 k (get_or (get_or lists i0 []) l0 [] ++ e ∷ []) [] t
    ∙ ap (λ j. edges_in lists j k) (sym s) ∙ sym (append-nil (edges_in lists i k))
pushed_by lists i0 l0 e new i k false w p q a b n =
    let s : i ≢ i0 = grind (arith, nat_tests) in
    ap (λ x. get_or x k []) (get_or-set_other lists i0 i new [] s) ∙ sym (append-nil (edges_in lists i k))

-- which list an edge is on: that of its thread at the local key there
same_place : (n : ShapeNumbers) (places locals : List ℕ) (i i0 k a : ℕ) (v w : Bool) → Located n places → i < thread_count n → i0 < thread_count n → thread_at n i0 ≡ a → v ≡ eqb i i0 → w ≡ eqb a (thread_at n i)
    → (v && eqb k (get_or locals (a / 64) 0)) ≡ (eqb k (get_or locals (thread_at n i / 64) 0) && w)
same_place n places locals i i0 k a true true p hi h0 e x y =
    let s : a ≡ thread_at n i = grind (arith, nat_tests) in
    ap (λ b. eqb k (get_or locals (b / 64) 0)) s ∙ sym (and_true (eqb k (get_or locals (thread_at n i / 64) 0))) where
      and_true : (b : Bool) → (b && true) ≡ b
      and_true true = refl
      and_true false = refl
same_place n places locals i i0 k a true false p hi h0 e x y =
    let s : i ≡ i0 = grind (arith, nat_tests) in
    let t : a ≡ thread_at n i = sym e ∙ ap (thread_at n) (sym s) in
    let f : eqb a (thread_at n i) ≡ true = grind (arith, nat_tests) in
    absurd (cc)
same_place n places locals i i0 k a false true p hi h0 e x y =
    let s : a ≡ thread_at n i = grind (arith, nat_tests) in
    let t : i ≡ i0 = sym (p.each i hi) ∙ ap (λ b. get_or places b 0) (sym s ∙ sym e) ∙ p.each i0 h0 in
    let f : eqb i i0 ≡ true = grind (arith, nat_tests) in
    absurd (cc)
same_place n places locals i i0 k a false false p hi h0 e x y = sym (and_false (eqb k (get_or locals (thread_at n i / 64) 0))) where
  and_false : (b : Bool) → (b && false) ≡ false
  and_false true = refl
  and_false false = refl

both : (b c : Bool) (xs : List InEdge) (e : InEdge) → cond b xs [] ++ if_edge (b && c) e ≡ cond b (xs ++ if_edge c e) []
both true c xs e = refl
both false c xs e = refl

-- one edge of a pin more
pub edge_added : (n : ShapeNumbers) (places locals : List ℕ) (old lists : ByThread) (ts : List Target) (m : ℕ) (t : Target) (i0 : ℕ) (new : List (List InEdge)) (i k : ℕ) → Located n places → m < length ts → t ≡ get_or ts m no_target
    → i < thread_count n → i0 < thread_count n → thread_at n i0 ≡ t.thread.0 → i0 < length lists → get_or locals (t.thread.0 / 64) 0 < length (get_or lists i0 [])
    → new ≡ set (get_or lists i0 []) (get_or locals (t.thread.0 / 64) 0) (get_or (get_or lists i0 []) (get_or locals (t.thread.0 / 64) 0) [] ++ t.edge ∷ [])
    → edges_in lists i k ≡ edges_in old i k ++ cond (eqb k (get_or locals (thread_at n i / 64) 0)) (edges_to (take m ts) (thread_at n i)) []
    → edges_in (set lists i0 new) i k ≡ edges_in old i k ++ cond (eqb k (get_or locals (thread_at n i / 64) 0)) (edges_to (take (m + 1) ts) (thread_at n i)) []
edge_added n places locals old lists ts m t i0 new i k p h is hi h0 at room long w before =
    let b : Bool = eqb k (get_or locals (thread_at n i / 64) 0) in
    let a : ℕ = thread_at n i in
    pushed_by lists i0 (get_or locals (t.thread.0 / 64) 0) t.edge new i k (eqb i i0) (eqb k (get_or locals (t.thread.0 / 64) 0)) refl refl room long w
    ∙ ap (λ c. edges_in lists i k ++ if_edge c t.edge) (same_place n places locals i i0 k t.thread.0 (eqb i i0) (eqb t.thread.0 a) p hi h0 at refl refl)
    ∙ ap (λ xs. xs ++ if_edge (b && eqb t.thread.0 a) t.edge) before
    ∙ append_assoc (edges_in old i k) (cond b (edges_to (take m ts) a) []) (if_edge (b && eqb t.thread.0 a) t.edge)
    ∙ ap (λ xs. edges_in old i k ++ xs) (both b (eqb t.thread.0 a) (edges_to (take m ts) a) t.edge ∙ ap (λ xs. cond b xs []) (sym (edges_more ts m t a h is)))

-- no list changes its number of lists
pub same_room : (lists : ByThread) (i0 i : ℕ) (l0 : ℕ) (es : List InEdge) (new : List (List InEdge)) → i0 < length lists → new ≡ set (get_or lists i0 []) l0 es → length (get_or (set lists i0 new) i []) ≡ length (get_or lists i [])
same_room lists i0 i l0 es new h w = by (eqb i i0) refl where
  by : (v : Bool) → v ≡ eqb i i0 → length (get_or (set lists i0 new) i []) ≡ length (get_or lists i [])
  by true e =
      let s : i ≡ i0 = grind (arith, nat_tests) in
      ap (λ j. length (get_or (set lists i0 new) j [])) s ∙ ap length (get_or-set_same lists i0 new [] h ∙ w) ∙ length-set (get_or lists i0 []) l0 es ∙ ap (λ j. length (get_or lists j [])) (sym s)
  by false e = let s : i ≢ i0 = grind (arith, nat_tests) in ap length (get_or-set_other lists i0 i new [] s)

-- how many lists a thread has
lists_count : (ps : List Pin) (a : ℕ) → length (lists_to ps a) ≡ trees_to ps (a / 64)
unfolding lists_to
lists_count [] a = refl
lists_count (p ∷ ps) a = by (reaches p.targets (a / 64)) (lists_count ps a) where
  by : (b : Bool) → length (map (λ (q : Pin). edges_to q.targets a) (filter (λ (q : Pin). reaches q.targets (a / 64)) ps)) ≡ trees_to ps (a / 64)
      → length (map (λ (q : Pin). edges_to q.targets a) (cond b (p ∷ filter (λ (q : Pin). reaches q.targets (a / 64)) ps) (filter (λ (q : Pin). reaches q.targets (a / 64)) ps))) ≡ cond b 1 0 + trees_to ps (a / 64)
  by true e = omega arith
  by false e = omega arith

lists_push : (ps : List Pin) (p : Pin) (a : ℕ) → lists_to (ps ++ p ∷ []) a ≡ lists_to ps a ++ cond (reaches p.targets (a / 64)) (edges_to p.targets a ∷ []) []
unfolding lists_to
lists_push ps p a =
    ap (λ xs. map (λ (q : Pin). edges_to q.targets a) xs) (filter-append (λ (q : Pin). reaches q.targets (a / 64)) ps (p ∷ []))
    ∙ map-append (λ (q : Pin). edges_to q.targets a) (filter (λ (q : Pin). reaches q.targets (a / 64)) ps) (filter (λ (q : Pin). reaches q.targets (a / 64)) (p ∷ []))
    ∙ ap (λ xs. map (λ (q : Pin). edges_to q.targets a) (filter (λ (q : Pin). reaches q.targets (a / 64)) ps) ++ xs) (one (reaches p.targets (a / 64))) where
      one : (b : Bool) → map (λ (q : Pin). edges_to q.targets a) (cond b (p ∷ []) []) ≡ cond b (edges_to p.targets a ∷ []) []
      one true = refl
      one false = refl

-- a list of lists with one more
at_end : (xs : List (List InEdge)) (es : List InEdge) (k : ℕ) (v : Bool) → v ≡ eqb k (length xs) → get_or (xs ++ es ∷ []) k [] ≡ get_or xs k [] ++ cond v es []
at_end [] es zero true e = refl
at_end [] es zero false e = absurd (cc)
at_end [] es (suc k) true e = absurd (let z : suc k ≡ 0 = grind (arith, nat_tests) in omega arith)
at_end [] es (suc k) false e = refl
at_end (x ∷ xs) es zero true e = absurd (let z : 0 ≡ suc (length xs) = grind (arith, nat_tests) in omega arith)
at_end (x ∷ xs) es zero false e = sym (append-nil x)
at_end (x ∷ xs) es (suc k) v e = at_end xs es k v (e ∙ same) where
  same : eqb (suc k) (suc (length xs)) ≡ eqb k (length xs)
  same = grind (arith, nat_tests)

entry_by : (ps : List Pin) (p : Pin) (a k : ℕ) (r : Bool) → r ≡ reaches p.targets (a / 64)
    → get_or (lists_to ps a ++ cond r (edges_to p.targets a ∷ []) []) k [] ≡ get_or (lists_to ps a) k [] ++ cond (eqb k (trees_to ps (a / 64))) (edges_to p.targets a) []
entry_by ps p a k true e = at_end (lists_to ps a) (edges_to p.targets a) k (eqb k (trees_to ps (a / 64))) (ap (eqb k) (sym (lists_count ps a)))
entry_by ps p a k false e =
    ap (λ xs. get_or xs k []) (append-nil (lists_to ps a)) ∙ sym (append-nil (get_or (lists_to ps a) k []))
    ∙ ap (λ xs. get_or (lists_to ps a) k [] ++ xs) (sym (none (eqb k (trees_to ps (a / 64)))) ∙ ap (λ es. cond (eqb k (trees_to ps (a / 64))) es []) (sym (no_edges_to p.targets a (sym e)))) where
      none : (b : Bool) → cond {A = List InEdge} b [] [] ≡ []
      none true = refl
      none false = refl

-- one pin more
pub pin_added : (ps : List Pin) (j : ℕ) (p : Pin) (a k local : ℕ) (old new : List InEdge) → j < length ps → p ≡ get_or ps j no_pin → local ≡ trees_to (take j ps) (a / 64)
    → old ≡ get_or (lists_to (take j ps) a) k [] → new ≡ old ++ cond (eqb k local) (edges_to p.targets a) [] → new ≡ get_or (lists_to (take (j + 1) ps) a) k []
pin_added ps j p a k local old new h is l o w =
    w ∙ ap (λ xs. xs ++ cond (eqb k local) (edges_to p.targets a) []) o
    ∙ ap (λ x. get_or (lists_to (take j ps) a) k [] ++ cond (eqb k x) (edges_to p.targets a) []) l
    ∙ sym (entry_by (take j ps) p a k (reaches p.targets (a / 64)) refl)
    ∙ ap (λ xs. get_or xs k []) (sym (lists_push (take j ps) p a))
    ∙ ap (λ qs. get_or (lists_to qs a) k []) (sym (pins_one ps j h ∙ ap (λ x. take j ps ++ x ∷ []) (sym is)))

blank : (c k : ℕ) → get_or {A = List InEdge} (replicate c []) k [] ≡ []
blank zero k = refl
blank (suc c) zero = refl
blank (suc c) (suc k) = blank c k

no_lists : (a k : ℕ) → get_or (lists_to [] a) k [] ≡ []
unfolding lists_to
no_lists a k = refl

pub none_listed : (lists : ByThread) (i a c k : ℕ) → get_or lists i [] ≡ replicate c [] → edges_in lists i k ≡ get_or (lists_to [] a) k []
none_listed lists i a c k e = ap (λ xs. get_or xs k []) e ∙ blank c k ∙ sym (no_lists a k)

-- all pins
pub all_listed : (n : ShapeNumbers) (ps : List Pin) (lists : ByThread) → length lists ≡ thread_count n → ((i : ℕ) → i < thread_count n → length (get_or lists i []) ≡ trees_to ps (thread_at n i / 64))
    → ((i k : ℕ) → i < thread_count n → edges_in lists i k ≡ get_or (lists_to ps (thread_at n i)) k []) → lists ≡ in_edges_of n ps
all_listed n ps lists l r e =
    fill_by_all (λ i. lists_to ps (thread_at n i)) lists (thread_count n) [] l
    (λ i h. ext_get_or [] (get_or lists i []) (lists_to ps (thread_at n i)) (r i h ∙ sym (lists_count ps (thread_at n i))) (λ k q. e i k h))

-- an edge at the end of a list, of lists that stand behind a view
pub list_pushed : {V : Type 0} (items : V → List InEdge) (vs : List V) (i : ℕ) (old new : V) (e : InEdge) → i < length vs → old ≡ get_or vs i old → items new ≡ items old ++ e ∷ []
    → map items (set vs i new) ≡ set (map items vs) i (get_or (map items vs) i [] ++ e ∷ [])
list_pushed items vs i old new e h is w =
    map-set items vs i new ∙ ap (set (map items vs) i) (w ∙ ap (λ xs. xs ++ e ∷ []) (ap items is ∙ sym (get_or-map items vs i old [] h)))

-- the place of the thread of an edge
pub record Found (n : ShapeNumbers) (places : List ℕ) (a : ℕ) : Type 0 where
  pub below : get_or places a 0 < thread_count n
  pub at : thread_at n (get_or places a 0) ≡ a

pub found : (n : ShapeNumbers) (places : List ℕ) (a : ℕ) → Located n places → (i : ℕ) × (i < thread_count n) × (thread_at n i ≡ a) → Found n places a
found n places a p f =
    let e : get_or places a 0 ≡ f.0 = ap (λ b. get_or places b 0) (sym f.2) ∙ p.each f.0 f.1 in
    record { below = let l = f.1 in omega arith; at = ap (thread_at n) e ∙ f.2 }

pub reaches_at : (ts : List Target) (m : ℕ) → m < length ts → reaches ts ((get_or ts m no_target).thread.0 / 64) ≡ true
reaches_at [] m h = absurd (omega arith)
reaches_at (t ∷ ts) zero h = ap (λ b. b || reaches ts (t.thread.0 / 64)) same where
  same : eqb (t.thread.0 / 64) (t.thread.0 / 64) ≡ true
  same = grind (arith, nat_tests)
reaches_at (t ∷ ts) (suc m) h = ap (λ b. leads_to ((get_or ts m no_target).thread.0 / 64) t || b) (reaches_at ts m (omega arith)) ∙ any (leads_to ((get_or ts m no_target).thread.0 / 64) t) where
  any : (b : Bool) → (b || true) ≡ true
  any true = refl
  any false = refl

-- what a pin's edges need of the lists
abbrev pub HasRoom : ShapeNumbers → List ℕ → List Target → ByThread → Type 0
HasRoom n locals ts lists = (i : ℕ) → i < thread_count n → reaches ts (thread_at n i / 64) ≡ true → get_or locals (thread_at n i / 64) 0 < length (get_or lists i [])

pub room_for : (n : ShapeNumbers) (places locals : List ℕ) (old lists : ByThread) (ts : List Target) (m : ℕ) → Found n places (get_or ts m no_target).thread.0 → m < length ts → HasRoom n locals ts old
    → ((i : ℕ) → length (get_or lists i []) ≡ length (get_or old i [])) → get_or locals ((get_or ts m no_target).thread.0 / 64) 0 < length (get_or lists (get_or places (get_or ts m no_target).thread.0 0) [])
room_for n places locals old lists ts m f h room same =
    let a : ℕ = (get_or ts m no_target).thread.0 in
    let r = room (get_or places a 0) f.below (ap (λ b. reaches ts (b / 64)) f.at ∙ reaches_at ts m h) in
    let e : get_or locals (thread_at n (get_or places a 0) / 64) 0 ≡ get_or locals (a / 64) 0 = ap (λ b. get_or locals (b / 64) 0) f.at in
    let s = same (get_or places a 0) in
    omega arith

pub low_targets : (n : ShapeNumbers) (ts : List Target) → AllThere n ts → AllLow ts
low_targets n ts h = record { low = λ k d l. (parts n (get_or ts k d).thread.0 (h.there k d l)).small }

pub tile_small : (n : ShapeNumbers) (a : ℕ) → has_thread n a ≡ true → a / 64 < 256
tile_small n a h = let s = (parts n a h).small in omega arith

-- one place more
pub place_set : (n : ShapeNumbers) (places : List ℕ) (t a i : ℕ) → length places ≡ 16384 → a ≡ thread_at n t → a < 16384 → (i < t → thread_at n i < thread_at n t) → (i < t → get_or places (thread_at n i) 0 ≡ i) → i < t + 1
    → get_or (set places a t) (thread_at n i) 0 ≡ i
place_set n places t a i l e s up old h = by (eqb i t) refl where
  by : (v : Bool) → v ≡ eqb i t → get_or (set places a t) (thread_at n i) 0 ≡ i
  by true q =
      let same : i ≡ t = grind (arith, nat_tests) in
      ap (λ j. get_or (set places a t) (thread_at n j) 0) same ∙ ap (λ j. get_or (set places a t) j 0) (sym e) ∙ get_or-set_same places a t 0 (omega arith) ∙ sym same
  by false q =
      let d : i < t = grind (arith, nat_tests) in
      let u = up d in
      let other : thread_at n i ≢ a = omega arith in
      get_or-set_other places a (thread_at n i) t 0 other ∙ old d

-- what a slice of a vector gives back to it
pub given_back : {A : Type 0} (xs ys : List A) (n : ℕ) → n ≡ length ys → length xs ≡ length ys → take n (xs ++ drop (length xs) ys) ≡ xs
given_back xs ys n e l = grind (arith, common_steps)

-- one thread more
pub thread_added : (xs new : ByThread) (x : List (List InEdge)) (f : ℕ → List (List InEdge)) (t i : ℕ) → new ≡ xs ++ x ∷ [] → length xs ≡ t → x ≡ f t → (i < t → get_or xs i [] ≡ f i) → i < t + 1 → get_or new i [] ≡ f i
thread_added xs new x f t i e l is old h = by (eqb i t) refl where
  by : (v : Bool) → v ≡ eqb i t → get_or new i [] ≡ f i
  by true q =
      let same : i ≡ t = grind (arith, nat_tests) in
      ap (λ ys. get_or ys i []) e ∙ get_or_push xs x [] i (l ∙ sym same) ∙ is ∙ ap f (sym same)
  by false q =
      let d : i < t = grind (arith, nat_tests) in
      ap (λ ys. get_or ys i []) e ∙ get_or_append_left xs (x ∷ []) [] i (omega arith) ∙ old d
