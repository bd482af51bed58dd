-- The out-edges of each vertex, edge by edge.
use Rattle.std.proofs.Common.{◌≡◌, ◌≢◌, ◌<◌, ℕ, suc, zero, ◌+◌, eqb, cond, Bool, true, false, List, [], ◌∷◌, ◌++◌, length, map, take, get_or, set, replicate, append-nil, refl, sym, ◌∙◌, ap, arith, length-set, drop, subst}
use Rattle.std.proofs.lemmas.Bool.Decides.{nat_tests}
use Rattle.std.proofs.lemmas.Grind.{common_steps}
use Rattle.std.proofs.lemmas.List.{get_or-replicate, get_or-set_other, get_or-set_same, get_or_default, map-append}
use Rattle.std.proofs.lemmas.List.Elements.{filter-append}
use Rattle.std.proofs.lemmas.List.FromFn.{fill_by_all, get_or-map-range_with_len, length-map-range_with_len}
use Rattle.std.specs.List.{All, filter, range_with_len}
use Rattle.graph_text.specs.declared.graph.EdgeRow.{EdgeRow}
use Rattle.graph_text.specs.declared.graph.Graph.{Graph}
use Rattle.graph_text.specs.Graph.{IsGraph}
use Rattle.polite_place.specs.Order.{AllBelow, AllListsBelow}
use Rattle.polite_place.specs.Outs.{Joins, out_lists, out_targets, outs_of}

abbrev pub no_edge : EdgeRow
no_edge = record { line = 0; from = 0; pin = 0; to = 0; value = 0 }

pub length_outs : (n : ℕ) (es : List EdgeRow) → length (out_lists n es) ≡ n
unfolding out_lists
length_outs n es = length-map-range_with_len (out_targets es) 0 n

pub out_at : (n : ℕ) (es : List EdgeRow) (v : ℕ) → v < n → get_or (out_lists n es) v [] ≡ out_targets es v
unfolding out_lists
out_at n es v h = get_or-map-range_with_len (out_targets es) 0 n v v [] h (omega arith)

pub lists_are : (n : ℕ) (es : List EdgeRow) (lists : List (List ℕ)) → length lists ≡ n → ((v : ℕ) → v < n → get_or lists v [] ≡ out_targets es v) → lists ≡ out_lists n es
unfolding out_lists
lists_are n es lists l h = fill_by_all (out_targets es) lists n [] l h

pub none_yet : (n : ℕ) (lists : List (List ℕ)) → lists ≡ replicate n [] → length lists ≡ n → lists ≡ out_lists n []
none_yet n lists e l = lists_are n [] lists l (λ v h. ap (λ xs. get_or xs v []) e ∙ get_or-replicate n v [] [] h)

targets_append : (es : List EdgeRow) (e : EdgeRow) (v : ℕ) → out_targets (es ++ e ∷ []) v ≡ out_targets es v ++ out_targets (e ∷ []) v
targets_append es e v =
    ap (λ xs. map (λ (x : EdgeRow). x.to) xs) (filter-append (λ (x : EdgeRow). eqb x.from v) es (e ∷ [])) ∙ map-append (λ (x : EdgeRow). x.to) (filter (λ (x : EdgeRow). eqb x.from v) es) (filter (λ (x : EdgeRow). eqb x.from v) (e ∷ []))

one_by : (e : EdgeRow) (v : ℕ) (b : Bool) → b ≡ eqb e.from v → map (λ (x : EdgeRow). x.to) (cond b (e ∷ []) []) ≡ cond b (e.to ∷ []) []
one_by e v true h = refl
one_by e v false h = refl

-- one more edge, whose list grew
added_by : (es : List EdgeRow) (lists : List (List ℕ)) (e : EdgeRow) (new : List ℕ) (n v : ℕ) (b : Bool) → b ≡ eqb e.from v → length lists ≡ n → v < n → new ≡ get_or lists e.from [] ++ e.to ∷ [] → get_or lists v [] ≡ out_targets es v
    → get_or (set lists e.from new) v [] ≡ out_targets es v ++ map (λ (x : EdgeRow). x.to) (cond b (e ∷ []) [])
added_by es lists e new n v true h l w m old =
    let i : e.from ≡ v = grind (arith, nat_tests) in
    let k : e.from < length lists = omega arith in
    ap (λ j. get_or (set lists e.from new) j []) (sym i) ∙ get_or-set_same lists e.from new [] k ∙ m ∙ ap (λ j. get_or lists j [] ++ e.to ∷ []) i ∙ ap (λ xs. xs ++ e.to ∷ []) old
added_by es lists e new n v false h l w m old =
    let i : v ≢ e.from = grind (arith, nat_tests) in
    get_or-set_other lists e.from v new [] i ∙ old ∙ sym (append-nil (out_targets es v))

pub added : (n : ℕ) (es : List EdgeRow) (lists : List (List ℕ)) (e : EdgeRow) (new : List ℕ) → lists ≡ out_lists n es → new ≡ get_or lists e.from [] ++ e.to ∷ [] → set lists e.from new ≡ out_lists n (es ++ e ∷ [])
added n es lists e new l m =
    let long : length lists ≡ n = ap length l ∙ length_outs n es in
    lists_are n (es ++ e ∷ []) (set lists e.from new) (length-set lists e.from new ∙ long)
    (λ v h. added_by es lists e new n v (eqb e.from v) refl long h m (ap (λ xs. get_or xs v []) l ∙ out_at n es v h) ∙ sym (targets_append es e v))

take_one : (es : List EdgeRow) (i : ℕ) → i < length es → take (i + 1) es ≡ take i es ++ get_or es i no_edge ∷ []
take_one es i h = grind (arith, common_steps)

-- the loop's step
pub gathered : (n : ℕ) (es : List EdgeRow) (i : ℕ) (lists : List (List ℕ)) (d new : List ℕ) (e : EdgeRow) → i < length es → e ≡ get_or es i no_edge → lists ≡ out_lists n (take i es) → e.from < length lists → new ≡ get_or lists e.from d ++ e.to ∷ []
    → set lists e.from new ≡ out_lists n (take (i + 1) es)
gathered n es i lists d new e h is l b m =
    added n (take i es) lists e new l (m ∙ ap (λ xs. xs ++ e.to ∷ []) (get_or_default lists e.from d [] b)) ∙ ap (out_lists n) (ap (λ x. take i es ++ x ∷ []) is ∙ sym (take_one es i h))

-- each edge leads to a vertex that is there
below_map : (n : ℕ) (v : ℕ) (es : List EdgeRow) → All (Joins n) es → AllBelow n (out_targets es v)
below_map n v [] a = tt
below_map n v (e ∷ es) a = go (eqb e.from v) (below_map n v es (λ k d h. a (suc k) d (omega arith))) (a 0 no_edge (omega arith)).to where
  go : (b : Bool) → AllBelow n (out_targets es v) → e.to < n → AllBelow n (map (λ (x : EdgeRow). x.to) (cond b (e ∷ filter (λ (x : EdgeRow). eqb x.from v) es) (filter (λ (x : EdgeRow). eqb x.from v) es)))
  go true rest h = (h, rest)
  go false rest h = rest

below_lists : (n : ℕ) (f : ℕ → List ℕ) (a m : ℕ) → ((v : ℕ) → AllBelow n (f v)) → AllListsBelow n (map f (range_with_len a m))
below_lists n f a zero h = tt
below_lists n f a (suc m) h = (h a, below_lists n f (a + 1) m h)

pub outs_below : (n : ℕ) (es : List EdgeRow) → All (Joins n) es → AllListsBelow (length (out_lists n es)) (out_lists n es)
unfolding out_lists
outs_below n es a = rw (length-map-range_with_len (out_targets es) 0 n) (below_lists n (out_targets es) 0 n (λ v. below_map n v es a))

pub joins : (g : Graph) → IsGraph g → All (Joins (length g.vertices)) g.edges
joins g h = λ k d lt. let e = h.edges k d lt in record { from = e.from; to = e.to }

whole : (xs ys : List (List ℕ)) (n : ℕ) → n ≡ length ys → length xs ≡ length ys → take n (xs ++ drop (length xs) ys) ≡ xs
whole xs ys n e l = grind (arith, common_steps)

pub all_below : (g : Graph) (new old : List (List ℕ)) (m k : ℕ) → IsGraph g → m ≡ length old → length new ≡ length old → new ≡ out_lists k g.edges → k ≡ length g.vertices
    → AllListsBelow (length (take m (new ++ drop (length new) old))) (take m (new ++ drop (length new) old))
all_below g new old m k h a b e v =
    let w : take m (new ++ drop (length new) old) ≡ outs_of g = whole new old m a b ∙ e ∙ ap (λ n. out_lists n g.edges) v in
    subst (λ (xs : List (List ℕ)). AllListsBelow (length xs) xs) (sym w) (outs_below (length g.vertices) g.edges (joins g h))
