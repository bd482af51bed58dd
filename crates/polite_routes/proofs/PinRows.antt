-- The pins of a graph, edge by edge.
use Rattle.std.proofs.Common.{◌≡◌, ◌≢◌, ◌<◌, ◌≤◌, ℕ, suc, zero, ◌+◌, ◌*◌, ◌/◌, ◌%◌, eqb, cond, Bool, true, false, ◌&&◌, List, [], ◌∷◌, ◌++◌, length, get_or, set, map, append-nil, refl, sym, ◌∙◌, ap, arith, length-set, subst}
use Rattle.std.proofs.lemmas.Bool.Decides.{nat_tests}
use Rattle.std.proofs.lemmas.List.{get_or-set_other, get_or-set_same, map-append, map-id}
use Rattle.std.proofs.lemmas.List.FromFn.{fill_by_all, filter_of_map_range_with_len_more, get_or-map-range_with_len, length-map-range_with_len}
use Rattle.std.specs.Prelude.{slice_get}
use Rattle.std.specs.List.{All, filter, range_with_len}
use Rattle.tn_base.specs.declared.shape.ShapeNumbers.{ShapeNumbers}
use Rattle.tn_base.specs.Address.{has_thread}
use Rattle.graph_text.specs.declared.graph.EdgeRow.{EdgeRow}
use Rattle.graph_text.specs.declared.graph.Graph.{Graph}
use Rattle.graph_text.specs.declared.graph.KindRow.{KindRow}
use Rattle.graph_text.specs.declared.graph.VertexRow.{VertexRow}
use Rattle.graph_text.specs.Graph.{IsGraph, IsKind, pins_at, pins_of as kind_pins, vertex_pins}
use Rattle.polite_place.specs.declared.placement.Seat.{Seat}
use Rattle.polite_place.specs.Seats.{Seated, seat_of}
use Rattle.polite_routes.specs.declared.target.Pin.{Pin}
use Rattle.polite_routes.specs.declared.target.Target.{Target}
use Rattle.polite_routes.specs.Pins.{comes_from, edge_row, first_edges, first_pins, pin_place, pin_with, pins_of, target_at, target_of}
use Rattle.polite_routes.specs.Routes.{PinThere, PinsThere}
use Rattle.polite_routes.proofs.Each.{parts}
use Rattle.polite_routes.proofs.Marking.{no_pin}

abbrev pub first_targets : List EdgeRow → ℕ → List Seat → ℕ → List Target
first_targets es m placement j = map (target_of es placement) (first_edges es m (j / 4) (j % 4))

abbrev first_pin : List EdgeRow → ℕ → List Seat → ℕ → Pin
first_pin es m placement j = pin_with placement (j / 4) (first_targets es m placement j)

pub length_pins : (v : ℕ) (es : List EdgeRow) (m : ℕ) (placement : List Seat) → length (first_pins v es m placement) ≡ v * 4
unfolding first_pins
length_pins v es m placement = length-map-range_with_len (first_pin es m placement) 0 (v * 4)

pub first_pin_at : (v : ℕ) (es : List EdgeRow) (m : ℕ) (placement : List Seat) (j : ℕ) (d : Pin) → j < v * 4 → get_or (first_pins v es m placement) j d ≡ first_pin es m placement j
unfolding first_pins
first_pin_at v es m placement j d h = get_or-map-range_with_len (first_pin es m placement) 0 (v * 4) j j d h (omega arith)

pins_are : (v : ℕ) (es : List EdgeRow) (m : ℕ) (placement : List Seat) (ps : List Pin) → length ps ≡ v * 4 → ((j : ℕ) → j < v * 4 → get_or ps j no_pin ≡ first_pin es m placement j) → ps ≡ first_pins v es m placement
unfolding first_pins
pins_are v es m placement ps l h = fill_by_all (first_pin es m placement) ps (v * 4) no_pin l h

-- pins without edges
abbrev pub bare_pin : List Seat → ℕ → Pin
bare_pin placement j = pin_with placement (j / 4) []

pub bare_pins : (v : ℕ) (es : List EdgeRow) (placement : List Seat) → map (bare_pin placement) (range_with_len 0 (v * 4)) ≡ first_pins v es 0 placement
unfolding first_pins
bare_pins v es placement = refl

edges_more : (es : List EdgeRow) (m v pin : ℕ) → first_edges es (m + 1) v pin ≡ first_edges es m v pin ++ cond (comes_from v pin (edge_row es m)) (m ∷ []) []
edges_more es m v pin =
    let p : ℕ → Bool = λ k. comes_from v pin (edge_row es k) in
    ap (filter p) (sym (map-id (range_with_len 0 (m + 1)))) ∙ filter_of_map_range_with_len_more p (λ k. k) 0 m m (omega arith)
    ∙ ap (λ xs. filter p xs ++ cond (p m) (m ∷ []) []) (map-id (range_with_len 0 m))

targets_more : (es : List EdgeRow) (m : ℕ) (placement : List Seat) (j : ℕ) → first_targets es (m + 1) placement j ≡ first_targets es m placement j ++ cond (comes_from (j / 4) (j % 4) (edge_row es m)) (target_of es placement m ∷ []) []
targets_more es m placement j =
    ap (map (target_of es placement)) (edges_more es m (j / 4) (j % 4))
    ∙ map-append (target_of es placement) (first_edges es m (j / 4) (j % 4)) (cond (comes_from (j / 4) (j % 4) (edge_row es m)) (m ∷ []) [])
    ∙ ap (λ xs. first_targets es m placement j ++ xs) (one (comes_from (j / 4) (j % 4) (edge_row es m))) where
      one : (b : Bool) → map (target_of es placement) (cond b (m ∷ []) []) ≡ cond b (target_of es placement m ∷ []) []
      one true = refl
      one false = refl

here : (from pin j : ℕ) (v : Bool) → pin < 4 → v ≡ eqb j (from * 4 + pin) → (eqb from (j / 4) && eqb pin (j % 4)) ≡ v
here from pin j true h e =
    let s : j ≡ from * 4 + pin = grind (arith, nat_tests) in
    let a : eqb from (j / 4) ≡ true = let q : from ≡ j / 4 = omega arith in grind (arith, nat_tests) in
    let b : eqb pin (j % 4) ≡ true = let q : pin ≡ j % 4 = omega arith in grind (arith, nat_tests) in
    rw (a, b) refl
here from pin j false h e =
    let s : j ≢ from * 4 + pin = grind (arith, nat_tests) in
    by (eqb from (j / 4)) (eqb pin (j % 4)) s refl refl where
      by : (a b : Bool) → j ≢ from * 4 + pin → a ≡ eqb from (j / 4) → b ≡ eqb pin (j % 4) → (a && b) ≡ false
      by true true n x y = absurd (let p : from ≡ j / 4 = grind (arith, nat_tests) in let q : pin ≡ j % 4 = grind (arith, nat_tests) in n (omega arith))
      by true false n x y = refl
      by false b n x y = refl

-- one edge more, at its pin
pub edge_given : (v : ℕ) (es : List EdgeRow) (m : ℕ) (placement : List Seat) (ps : List Pin) (e : EdgeRow) (old new : Pin) → e ≡ edge_row es m → e.from < v → e.pin < 4 → ps ≡ first_pins v es m placement
    → old ≡ get_or ps (e.from * 4 + e.pin) no_pin → new ≡ record { board = old.board; targets = old.targets ++ target_at placement m e ∷ [] } → set ps (e.from * 4 + e.pin) new ≡ first_pins v es (m + 1) placement
edge_given v es m placement ps e old new is f p all o w =
    let long : length ps ≡ v * 4 = ap length all ∙ length_pins v es m placement in
    let place : ℕ = e.from * 4 + e.pin in
    pins_are v es (m + 1) placement (set ps place new) (length-set ps place new ∙ long)
    (λ j h. by j h (eqb j place) refl) where
      by : (j : ℕ) → j < v * 4 → (b : Bool) → b ≡ eqb j (e.from * 4 + e.pin) → get_or (set ps (e.from * 4 + e.pin) new) j no_pin ≡ first_pin es (m + 1) placement j
      by j h true x =
          let s : j ≡ e.from * 4 + e.pin = grind (arith, nat_tests) in
          let room : e.from * 4 + e.pin < length ps = let l : length ps ≡ v * 4 = ap length all ∙ length_pins v es m placement in omega arith in
          let was : old ≡ first_pin es m placement j = o ∙ ap (λ i. get_or ps i no_pin) (sym s) ∙ ap (λ qs. get_or qs j no_pin) all ∙ first_pin_at v es m placement j no_pin h in
          let there : comes_from (j / 4) (j % 4) (edge_row es m) ≡ true = ap (λ (r : EdgeRow). comes_from (j / 4) (j % 4) r) (sym is) ∙ here e.from e.pin j true p x in
          ap (λ i. get_or (set ps (e.from * 4 + e.pin) new) i no_pin) s ∙ get_or-set_same ps (e.from * 4 + e.pin) new no_pin room ∙ w
          ∙ ap (λ (q : Pin). let r : Pin = record { board = q.board; targets = q.targets ++ target_at placement m e ∷ [] } in r) was
          ∙ ap (λ (r : EdgeRow). pin_with placement (j / 4) (first_targets es m placement j ++ target_at placement m r ∷ [])) is
          ∙ ap (pin_with placement (j / 4)) (ap (λ b. first_targets es m placement j ++ cond b (target_of es placement m ∷ []) []) (sym there) ∙ sym (targets_more es m placement j))
      by j h false x =
          let s : j ≢ e.from * 4 + e.pin = grind (arith, nat_tests) in
          let there : comes_from (j / 4) (j % 4) (edge_row es m) ≡ false = ap (λ (r : EdgeRow). comes_from (j / 4) (j % 4) r) (sym is) ∙ here e.from e.pin j false p x in
          get_or-set_other ps (e.from * 4 + e.pin) j new no_pin s ∙ ap (λ qs. get_or qs j no_pin) all ∙ first_pin_at v es m placement j no_pin h
          ∙ ap (pin_with placement (j / 4)) (sym (append-nil (first_targets es m placement j)) ∙ ap (λ b. first_targets es m placement j ++ cond b (target_of es placement m ∷ []) []) (sym there) ∙ sym (targets_more es m placement j))

-- what holds of some of a range's targets
pub all_targets : (P : Target → Type 0) (f : ℕ → Target) (p : ℕ → Bool) (a m : ℕ) → ((k : ℕ) → a ≤ k → k < a + m → P (f k)) → All P (map f (filter p (range_with_len a m)))
all_targets P f p a zero h = λ k d l. absurd (omega arith)
all_targets P f p a (suc m) h = by (p a) (all_targets P f p (a + 1) m (λ k x y. h k (omega arith) (omega arith))) where
  by : (b : Bool) → All P (map f (filter p (range_with_len (a + 1) m))) → All P (map f (cond b (a ∷ filter p (range_with_len (a + 1) m)) (filter p (range_with_len (a + 1) m))))
  by true r zero d l = h a (omega arith) (omega arith)
  by true r (suc k) d l = r k d (omega arith)
  by false r k d l = r k d l

pub edge_there : (g : Graph) (k : ℕ) → IsGraph g → k < length g.edges → ((edge_row g.edges k).from < length g.vertices) × ((edge_row g.edges k).to < length g.vertices) × ((edge_row g.edges k).pin < pins_at g (edge_row g.edges k).from)
edge_there g k h l = let e = h.edges k (record { line = 0; from = 0; pin = 0; to = 0; value = 0 }) l in (e.from, e.to, e.pin)

-- each pin of a graph is there
pub pins_there : (n : ShapeNumbers) (g : Graph) (placement : List Seat) → IsGraph g → length placement ≡ length g.vertices → Seated n g.per_thread placement → PinsThere n (pins_of g placement)
pins_there n g placement h c s = record { each = λ j d l. one j d l } where
  one : (j : ℕ) (d : Pin) → j < length (pins_of g placement) → PinThere n (get_or (pins_of g placement) j d)
  one j d l =
      let b : j < length g.vertices * 4 = let e = length_pins (length g.vertices) g.edges (length g.edges) placement in omega arith in
      subst (λ (q : Pin). PinThere n q) (sym (first_pin_at (length g.vertices) g.edges (length g.edges) placement j d b)) (record {
        board = let x = parts n (seat_of placement (j / 4)).thread.0 (s.there (j / 4) (omega arith)) in (x.board_x, x.board_y);
        targets = record {
          there = all_targets (λ (t : Target). has_thread n t.thread.0 ≡ true) (target_of g.edges placement) (λ k. comes_from (j / 4) (j % 4) (edge_row g.edges k)) 0 (length g.edges)
              (λ k x y. let e = edge_there g k h (omega arith) in s.there (edge_row g.edges k).to (let t = e.1 in omega arith));
        };
      })

-- a vertex has at most four pins
kind_few : (ks : List KindRow) (i : ℕ) → All IsKind ks → kind_pins (slice_get ks i) ≤ 4
kind_few [] i h = omega arith
kind_few (k ∷ ks) zero h = (h 0 k (omega arith)).pins
kind_few (k ∷ ks) (suc i) h = kind_few ks i (λ j d l. h (suc j) d (omega arith))

vertex_few : (g : Graph) (vs : List VertexRow) (v : ℕ) → All IsKind g.kinds → vertex_pins g (slice_get vs v) ≤ 4
vertex_few g [] v h = omega arith
vertex_few g (x ∷ xs) zero h = kind_few g.kinds x.kind h
vertex_few g (x ∷ xs) (suc v) h = vertex_few g xs v h

pub few_pins : (g : Graph) (v : ℕ) → IsGraph g → pins_at g v ≤ 4
few_pins g v h = vertex_few g g.vertices v h.kinds

-- an edge's pin is one of all pins
pub pin_there : (g : Graph) (k : ℕ) → IsGraph g → k < length g.edges → pins_at g (edge_row g.edges k).from ≤ 4 → pin_place (edge_row g.edges k).from (edge_row g.edges k).pin < length g.vertices * 4
pin_there g k h l few = let e = edge_there g k h l in let a = e.0 in let b = e.2 in omega arith
