-- What the key of a pin of a graph reaches.
use Rattle.std.proofs.Common.{ℕ, ◌≡◌, ◌<◌, ◌≤◌, ◌+◌, ◌/◌, ◌%◌, ◌∷◌, ◌∙◌, [], List, Bool, true, false, cond, eqb, zero, suc, filter, length, map, refl, sym, ap, subst, arith, Option, Ok, Err, Result}
use Rattle.std.proofs.lemmas.Bool.{and_parts}
use Rattle.std.proofs.lemmas.Bool.Decides.{nat_tests}
use Rattle.std.proofs.lemmas.List.Sums.{sum_by-cons}
use Rattle.std.specs.List.{AllByRecursion, range_with_len, sum_by}
use Rattle.tn_base.specs.declared.shape.ShapeNumbers.{ShapeNumbers}
use Rattle.tn_base.specs.Shape.{WithinLimits}
use Rattle.tn_keys.specs.Tables.{Table}
use Rattle.graph_text.specs.declared.graph.EdgeRow.{EdgeRow}
use Rattle.graph_text.specs.declared.graph.Graph.{Graph}
use Rattle.graph_text.specs.Graph.{IsGraph, pins_at}
use Rattle.polite_place.specs.declared.placement.Seat.{Seat}
use Rattle.polite_place.specs.Seats.{seat_of}
use Rattle.polite_routes.specs.declared.routes.RouteSet.{RouteSet}
use Rattle.polite_routes.specs.declared.target.Pin.{Pin}
use Rattle.polite_routes.specs.declared.target.RouteStop.{RouteStop}
use Rattle.polite_routes.specs.declared.target.RouteStop.TheVariants.{KeysFull}
use Rattle.polite_routes.specs.declared.target.Target.{Target}
use Rattle.polite_routes.specs.Answer.{lists_in, pin_key, routes_of}
use Rattle.polite_routes.specs.Hops.{Hop, arrives, reach_of}
use Rattle.polite_routes.specs.Once.{EachOnce, Lists}
use Rattle.polite_routes.specs.Pins.{board_of, comes_from, edge_row, edges_of, pin_place, pins_of, target_of, targets_of}
use Rattle.polite_routes.specs.Routes.{PinsThere, in_edges_of, in_lists, key_at, keys_full, local_of, pin_at, tables_of}
use Rattle.polite_routes.proofs.Addressed.{find_same, once_same, same_lists}
use Rattle.polite_routes.proofs.Marking.{no_pin}
use Rattle.polite_routes.proofs.PinRows.{edge_there, few_pins, first_pin_at}
use Rattle.polite_routes.proofs.Routing.{routed}
use Rattle.polite_routes.proofs.Serving.{key_is, place_there, set_is}
use Rattle.job_edges.proofs.Locals.{hops_small}

-- what a key reaches is these hops, whose local keys fit 16 bits, and which find each edge of a pin once
pub record Reaches (n : ShapeNumbers) (tables : List Table) (lists : Lists) (local : ℕ → ℕ) (key : Option ℕ) (pin : Pin) : Type 0 where
  pub hops : List Hop
  pub reached : (bytes : List ℕ) → reach_of n tables bytes pin.board key ≡ map (arrives bytes) hops
  pub small : AllByRecursion (λ (h : Hop). h.local < 65536) hops
  pub once : EachOnce lists hops pin.targets local

reaches_by : (n : ShapeNumbers) (ps : List Pin) (j : ℕ) → WithinLimits n → PinsThere n ps → keys_full ps ≡ false → j < length ps → Reaches n (tables_of n ps) (lists_in n (in_edges_of n ps)) (local_of ps j) (key_at n ps j) (pin_at ps j)
reaches_by n ps j l t free h =
    let r = routed n ps j l t h in
    let there = t.each j (record { board = record { x = 0; y = 0 }; targets = [] }) h in
    let once : EachOnce (lists_in n (in_edges_of n ps)) r.hops (pin_at ps j).targets (local_of ps j) = once_same (lists_in n (in_edges_of n ps)) (in_lists ps) r.hops (pin_at ps j).targets (local_of ps j) (λ a k. same_lists n ps a k l t) r.once in
    let find = find_same (lists_in n (in_edges_of n ps)) (in_lists ps) r.hops (λ a k. same_lists n ps a k l t) r.find in
    record {
      hops = r.hops;
      reached = r.reached;
      small = hops_small n ps j (lists_in n (in_edges_of n ps)) r.hops free h there.targets once find;
      once = once;
    }

not_full : {A : Type 0} (a : Bool) (p : A) (rest : Result A RouteStop) → Ok p ≡ cond a (Err KeysFull) rest → a ≡ false
not_full true p rest e = absurd (cc)
not_full false p rest e = refl

abbrev pub pin_of : Graph → List Seat → ℕ → ℕ → Pin
pin_of g placement v pin = record { board = board_of (seat_of placement v).thread.0; targets = targets_of g.edges placement v pin }

pin_is : (g : Graph) (placement : List Seat) (v pin : ℕ) → v < length g.vertices → pin < 4 → pin_at (pins_of g placement) (pin_place v pin) ≡ pin_of g placement v pin
pin_is g placement v pin h l =
    let a : pin_place v pin / 4 ≡ v = omega arith in
    let b : pin_place v pin % 4 ≡ pin = omega arith in
    first_pin_at (length g.vertices) g.edges (length g.edges) placement (pin_place v pin) no_pin (omega arith)
    ∙ ap (λ i. let p : Pin = record { board = board_of (seat_of placement i).thread.0; targets = targets_of g.edges placement i (pin_place v pin % 4) } in p) a
    ∙ ap (λ i. pin_of g placement v i) b

-- the key of a vertex's pin, in the routes of a graph
pub pin_reaches : (n : ShapeNumbers) (g : Graph) (placement : List Seat) (s : RouteSet) (v pin : ℕ) → WithinLimits n → IsGraph g → PinsThere n (pins_of g placement) → Ok s ≡ routes_of n g placement → v < length g.vertices → pin < pins_at g v
    → Reaches n s.tables (lists_in n s.in_edges) (local_of (pins_of g placement) (pin_place v pin)) (pin_key s.keys v pin) (pin_of g placement v pin)
pin_reaches n g placement s v pin l ok t e h f =
    let ps : List Pin = pins_of g placement in
    let j : ℕ = pin_place v pin in
    let few = few_pins g v ok in
    let free : keys_full ps ≡ false = not_full (keys_full ps) s _ e in
    let one = reaches_by n ps j l t free (place_there g placement v pin h (omega arith)) in
    let two = subst (λ (p : Pin). Reaches n (tables_of n ps) (lists_in n (in_edges_of n ps)) (local_of ps j) (key_at n ps j) p) (pin_is g placement v pin h (omega arith)) one in
    let three = subst (λ (k : Option ℕ). Reaches n (tables_of n ps) (lists_in n (in_edges_of n ps)) (local_of ps j) k (pin_of g placement v pin)) (sym (key_is n g ps v pin h f)) two in
    subst (λ (x : RouteSet). Reaches n x.tables (lists_in n x.in_edges) (local_of ps j) (pin_key x.keys v pin) (pin_of g placement v pin)) (sym (set_is n g ps s e)) three

-- The edges of a pin.

row_of_pin : (v pin : ℕ) (row : EdgeRow) → comes_from v pin row ≡ true → (row.from ≡ v) × (row.pin ≡ pin)
row_of_pin v pin row e =
    let both = and_parts (eqb row.from v) (eqb row.pin pin) e in
    let a = both.0 in
    let b = both.1 in
    (grind (arith, nat_tests), grind (arith, nat_tests))

-- a sum over the targets of a pin's edges is one over the edges
pub sum_edges : (rows : List EdgeRow) (placement : List Seat) (v pin : ℕ) (f : Target → ℕ) (g : ℕ → ℕ) (ks : List ℕ)
    → ((k : ℕ) → (edge_row rows k).from ≡ v → (edge_row rows k).pin ≡ pin → f (target_of rows placement k) ≡ g k)
    → sum_by f (map (target_of rows placement) (filter (λ k. comes_from v pin (edge_row rows k)) ks)) ≡ sum_by g (filter (λ k. comes_from v pin (edge_row rows k)) ks)
sum_edges rows placement v pin f g [] same = refl
sum_edges rows placement v pin f g (k ∷ ks) same = by (comes_from v pin (edge_row rows k)) refl (sum_edges rows placement v pin f g ks same) where
  more : List ℕ
  more = filter (λ k. comes_from v pin (edge_row rows k)) ks

  by : (b : Bool) → b ≡ comes_from v pin (edge_row rows k) → sum_by f (map (target_of rows placement) more) ≡ sum_by g more
      → sum_by f (map (target_of rows placement) (cond b (k ∷ more) more)) ≡ sum_by g (cond b (k ∷ more) more)
  by true is rest =
      let both = row_of_pin v pin (edge_row rows k) (sym is) in
      let first = same k both.0 both.1 in
      let a = sum_by-cons f (target_of rows placement k) (map (target_of rows placement) more) in
      let b = sum_by-cons g k more in
      omega arith
  by false is rest = rest

none_pass : (test : ℕ → Bool) (i n : ℕ) → ((k : ℕ) → i ≤ k → k < i + n → test k ≡ false) → filter test (range_with_len i n) ≡ []
none_pass test i zero none = refl
none_pass test i (suc n) none =
    let P : Bool → Type 0 = λ b. cond b (i ∷ filter test (range_with_len (i + 1) n)) (filter test (range_with_len (i + 1) n)) ≡ [] in
    subst P (sym (none i (omega arith) (omega arith))) (none_pass test (i + 1) n (λ k low high. none k (omega arith) (omega arith)))

-- a pin that a vertex does not have has no edges
pub no_pin_no_edges : (g : Graph) (v pin : ℕ) → IsGraph g → pins_at g v ≤ pin → edges_of g.edges v pin ≡ []
no_pin_no_edges g v pin ok past = none_pass (λ k. comes_from v pin (edge_row g.edges k)) 0 (length g.edges) (λ k low high. other k (comes_from v pin (edge_row g.edges k)) refl (omega arith)) where
  other : (k : ℕ) (b : Bool) → b ≡ comes_from v pin (edge_row g.edges k) → k < length g.edges → b ≡ false
  other k false is h = refl
  other k true is h =
      let both = row_of_pin v pin (edge_row g.edges k) (sym is) in
      let there = (edge_there g k ok h).2 in
      let same = ap (pins_at g) both.0 in
      let pin_same = both.1 in
      absurd (omega arith)
