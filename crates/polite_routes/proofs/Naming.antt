-- The in-edges of a thread lead to its devices.
use Rattle.std.proofs.Common.{◌≡◌, ◌<◌, ◌≤◌, ℕ, suc, zero, ◌+◌, ◌*◌, ◌/◌, ◌%◌, eqb, cond, Bool, true, false, List, [], ◌∷◌, length, get_or, map, refl, sym, ◌∙◌, ap, arith, subst, Ok}
use Rattle.std.proofs.lemmas.Bool.Decides.{nat_tests}
use Rattle.std.proofs.lemmas.List.FromFn.{get_or-map-range_with_len, length-map-range_with_len}
use Rattle.std.specs.List.{All, filter, range_with_len}
use Rattle.tn_base.specs.declared.shape.ShapeNumbers.{ShapeNumbers}
use Rattle.tn_base.specs.Address.{thread_at}
use Rattle.tn_base.specs.Shape.{thread_count}
use Rattle.graph_text.specs.declared.graph.Graph.{Graph}
use Rattle.graph_text.specs.Graph.{IsGraph, pins_at}
use Rattle.polite_place.specs.declared.placement.Seat.{Seat}
use Rattle.polite_place.specs.Seats.{Numbered, devices_on, seat_of}
use Rattle.polite_switch.specs.declared.device.InEdge.{InEdge}
use Rattle.polite_switch.specs.Device.{AllNamed, no_edge}
use Rattle.polite_routes.specs.declared.routes.RouteSet.{RouteSet}
use Rattle.polite_routes.specs.declared.target.Pin.{Pin}
use Rattle.polite_routes.specs.declared.target.Target.{Target}
use Rattle.polite_routes.specs.Answer.{keys_of, routes_of, vertex_keys}
use Rattle.polite_routes.specs.Named.{AllLead}
use Rattle.polite_routes.specs.Pins.{comes_from, edge_row, pin_place, pins_of, target_of}
use Rattle.polite_routes.specs.Routes.{in_edges_of, key_at, lists_to}
use Rattle.polite_routes.specs.Targets.{edges_to, reaches}
use Rattle.polite_routes.proofs.PinRows.{all_targets, edge_there, first_pin_at, length_pins}
use Rattle.polite_routes.proofs.Serving.{set_is}

-- an edge leads to a device of its thread
abbrev Leads : List Seat → Target → Type 0
Leads placement t = t.edge.device < devices_on placement t.thread.0

abbrev IsOn : List Seat → ℕ → InEdge → Type 0
IsOn placement a e = e.device < devices_on placement a

abbrev to_thread : ℕ → Target → Bool
to_thread a t = eqb t.thread.0 a

edges_lead : (placement : List Seat) (a : ℕ) (ts : List Target) → All (Leads placement) ts → All (IsOn placement a) (edges_to ts a)
edges_lead placement a [] h = λ k d l. absurd (omega arith)
edges_lead placement a (t ∷ ts) h = by (eqb t.thread.0 a) refl (edges_lead placement a ts (λ k d l. h (suc k) d (omega arith))) where
  by : (b : Bool) → b ≡ eqb t.thread.0 a → All (IsOn placement a) (edges_to ts a) → All (IsOn placement a) (map (λ (x : Target). x.edge) (cond b (t ∷ filter (to_thread a) ts) (filter (to_thread a) ts)))
  by true e r zero d l = let i : t.thread.0 ≡ a = grind (arith, nat_tests) in subst (λ x. t.edge.device < devices_on placement x) i (h 0 t (omega arith))
  by true e r (suc k) d l = r k d (omega arith)
  by false e r k d l = r k d l

lists_lead : (placement : List Seat) (a k : ℕ) (ps : List Pin) → All (λ (p : Pin). All (Leads placement) p.targets) ps →
    All (IsOn placement a) (get_or (map (λ (p : Pin). edges_to p.targets a) (filter (λ (p : Pin). reaches p.targets (a / 64)) ps)) k [])
lists_lead placement a k [] h = λ i d l. absurd (omega arith)
lists_lead placement a k (p ∷ ps) h =
    by k (reaches p.targets (a / 64)) (edges_lead placement a p.targets (h 0 p (omega arith))) (λ j. lists_lead placement a j ps (λ i d l. h (suc i) d (omega arith))) where
      by : (j : ℕ) (b : Bool) → All (IsOn placement a) (edges_to p.targets a) → ((i : ℕ) → All (IsOn placement a) (get_or (map (λ (q : Pin). edges_to q.targets a) (filter (λ (q : Pin). reaches q.targets (a / 64)) ps)) i []))
          → All (IsOn placement a) (get_or (map (λ (q : Pin). edges_to q.targets a) (cond b (p ∷ filter (λ (q : Pin). reaches q.targets (a / 64)) ps) (filter (λ (q : Pin). reaches q.targets (a / 64)) ps))) j [])
      by zero true e r = e
      by (suc j) true e r = r j
      by j false e r = r j

listed_lead : (placement : List Seat) (a k : ℕ) (ps : List Pin) → All (λ (p : Pin). All (Leads placement) p.targets) ps → All (IsOn placement a) (get_or (lists_to ps a) k [])
unfolding lists_to
listed_lead placement a k ps h = lists_lead placement a k ps h

pins_lead : (per : ℕ) (g : Graph) (placement : List Seat) → IsGraph g → length placement ≡ length g.vertices → Numbered per placement → All (λ (p : Pin). All (Leads placement) p.targets) (pins_of g placement)
pins_lead per g placement h c s = λ j d l.
    let b : j < length g.vertices * 4 = let e = length_pins (length g.vertices) g.edges (length g.edges) placement in omega arith in
    subst (λ (q : Pin). All (Leads placement) q.targets) (sym (first_pin_at (length g.vertices) g.edges (length g.edges) placement j d b))
    (all_targets (Leads placement) (target_of g.edges placement) (λ k. comes_from (j / 4) (j % 4) (edge_row g.edges k)) 0 (length g.edges)
    (λ k x y. let e = edge_there g k h (omega arith) in s.device (edge_row g.edges k).to (let t = e.1 in omega arith)))

pub all_lead : (n : ShapeNumbers) (per : ℕ) (g : Graph) (placement : List Seat) (s : RouteSet) → IsGraph g → length placement ≡ length g.vertices → Numbered per placement → Ok s ≡ routes_of n g placement →
    AllLead n g placement s
unfolding keys_of
all_lead n per g placement s ok count numbered e =
    let ps : List Pin = pins_of g placement in
    let lead = pins_lead per g placement ok count numbered in
    subst (λ (x : RouteSet). AllLead n g placement x) (sym (set_is n g ps s e)) (record {
      named = λ i h. record {
        each = λ key j l.
            let list = get_or-map-range_with_len (λ k. lists_to ps (thread_at n k)) 0 (thread_count n) i i [] h (omega arith) in
            let on = subst (λ (xs : List (List InEdge)). All (IsOn placement (thread_at n i)) (get_or xs key [])) (sym list) (listed_lead placement (thread_at n i) key ps lead) in
            on j no_edge l;
      };
      pins = λ v h.
          ap length (get_or-map-range_with_len (vertex_keys n g ps) 0 (length g.vertices) v v [] h (omega arith))
          ∙ length-map-range_with_len (λ pin. key_at n ps (pin_place v pin)) 0 (pins_at g v);
    })
