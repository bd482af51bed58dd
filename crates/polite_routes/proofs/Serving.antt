-- The routes of a graph: each edge once, and a key for exactly the pins with edges.
use Rattle.std.proofs.Common.{◌≡◌, ◌↔◌, ◌<◌, ◌≤◌, ℕ, ◌*◌, ◌/◌, ◌%◌, ltb, cond, Bool, true, false, List, [], ◌∷◌, length, get_or, map, refl, sym, ◌∙◌, ap, arith, Option, None, Ok, Err, subst}
use Rattle.std.proofs.Math.Nat.{mul-le-mul_left}
use Rattle.std.proofs.lemmas.Bool.{ltb-false}
use Rattle.std.proofs.lemmas.List.{nil_from_length}
use Rattle.std.proofs.lemmas.List.Sums.{sum_by-cons}
use Rattle.std.proofs.lemmas.List.FromFn.{fill_by_all, get_or-map-range_with_len, length-map-range_with_len}
use Rattle.std.specs.List.{range_with_len, sum_by}
use Rattle.tn_base.specs.declared.ids.Board.{Board}
use Rattle.tn_base.specs.declared.shape.ShapeNumbers.{ShapeNumbers}
use Rattle.tn_base.specs.Shape.{WithinLimits, thread_count}
use Rattle.tn_keys.specs.Tables.{Table}
use Rattle.graph_text.specs.declared.graph.Graph.{Graph}
use Rattle.graph_text.specs.Graph.{IsGraph, pins_at}
use Rattle.polite_place.specs.declared.placement.Seat.{Seat}
use Rattle.polite_place.specs.declared.placement.PlaceStop.TheVariants.{TooMany}
use Rattle.polite_place.specs.Seats.{placed, seat_of, seats}
use Rattle.polite_switch.specs.declared.device.InEdge.{InEdge}
use Rattle.polite_routes.specs.declared.planting.Planting.{Planting}
use Rattle.polite_routes.specs.declared.routes.RouteSet.{RouteSet}
use Rattle.polite_routes.specs.declared.target.Pin.{Pin}
use Rattle.polite_routes.specs.declared.target.RouteStop.TheVariants.{KeysFull, TableFull}
use Rattle.polite_routes.specs.declared.target.Target.{Target}
use Rattle.polite_routes.specs.Answer.{AllServed, KeyedByEdges, Served, keys_of, listed_key, lists_in, pin_key, routes_by, routes_of, vertex_keys}
use Rattle.polite_routes.specs.Full.{is_full}
use Rattle.polite_routes.specs.Hops.{Hop, arrives, reach_of}
use Rattle.polite_routes.specs.Passes.{PassesButWidth}
use Rattle.polite_routes.specs.Once.{Lists}
use Rattle.polite_routes.specs.Pins.{board_of, edges_of, pin_place, pins_of, target_of, targets_of}
use Rattle.polite_routes.specs.Routes.{PinRouted, PinsThere, in_edges_of, in_lists, key_at, keys_full, keys_to, local_of, pin_at, planting, tables_after, tables_of}
use Rattle.polite_routes.specs.Targets.{spots_for}
use Rattle.polite_routes.specs.Tree.{Planted, tree}
use Rattle.polite_routes.proofs.Addressed.{find_same, once_same, same_lists}
use Rattle.polite_routes.proofs.Bare.{bare_tree}
use Rattle.polite_routes.proofs.Marking.{no_pin}
use Rattle.polite_routes.proofs.PinRows.{few_pins, first_pin_at, length_pins}
use Rattle.polite_routes.proofs.Routing.{passes_all, routed}

-- a placement that was made: there was room, and the vertices have their seats
pub record Made (n : ShapeNumbers) (per_thread : ℕ) (outs : List (List ℕ)) (placement : List Seat) : Type 0 where
  pub room : length outs ≤ thread_count n * per_thread
  pub seated : placement ≡ seats n outs

pub made : (n : ShapeNumbers) (per_thread : ℕ) (outs : List (List ℕ)) (placement : List Seat) → Ok placement ≡ placed n per_thread outs → Made n per_thread outs placement
made n per_thread outs placement e = by (ltb (thread_count n * per_thread) (length outs)) refl e where
  by : (b : Bool) → b ≡ ltb (thread_count n * per_thread) (length outs) → Ok placement ≡ cond b (Err TooMany) (Ok (seats n outs)) → Made n per_thread outs placement
  by true h f = absurd (cc)
  by false h f = record { room = ltb-false (thread_count n * per_thread) (length outs) (sym h); seated = cc }

chosen : {A : Type 0} (a b : Bool) (p x : A) → Ok p ≡ cond a (Err KeysFull) (cond b (Err TableFull) (Ok x)) → (a ≡ false) × (b ≡ false) × (p ≡ x)
chosen true b p x e = absurd (cc)
chosen false true p x e = absurd (cc)
chosen false false p x e = (refl, refl, cc)

-- nothing is full
pub record Fits (n : ShapeNumbers) (ps : List Pin) : Type 0 where
  pub free : keys_full ps ≡ false
  pub short : is_full (tables_of n ps) ≡ false

pub planted_fits : (n : ShapeNumbers) (ps : List Pin) (p : Planting) → Ok p ≡ planting n ps → Fits n ps
planted_fits n ps p e =
    let c = chosen (keys_full ps) (is_full (tables_of n ps)) p (record { tables = tables_of n ps; keys = keys_to n ps (length ps) }) e in
    record { free = c.0; short = c.1 }

pub planted_is : (n : ShapeNumbers) (ps : List Pin) (p : Planting) → Ok p ≡ planting n ps → p ≡ record { tables = tables_of n ps; keys = keys_to n ps (length ps) }
planted_is n ps p e =
    let c = chosen (keys_full ps) (is_full (tables_of n ps)) p (record { tables = tables_of n ps; keys = keys_to n ps (length ps) }) e in
    c.2

pub set_is : (n : ShapeNumbers) (g : Graph) (ps : List Pin) (s : RouteSet) → Ok s ≡ routes_by n g ps → s ≡ record { tables = tables_of n ps; keys = keys_of n g ps; in_edges = in_edges_of n ps }
set_is n g ps s e =
    let c = chosen (keys_full ps) (is_full (tables_of n ps)) s (record { tables = tables_of n ps; keys = keys_of n g ps; in_edges = in_edges_of n ps }) e in
    c.2

pub key_is : (n : ShapeNumbers) (g : Graph) (ps : List Pin) (v pin : ℕ) → v < length g.vertices → pin < pins_at g v → pin_key (keys_of n g ps) v pin ≡ key_at n ps (pin_place v pin)
unfolding keys_of
key_is n g ps v pin h l =
    ap (λ (ks : List (Option ℕ)). get_or ks pin None) (get_or-map-range_with_len (vertex_keys n g ps) 0 (length g.vertices) v v [] h (omega arith))
    ∙ get_or-map-range_with_len (λ p. key_at n ps (pin_place v p)) 0 (pins_at g v) pin pin None l (omega arith)

pin_is : (g : Graph) (placement : List Seat) (v pin : ℕ) → v < length g.vertices → pin < 4
    → pin_at (pins_of g placement) (pin_place v pin) ≡ record { board = board_of (seat_of placement v).thread.0; targets = targets_of g.edges placement v pin }
pin_is g placement v pin h l =
    let a : pin_place v pin / 4 ≡ v = omega arith in
    let b : pin_place v pin % 4 ≡ pin = omega arith in
    first_pin_at (length g.vertices) g.edges (length g.edges) placement (pin_place v pin) no_pin (omega arith)
    ∙ ap (λ i. let p : Pin = record { board = board_of (seat_of placement i).thread.0; targets = targets_of g.edges placement i (pin_place v pin % 4) } in p) a
    ∙ ap (λ i. let p : Pin = record { board = board_of (seat_of placement v).thread.0; targets = targets_of g.edges placement v i } in p) b

pub place_there : (g : Graph) (placement : List Seat) (v pin : ℕ) → v < length g.vertices → pin < 4 → pin_place v pin < length (pins_of g placement)
place_there g placement v pin h l = let e = length_pins (length g.vertices) g.edges (length g.edges) placement in omega arith

abbrev RoutedBy : ShapeNumbers → List Table → Lists → Option ℕ → (ℕ → ℕ) → Pin → Type 0
RoutedBy n tables lists key locals p = PinRouted n tables lists p.board key p.targets locals

routed_pin : (n : ShapeNumbers) (g : Graph) (placement : List Seat) (v pin : ℕ) → WithinLimits n → PinsThere n (pins_of g placement) → v < length g.vertices → pin < 4
    → PinRouted n (tables_of n (pins_of g placement)) (in_lists (pins_of g placement)) (board_of (seat_of placement v).thread.0) (key_at n (pins_of g placement) (pin_place v pin)) (targets_of g.edges placement v pin) (local_of (pins_of g placement) (pin_place v pin))
routed_pin n g placement v pin l t h f =
    let ps : List Pin = pins_of g placement in
    let j : ℕ = pin_place v pin in
    subst (λ (p : Pin). RoutedBy n (tables_of n ps) (in_lists ps) (key_at n ps j) (local_of ps j) p) (pin_is g placement v pin h f)
    (routed n ps j l t (place_there g placement v pin h f))

routed_in : (n : ShapeNumbers) (tables : List Table) (new old : Lists) (b : Board) (key : Option ℕ) (ts : List Target) (locals : ℕ → ℕ) → ((a k : ℕ) → new a k ≡ old a k) → PinRouted n tables old b key ts locals → PinRouted n tables new b key ts locals
routed_in n tables new old b key ts locals e r = record { hops = r.hops; reached = r.reached; once = once_same new old r.hops ts locals e r.once; find = find_same new old r.hops e r.find; straight = r.straight }

served_by : (n : ShapeNumbers) (g : Graph) (placement : List Seat) (v pin : ℕ) → WithinLimits n → IsGraph g → PinsThere n (pins_of g placement) → v < length g.vertices → pin < pins_at g v
    → Served n g placement (record { tables = tables_of n (pins_of g placement); keys = keys_of n g (pins_of g placement); in_edges = in_edges_of n (pins_of g placement) }) v pin
served_by n g placement v pin l ok t h f =
    let ps : List Pin = pins_of g placement in
    let few = few_pins g v ok in
    record {
      locals = local_of ps (pin_place v pin);
      routed = subst (λ (k : Option ℕ). PinRouted n (tables_of n ps) (lists_in n (in_edges_of n ps)) (board_of (seat_of placement v).thread.0) k (targets_of g.edges placement v pin) (local_of ps (pin_place v pin)))
          (sym (key_is n g ps v pin h f)) (routed_in n (tables_of n ps) (lists_in n (in_edges_of n ps)) (in_lists ps) (board_of (seat_of placement v).thread.0) (key_at n ps (pin_place v pin)) (targets_of g.edges placement v pin) (local_of ps (pin_place v pin))
          (λ a k. same_lists n ps a k l t) (routed_pin n g placement v pin l t h (omega arith)));
    }

pub all_served : (n : ShapeNumbers) (g : Graph) (placement : List Seat) (s : RouteSet) → WithinLimits n → IsGraph g → PinsThere n (pins_of g placement) → Ok s ≡ routes_of n g placement → AllServed n g placement s
all_served n g placement s l ok t e =
    subst (λ (x : RouteSet). AllServed n g placement x) (sym (set_is n g (pins_of g placement) s e)) (record { served = λ v pin h f. served_by n g placement v pin l ok t h f })

pub all_pass : (n : ShapeNumbers) (g : Graph) (placement : List Seat) (s : RouteSet) → WithinLimits n → PinsThere n (pins_of g placement) → Ok s ≡ routes_of n g placement → PassesButWidth n s.tables
all_pass n g placement s l t e =
    subst (λ (x : RouteSet). PassesButWidth n x.tables) (sym (set_is n g (pins_of g placement) s e)) (passes_all n (pins_of g placement) l t)

-- no key reaches nothing
no_hops : (bytes : List ℕ) (hs : List Hop) → [] ≡ map (arrives bytes) hs → hs ≡ []
no_hops bytes [] e = refl
no_hops bytes (h ∷ hs) e = absurd (cc)

sum_ones : (ts : List Target) → sum_by (λ (t : Target). 1) ts ≡ length ts
sum_ones [] = refl
sum_ones (t ∷ ts) = let r = sum_ones ts in let e = sum_by-cons (λ (t : Target). 1) t ts in omega arith

keyless : (n : ShapeNumbers) (tables : List Table) (lists : Lists) (b : Board) (key : Option ℕ) (ts : List Target) (locals : ℕ → ℕ) → PinRouted n tables lists b key ts locals → key ≡ None → ts ≡ []
keyless n tables lists b key ts locals r e =
    let h : r.hops ≡ [] = no_hops [] r.hops (ap (reach_of n tables [] b) (sym e) ∙ r.reached []) in
    let o = r.once.once (λ a x k. 1) in
    let z : sum_by (λ (h : Hop). sum_by (λ (x : InEdge). 1) (lists h.receiver h.local)) r.hops ≡ 0 = ap (sum_by (λ (h : Hop). sum_by (λ (x : InEdge). 1) (lists h.receiver h.local))) h in
    nil_from_length ts (sym (sum_ones ts) ∙ sym o ∙ z)

no_map : {A B : Type 0} (f : A → B) (xs : List A) → map f xs ≡ [] → xs ≡ []
no_map f [] e = refl
no_map f (x ∷ xs) e = absurd (cc)

edgeless : (n : ShapeNumbers) (ps : List Pin) (j : ℕ) → (pin_at ps j).targets ≡ [] → key_at n ps j ≡ None
edgeless n ps j e =
    ap (λ (ts : List Target). (tree n (spots_for ts (local_of ps j)) (pin_at ps j).board (tables_after n ps j)).key) e
    ∙ ap (λ (q : Planted). q.key) (bare_tree n (local_of ps j) (pin_at ps j).board (tables_after n ps j))

pub all_keyed : (n : ShapeNumbers) (g : Graph) (placement : List Seat) (s : RouteSet) → WithinLimits n → IsGraph g → PinsThere n (pins_of g placement) → Ok s ≡ routes_of n g placement → KeyedByEdges g s.keys
all_keyed n g placement s l ok t e =
    subst (λ (x : RouteSet). KeyedByEdges g x.keys) (sym (set_is n g (pins_of g placement) s e)) (record { none = λ v pin h f. both v pin h f }) where
      both : (v pin : ℕ) → v < length g.vertices → pin < pins_at g v → (pin_key (keys_of n g (pins_of g placement)) v pin ≡ None) ↔ (edges_of g.edges v pin ≡ [])
      both v pin h f =
          let ps : List Pin = pins_of g placement in
          let few = few_pins g v ok in
          let k = key_is n g ps v pin h f in
          let r = routed_pin n g placement v pin l t h (omega arith) in (
            λ z. no_map (target_of g.edges placement) (edges_of g.edges v pin)
                (keyless n (tables_of n ps) (in_lists ps) (board_of (seat_of placement v).thread.0) (key_at n ps (pin_place v pin)) (targets_of g.edges placement v pin) (local_of ps (pin_place v pin)) r (sym k ∙ z)),
            λ z. k ∙ edgeless n ps (pin_place v pin) (ap (λ (p : Pin). p.targets) (pin_is g placement v pin h (omega arith)) ∙ ap (map (target_of g.edges placement)) z),
          )

-- the keys of a vertex, from the list of all keys
pub keys_listed : (n : ShapeNumbers) (g : Graph) (ps : List Pin) (keys : List (Option ℕ)) (v : ℕ) → keys ≡ keys_to n ps (length ps) → length ps ≡ length g.vertices * 4 → v < length g.vertices → pins_at g v ≤ 4
    → map (listed_key keys v) (range_with_len 0 (pins_at g v)) ≡ vertex_keys n g ps v
keys_listed n g ps keys v e l h f =
    fill_by_all (λ pin. key_at n ps (pin_place v pin)) (map (listed_key keys v) (range_with_len 0 (pins_at g v))) (pins_at g v) None (length-map-range_with_len (listed_key keys v) 0 (pins_at g v))
    (λ k q. get_or-map-range_with_len (listed_key keys v) 0 (pins_at g v) k k None q (omega arith) ∙ ap (λ xs. listed_key xs v k) e
    ∙ get_or-map-range_with_len (key_at n ps) 0 (length ps) (pin_place v k) (pin_place v k) None (omega arith) (omega arith))

pub keys_are : (n : ShapeNumbers) (g : Graph) (ps : List Pin) → map (vertex_keys n g ps) (range_with_len 0 (length g.vertices)) ≡ keys_of n g ps
unfolding keys_of
keys_are n g ps = refl

-- there are at most sixteen boards
boards_few : (x y : ℕ) → x ≤ 4 → y ≤ 4 → x * y ≤ 16
boards_few x y h k = let a = mul-le-mul_left x k in omega arith

pub tables_few : (n : ShapeNumbers) (ps : List Pin) → WithinLimits n → PinsThere n ps → length (tables_of n ps) ≤ 16
tables_few n ps l t = let p = (passes_all n ps l t).count in let b = boards_few n.boards_x n.boards_y l.boards_x.1 l.boards_y.1 in omega arith
