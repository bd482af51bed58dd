use Rattle.std.proofs.Common.{[], ◌<◌, ◌≡◌, ◌∷◌, ◌++◌, ◌∙◌, ap, arith, get_or, length, refl, set}
use Rattle.std.proofs.lemmas.List.{get_or_default}
use Rattle.polite_routes.specs.declared.target.Pin.{Pin}
use Rattle.polite_routes.specs.declared.target.Target.{Target}
use Rattle.polite_routes.specs.Pins.{edge_row, first_pins, pin_place, target_at}
use Rattle.polite_routes.proofs.Marking.{no_pin}
use Rattle.polite_routes.proofs.PinRows.{edge_given, edge_there, few_pins, length_pins, pin_there}
use Rattle.polite_routes.proofs.pins.add_edges.Goals as goal

pub bounds-pins-pin_place : goal.bounds-pins-pin_place
bounds-pins-pin_place c =
    let g = c.args.graph.now in
    let k = c.loop-place.place in
    let es = c.as_slice-edges.ensures in
    let long = ap length c.loop-place.invariant ∙ length_pins (length g.vertices) g.edges k c.args.placement.now in
    let at : c.pin_place.result ≡ pin_place (edge_row g.edges k).from (edge_row g.edges k).pin = c.pin_place.ensures ∙ ap (λ xs. pin_place (edge_row xs k).from (edge_row xs k).pin) es in
    let t = pin_there g k c.requires.graph (let l = ap length es in omega (arith, c.loop-place-test.true)) (few_pins g (edge_row g.edges k).from c.requires.graph) in
    omega arith

pub loop-place-init : goal.loop-place-init
loop-place-init c = c.requires.none

pub loop-place-preserved : goal.loop-place-preserved
loop-place-preserved c =
    let g = c.args.graph.now in
    let k = c.loop-place.place in
    let p = c.args.placement.now in
    let es = c.as_slice-edges.ensures in
    let e = edge_row g.edges k in
    let at : c.pin_place.result ≡ pin_place e.from e.pin = c.pin_place.ensures ∙ ap (λ xs. pin_place (edge_row xs k).from (edge_row xs k).pin) es in
    let lt : k < length g.edges = let l = ap length es in omega (arith, c.loop-place-test.true) in
    let there = edge_there g k c.requires.graph lt in
    let few = few_pins g e.from c.requires.graph in
    let long = ap length c.loop-place.invariant ∙ length_pins (length g.vertices) g.edges k p in
    let room : pin_place e.from e.pin < length c.loop-place.pins = let t = pin_there g k c.requires.graph lt few in omega arith in
    let old : Pin = get_or c.loop-place.pins (pin_place e.from e.pin) no_pin in
    let was : get_or c.loop-place.pins c.pin_place.result c.index-pins-pin_place.result ≡ old = ap (λ i. get_or c.loop-place.pins i c.index-pins-pin_place.result) at ∙ get_or_default c.loop-place.pins (pin_place e.from e.pin) c.index-pins-pin_place.result no_pin room in
    let target : c.target_at-target.result ≡ target_at p k e = c.target_at-target.ensures ∙ ap (λ xs. target_at p k (edge_row xs k)) es in
    let new : c.push.new.self ≡ record { board = old.board; targets = old.targets ++ target_at p k e ∷ [] } =
    c.in_ok-push.ensures ∙ ap (λ (q : Pin). let r : Pin = record { board = q.board; targets = q.targets ++ c.target_at-target.result ∷ [] } in r) was
    ∙ ap (λ (t : Target). let r : Pin = record { board = old.board; targets = old.targets ++ t ∷ [] } in r) target in
    ap (λ i. set c.loop-place.pins i c.push.new.self) at
    ∙ edge_given (length g.vertices) g.edges k p c.loop-place.pins e old c.push.new.self refl there.0 (let b = there.2 in omega arith) c.loop-place.invariant refl new

pub returns : goal.returns
returns c =
    let n : c.loop-place.place ≡ length c.args.graph.now.edges = let l = ap length c.as_slice-edges.ensures in omega (arith, c.loop-place-test.false, c.loop-place.auto.place-end) in
    c.loop-place.invariant ∙ ap (λ k. first_pins (length c.args.graph.now.vertices) c.args.graph.now.edges k c.args.placement.now) n
