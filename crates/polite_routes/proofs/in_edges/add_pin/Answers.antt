use Rattle.std.proofs.Common.{[], ◌<◌, ◌≡◌, ◌∷◌, ◌++◌, ◌/◌, ◌∙◌, ap, arith, cond, eqb, get_or, length, refl, set}
use Rattle.std.proofs.lemmas.List.{get_or_default, take_all}
use Rattle.tn_base.specs.Address.{thread_at}
use Rattle.polite_routes.specs.InEdges.{edges_in}
use Rattle.polite_routes.specs.Targets.{count_in, edges_to}
use Rattle.polite_routes.proofs.Entries.{edge_added, found, room_for, same_room}
use Rattle.polite_routes.proofs.Marking.{no_target}
use Rattle.polite_routes.proofs.in_edges.add_pin.Goals as goal

pub push-requires : goal.push-requires
push-requires c =
    let m = c.loop-target.target-index in
    let a = (get_or c.args.targets.now m no_target).thread.0 in
    let f = found c.args.shape.now c.args.places.now a c.requires.located (c.law_threads.ensures.each a (c.requires.there.there m no_target c.loop-target-test.true)) in
    let r = room_for c.args.shape.now c.args.places.now c.args.locals.now c.args.lists.now c.loop-target.lists c.args.targets.now m f c.loop-target-test.true c.requires.room c.loop-target.invariant.rooms in
    let l : get_or c.args.places.now a 0 < length c.loop-target.lists = let b = f.below in omega (arith, c.loop-target.auto.lists, c.requires.threads) in
    let e = ap length (get_or_default c.loop-target.lists (get_or c.args.places.now a 0) c.index-lists-place.result [] l) in
    omega arith

pub loop-target-preserved : goal.loop-target-preserved
loop-target-preserved c =
    let m = c.loop-target.target-index in
    let t = get_or c.args.targets.now m no_target in
    let a = t.thread.0 in
    let f = found c.args.shape.now c.args.places.now a c.requires.located (c.law_threads.ensures.each a (c.requires.there.there m no_target c.loop-target-test.true)) in
    let place = get_or c.args.places.now a 0 in
    let local = count_in c.args.locals.now (a / 64) in
    let r = room_for c.args.shape.now c.args.places.now c.args.locals.now c.args.lists.now c.loop-target.lists c.args.targets.now m f c.loop-target-test.true c.requires.room c.loop-target.invariant.rooms in
    let l : place < length c.loop-target.lists = let b = f.below in omega (arith, c.loop-target.auto.lists, c.requires.threads) in
    let w : c.push.new.self ≡ set (get_or c.loop-target.lists place []) local (get_or (get_or c.loop-target.lists place []) local [] ++ t.edge ∷ []) =
    c.in_ok-push.ensures ∙ ap (λ xs. set xs local (get_or xs local [] ++ t.edge ∷ [])) (get_or_default c.loop-target.lists place c.index-lists-place.result [] l) in
    record {
      listed = λ i k h. edge_added c.args.shape.now c.args.places.now c.args.locals.now c.args.lists.now c.loop-target.lists c.args.targets.now m t place c.push.new.self i k c.requires.located c.loop-target-test.true refl h f.below f.at l r w (c.loop-target.invariant.listed i k h);
      rooms = λ i. same_room c.loop-target.lists place i local (get_or (get_or c.loop-target.lists place []) local [] ++ t.edge ∷ []) c.push.new.self l w ∙ c.loop-target.invariant.rooms i;
    }

pub returns-clause-lists : goal.returns-clause-lists
returns-clause-lists c = λ i k h.
    c.loop-target.invariant.listed i k h
    ∙ ap (λ ts. edges_in c.args.lists.now i k ++ cond (eqb k (count_in c.args.locals.now (thread_at c.args.shape.now i / 64))) (edges_to ts (thread_at c.args.shape.now i)) []) (take_all c.loop-target.target-index c.args.targets.now (omega (arith, c.loop-target-test.false)))
