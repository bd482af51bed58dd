use Rattle.std.proofs.Common.{[], ℕ, ◌≡◌, ◌+◌, ◌++◌, ◌/◌, ◌∙◌, ap, arith, cond, eqb, get_or, length, refl, replicate, subst, sym, take}
use Rattle.std.proofs.lemmas.List.{length-replicate, take_all}
use Rattle.tn_base.specs.Address.{thread_at}
use Rattle.polite_routes.specs.InEdges.{edges_in}
use Rattle.polite_routes.specs.Routes.{lists_to, trees_to}
use Rattle.polite_routes.specs.Targets.{AllLow, count_in, edges_to, reaches}
use Rattle.polite_routes.proofs.Entries.{all_listed, low_targets, none_listed, pin_added, tile_small}
use Rattle.polite_routes.proofs.InTurn.{item_is, item_there, none_counted, taken_few}
use Rattle.polite_routes.proofs.Tallies.{local_below, small_counts, trees_more}
use Rattle.polite_routes.proofs.in_edges.add_pins.Goals as goal

pub loop-pin-init : goal.loop-pin-init
loop-pin-init c =
    let counts : c.as_mut_slice-counts.result.now ≡ replicate 256 0 = c.as_mut_slice-counts.ensures.value ∙ c.in_ok-count_list.ensures.items_if_clones_equal (λ y h. h) in
    let met : c.as_mut_slice-met.result.now ≡ replicate 256 0 = c.as_mut_slice-met.ensures.value ∙ c.in_ok-met_list.ensures.items_if_clones_equal (λ y h. h) in
    record {
      counted = λ i h. none_counted c.as_mut_slice-counts.result.now i counts;
      count_room = ap length counts ∙ length-replicate {A = ℕ} 256 0;
      met_room = ap length met ∙ length-replicate {A = ℕ} 256 0;
      stamped = refl;
      bound = λ i. let e = none_counted c.as_mut_slice-met.result.now i met in omega arith;
      threads = c.requires.threads;
      listed = λ i k h. none_listed c.args.lists.now i (thread_at c.args.shape.now i) (trees_to c.args.pins.now (thread_at c.args.shape.now i / 64)) k (c.requires.empty i h);
      rooms = λ i h. ap length (c.requires.empty i h) ∙ length-replicate (trees_to c.args.pins.now (thread_at c.args.shape.now i / 64)) [];
    }

pub add_pin-requires-clause-room : goal.add_pin-requires-clause-room
add_pin-requires-clause-room c = λ i h r.
    let tile = thread_at c.args.shape.now i / 64 in
    let is = item_is c.args.pins.now c.loop-pin.pin-index c.pin-item.result c.loop-pin-test.true c.pin-item.is in
    let b = local_below c.args.pins.now c.loop-pin.pin-index tile c.pin-item.result c.loop-pin-test.true is (ap (λ ts. reaches ts tile) (sym c.as_slice-targets.ensures) ∙ r) in
    let n = c.loop-pin.invariant.counted tile (tile_small c.args.shape.now (thread_at c.args.shape.now i) (c.law_threads.ensures.listed i h)) in
    let l = c.loop-pin.invariant.rooms i h in
    omega arith

pub count_tree-requires-clause-low : goal.count_tree-requires-clause-low
count_tree-requires-clause-low c =
    let is = item_is c.args.pins.now c.loop-pin.pin-index c.pin-item.result c.loop-pin-test.true c.pin-item.is in
    let p = item_there c.args.shape.now c.args.pins.now c.loop-pin.pin-index c.pin-item.result c.requires.there c.loop-pin-test.true is in
    subst AllLow (sym c.as_slice-targets.ensures) (low_targets c.args.shape.now c.pin-item.result.targets p.targets)

pub count_tree-requires-clause-few : goal.count_tree-requires-clause-few
count_tree-requires-clause-few c =
    small_counts c.loop-pin.counts (take c.loop-pin.pin-index c.args.pins.now) c.loop-pin.invariant.count_room c.loop-pin.invariant.counted (taken_few c.args.pins.now c.loop-pin.pin-index c.requires.few)

pub loop-pin-preserved : goal.loop-pin-preserved
loop-pin-preserved c =
    let n = c.args.shape.now in
    let ps = c.args.pins.now in
    let j = c.loop-pin.pin-index in
    let p = c.pin-item.result in
    let is = item_is ps j p c.loop-pin-test.true c.pin-item.is in
    record {
      counted = λ i h. trees_more ps j i (count_in c.loop-pin.counts i) (count_in c.count_tree.new.counts i) p c.loop-pin-test.true is (c.loop-pin.invariant.counted i h)
          (c.count_tree.ensures.counts i h ∙ ap (λ ts. count_in c.loop-pin.counts i + cond (reaches ts i) 1 0) c.as_slice-targets.ensures);
      count_room = c.count_tree.auto.counts ∙ c.loop-pin.invariant.count_room;
      met_room = c.count_tree.auto.met ∙ c.loop-pin.invariant.met_room;
      stamped = ap (λ x. x + 1) c.loop-pin.invariant.stamped;
      bound = c.count_tree.ensures.met;
      threads = c.add_pin.auto.lists ∙ c.loop-pin.invariant.threads;
      listed = λ i k h. pin_added ps j p (thread_at n i) k (count_in c.loop-pin.counts (thread_at n i / 64)) (edges_in c.loop-pin.lists i k) (edges_in c.add_pin.new.lists i k) c.loop-pin-test.true is
          (c.loop-pin.invariant.counted (thread_at n i / 64) (tile_small n (thread_at n i) (c.law_threads.ensures.listed i h)))
          (c.loop-pin.invariant.listed i k h)
          (c.in_ok-add_pin.ensures.lists i k h ∙ ap (λ ts. edges_in c.loop-pin.lists i k ++ cond (eqb k (count_in c.loop-pin.counts (thread_at n i / 64))) (edges_to ts (thread_at n i)) []) c.as_slice-targets.ensures);
      rooms = λ i h. c.in_ok-add_pin.ensures.room i ∙ c.loop-pin.invariant.rooms i h;
    }

pub returns : goal.returns
returns c =
    let all = take_all c.loop-pin.pin-index c.args.pins.now (omega (arith, c.loop-pin-test.false)) in
    all_listed c.args.shape.now c.args.pins.now c.loop-pin.lists c.loop-pin.invariant.threads c.loop-pin.invariant.rooms
    (λ i k h. c.loop-pin.invariant.listed i k h ∙ ap (λ qs. get_or (lists_to qs (thread_at c.args.shape.now i)) k []) all)
