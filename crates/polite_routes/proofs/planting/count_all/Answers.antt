use Rattle.std.proofs.Common.{ℕ, ◌≡◌, ◌+◌, ◌∙◌, ap, arith, length, refl, replicate, take}
use Rattle.std.proofs.lemmas.List.{length-replicate}
use Rattle.polite_routes.specs.Targets.{count_in}
use Rattle.polite_routes.proofs.InTurn.{item_is, none_counted, taken_few}
use Rattle.polite_routes.proofs.Tallies.{small_counts, trees_more}
use Rattle.polite_routes.proofs.planting.count_all.Goals as goal

pub count_tree-requires-clause-few : goal.count_tree-requires-clause-few
count_tree-requires-clause-few c =
    small_counts c.loop-pin.counts (take c.loop-pin.pin-index c.args.pins.now) c.loop-pin.invariant.room c.loop-pin.invariant.counted (taken_few c.args.pins.now c.loop-pin.pin-index c.requires.few)

pub loop-pin-preserved : goal.loop-pin-preserved
loop-pin-preserved c =
    let is = item_is c.args.pins.now c.loop-pin.pin-index c.pin-item.result c.loop-pin-test.true c.pin-item.is in
    record {
      counted = λ i h. trees_more c.args.pins.now c.loop-pin.pin-index i (count_in c.loop-pin.counts i) (count_in c.count_tree.new.counts i) c.pin-item.result c.loop-pin-test.true is (c.loop-pin.invariant.counted i h)
          (rw c.as_slice.ensures at (c.count_tree.ensures.counts i h));
      room = c.count_tree.auto.counts ∙ c.loop-pin.invariant.room;
      met_room = c.count_tree.auto.met ∙ c.loop-pin.invariant.met_room;
      stamped = ap (λ x. x + 1) c.loop-pin.invariant.stamped;
      bound = c.count_tree.ensures.met;
    }

pub loop-pin-init : goal.loop-pin-init
loop-pin-init c =
    let met : c.as_mut_slice-met.result.now ≡ replicate 256 0 = c.as_mut_slice-met.ensures.value ∙ c.in_ok-list.ensures.items_if_clones_equal (λ y h. h) in
    record {
      counted = λ i h. none_counted c.args.counts.now i c.requires.none;
      room = c.requires.room;
      met_room = ap length met ∙ length-replicate {A = ℕ} 256 0;
      stamped = refl;
      bound = λ i. let e = none_counted c.as_mut_slice-met.result.now i met in omega arith;
    }
