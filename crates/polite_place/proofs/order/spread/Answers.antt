use Rattle.std.proofs.Common.{◌<◌, length, arith}
use Rattle.polite_place.proofs.Scans.{extends-trans}
use Rattle.polite_place.proofs.Counts.{length_distinct, targets_below, next_below, Spread, spread_step}
use Rattle.polite_place.proofs.order.spread.Goals as goal

pub bounds-outs-vertex : goal.bounds-outs-vertex
bounds-outs-vertex c = next_below (length c.args.outs.now) c.loop-done.order.items c.loop-done.done c.index.result.now (omega (arith, c.loop-done-test.true, c.len.ensures)) c.loop-done.invariant.distinct.below c.index.ensures

pub meet_all-requires-clause-there : goal.meet_all-requires-clause-there
meet_all-requires-clause-there c =
    let lt : c.loop-done.done < length c.loop-done.order.items = omega (arith, c.loop-done-test.true, c.len.ensures) in
    rw c.loop-done.invariant.vertices
    (targets_below c.args.outs.now c.loop-done.order.items c.loop-done.done c.index.result.now c.index-outs-vertex.result c.as_slice.result.now c.requires.edges c.loop-done.invariant.distinct.below lt c.index.ensures c.index-outs-vertex.is c.as_slice.ensures)

pub loop-done-smaller : goal.loop-done-smaller
loop-done-smaller c =
    let lt : c.loop-done.done < length c.loop-done.order.items = omega (arith, c.loop-done-test.true, c.len.ensures) in
    let l = length_distinct (length c.args.outs.now) c.loop-done.order.items c.loop-done.invariant.distinct in
    omega arith

pub loop-done-preserved : goal.loop-done-preserved
loop-done-preserved c =
    let lt : c.loop-done.done < length c.loop-done.order.items = omega (arith, c.loop-done-test.true, c.len.ensures) in
    let s : Spread c.args.outs.now c.loop-done.order.items c.meet_all.new.order.items c.loop-done.done =
    spread_step c.args.outs.now c.loop-done.order.items c.meet_all.new.order.items c.loop-done.done c.index.result.now c.index-outs-vertex.result c.as_slice.result.now c.requires.edges c.loop-done.invariant.distinct c.loop-done.invariant.scan lt
    c.index.ensures c.index-outs-vertex.is c.as_slice.ensures c.in_ok-meet_all.ensures.order in
    record {
      vertices = omega arith;
      synced = c.in_ok-meet_all.ensures.synced;
      distinct = s.distinct;
      scan = s.scan;
      extends = extends-trans _ _ _ c.loop-done.invariant.extends s.extends;
    }
