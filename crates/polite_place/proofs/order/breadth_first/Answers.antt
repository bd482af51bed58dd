use Rattle.std.proofs.Common.{length, arith}
use Rattle.polite_place.proofs.Counts.{begun, begun_distinct, before_more, ends, ends_count}
use Rattle.polite_place.proofs.order.breadth_first.Goals as goal

pub spread-requires-clause-distinct : goal.spread-requires-clause-distinct
spread-requires-clause-distinct c = begun_distinct (length c.args.outs.now) c.loop-start.order.items c.meet.new.order.items c.loop-start.start c.in_ok-meet.ensures.order c.loop-start.invariant.distinct (omega arith)

pub spread-requires-clause-scan : goal.spread-requires-clause-scan
spread-requires-clause-scan c = begun c.args.outs.now c.loop-start.order.items c.meet.new.order.items c.loop-start.start c.len-from.result c.in_ok-meet.ensures.order (omega (arith, c.len-from.ensures)) c.loop-start.invariant.scan (omega arith) c.loop-start.invariant.before

pub loop-start-preserved : goal.loop-start-preserved
loop-start-preserved c = record {
  vertices = omega arith;
  synced = c.in_ok-spread.ensures.synced;
  distinct = c.in_ok-spread.ensures.distinct;
  scan = c.in_ok-spread.ensures.scan;
  before = before_more c.loop-start.order.items c.meet.new.order.items c.spread.new.order.items c.loop-start.start c.in_ok-meet.ensures.order c.in_ok-spread.ensures.extends c.loop-start.invariant.before;
}

pub returns-clause-order : goal.returns-clause-order
returns-clause-order c = (ends c.args.outs.now c.loop-start.order.items c.loop-start.start (omega arith) (omega arith) c.loop-start.invariant.distinct c.loop-start.invariant.scan c.loop-start.invariant.before).1

pub returns-clause-once : goal.returns-clause-once
returns-clause-once c = (ends c.args.outs.now c.loop-start.order.items c.loop-start.start (omega arith) (omega arith) c.loop-start.invariant.distinct c.loop-start.invariant.scan c.loop-start.invariant.before).0

pub returns-clause-count : goal.returns-clause-count
returns-clause-count c = ends_count c.args.outs.now c.loop-start.order.items c.loop-start.start (omega arith) (omega arith) c.loop-start.invariant.distinct c.loop-start.invariant.before
