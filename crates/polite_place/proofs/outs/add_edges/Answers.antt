use Rattle.std.proofs.Common.{arith, length, refl}
use Rattle.polite_place.proofs.Gathering.{gathered, no_edge, none_yet}
use Rattle.polite_place.proofs.outs.add_edges.Goals as goal

pub loop-edge-init : goal.loop-edge-init
loop-edge-init c = none_yet (length c.args.lists.now) c.args.lists.now c.requires.none refl

pub loop-edge-preserved : goal.loop-edge-preserved
loop-edge-preserved c =
    let j = c.requires.there c.loop-edge.edge-index no_edge c.loop-edge-test.true in
    gathered (length c.args.lists.now) c.args.edges.now c.loop-edge.edge-index c.loop-edge.lists c.index-lists-edge.result c.push.new.self _ c.loop-edge-test.true refl c.loop-edge.invariant (let f = j.from in omega (arith, c.loop-edge.auto.lists)) c.in_ok-push.ensures
