use Rattle.std.proofs.Common.{arith}
use Rattle.tn_rest.proofs.More.{total_more, total_none}
use Rattle.tn_rest.proofs.sums.packets.Goals as goal

pub loop-l-init : goal.loop-l-init
loop-l-init g c = record { so_far = total_none (g.M.Machine.seen c.args.machine.now).link; few = omega arith }

pub loop-l-preserved : goal.loop-l-preserved
loop-l-preserved g c =
    let s = total_more (g.M.Machine.seen c.args.machine.now).link c.loop-l.l in
    let f = c.from-sum.ensures in
    let h = c.packets.ensures in
    record { so_far = omega (arith, s, f, h); few = omega (arith, f) }
