use Rattle.std.proofs.Common.{arith}
use Rattle.std.proofs.lemmas.Int.{ints}
use Rattle.tn_rest.specs.Quiet.{mixed}
use Rattle.tn_rest.proofs.More.{sum_more}
use Rattle.tn_rest.proofs.sums.mixed.Goals as goal

pub loop-k-preserved : goal.loop-k-preserved
loop-k-preserved g c =
    let s = sum_more (mixed c.args.below (g.M.Machine.seen c.args.machine.now)) c.loop-k.k in
    let f = c.from-sum.ensures in
    let h = c.mixed_at.ensures in
    record {
      so_far = omega (arith, ints, s, f, h);
      above = omega (arith, ints, f);
      below = omega (arith, ints, f);
    }
