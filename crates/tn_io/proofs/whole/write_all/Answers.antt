use Rattle.std.proofs.Common.{length-drop, arith}
use Rattle.tn_io.proofs.Pieces.{Appends-piece}
use Rattle.tn_io.proofs.whole.write_all.Goals as goal

pub loop-at-preserved : goal.loop-at-preserved
loop-at-preserved g c =
    let bytes = c.args.bytes.now in
    let put = c.in-Took.ensures.bytes in
    record {
      within = omega (arith, c.in-Took.ensures.bytes, length-drop c.loop-at.at bytes);
      sent = Appends-piece _ _ _ _ _ bytes c.loop-at.invariant.sent put.2;
      kept = cc (c.in-Took.ensures.cause);
    }
