use Rattle.std.proofs.Common.{arith}
use Rattle.tn_gen.specs.Drawn.{next_words}
use Rattle.tn_gen.proofs.DrawnLemmas.{all_drawn, one_drawn}
use Rattle.tn_gen.proofs.draw.draw_from.Goals as goal

pub loop-place-preserved : goal.loop-place-preserved
loop-place-preserved g c =
    rw c.in_ok-push.ensures.items
    (one_drawn c.args.count c.loop-place.place c.loop-place.words.items (g.R.Rng.stream c.loop-place.rng) (g.R.Rng.stream c.next_u32.new.self) c.next_u32.result
    (next_words c.args.count (g.R.Rng.stream c.args.rng.now)) c.loop-place-test.true c.next_u32.ensures c.loop-place.invariant)

pub returns : goal.returns
returns g c =
    all_drawn c.args.count c.loop-place.place c.loop-place.words.items (g.R.Rng.stream c.loop-place.rng) (next_words c.args.count (g.R.Rng.stream c.args.rng.now)) (omega arith) c.loop-place.invariant
