use Rattle.std.proofs.Common.{length, arith}
use Rattle.polite_place.proofs.Adds.{all_below_at}
use Rattle.polite_place.proofs.order.meet_all.Goals as goal

pub meet-requires-clause-there : goal.meet-requires-clause-there
meet-requires-clause-there c = omega (arith, all_below_at (length c.args.met.now) c.args.targets.now c.loop-target.target-index c.requires.there c.loop-target-test.true)
