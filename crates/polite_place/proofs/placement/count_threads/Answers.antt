use Rattle.std.proofs.Common.{arith}
use Rattle.polite_place.proofs.Shares.{some_threads}
use Rattle.polite_place.proofs.placement.count_threads.Goals as goal

pub returns-clause-some : goal.returns-clause-some
returns-clause-some c = let h = some_threads c.args.shape.now c.numbers-numbers.ensures.limits in omega arith
