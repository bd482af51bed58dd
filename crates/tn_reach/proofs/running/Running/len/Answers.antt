use Rattle.std.proofs.Common.{ap, arith, length}
use Rattle.tn_reach.proofs.Runs.{length_steps}
use Rattle.tn_reach.proofs.running.Running.len.Goals as goal

pub returns-clause-value : goal.returns-clause-value
returns-clause-value c =
    let long = length_steps c.self.inside.sums.items c.self.invariant.0 in
    let same = ap length c.self.view_is in
    let whole = ap length c.as_slice.ensures.value in omega arith
