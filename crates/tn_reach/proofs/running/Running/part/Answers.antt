use Rattle.std.proofs.Common.{◌<◌, ◌∙◌, ◌-◌, ap, arith, length, sum, take, drop}
use Rattle.tn_reach.specs.Running.{steps}
use Rattle.tn_reach.proofs.Runs.{part_is}
use Rattle.tn_reach.proofs.running.Running.part.Goals as goal

pub overflow_sub-result : goal.overflow_sub-result
overflow_sub-result c =
    let some : 0 < length c.as_slice-sums.result.now = rw c.as_slice-sums.ensures.value c.self.invariant.0 in
    (part_is c.as_slice-sums.result.now c.args.first c.args.count (length c.as_slice-sums.result.now - 1) c.min-low.result c.min-high.result (rw c.as_slice-sums.ensures.value c.self.invariant.2) some (rw c.as_slice-sums.ensures.value c.self.invariant.3) (omega arith) c.min-low.ensures c.min-high.ensures).0

pub returns-clause-value : goal.returns-clause-value
returns-clause-value c =
    let some : 0 < length c.as_slice-sums.result.now = rw c.as_slice-sums.ensures.value c.self.invariant.0 in
    (part_is c.as_slice-sums.result.now c.args.first c.args.count (length c.as_slice-sums.result.now - 1) c.min-low.result c.min-high.result (rw c.as_slice-sums.ensures.value c.self.invariant.2) some (rw c.as_slice-sums.ensures.value c.self.invariant.3) (omega arith) c.min-low.ensures c.min-high.ensures).1
    ∙ ap (λ xs. sum (take c.args.count (drop c.args.first xs))) (ap steps c.as_slice-sums.ensures.value ∙ c.self.view_is)
