use Rattle.std.proofs.Common.{◌<◌, ◌∙◌, sym, ap, arith, ltb, length}
use Rattle.std.specs.List.{list_any}
use Rattle.std.proofs.lemmas.Bool.{le-ltb, lt-ltb}
use Rattle.tn_reach.specs.Running.{steps}
use Rattle.tn_reach.proofs.Runs.{any_here, any_none, any_past, rising_at}
use Rattle.tn_reach.proofs.running.Running.has_above.Goals as goal

pub overflow_sub-sums : goal.overflow_sub-sums
overflow_sub-sums c = rising_at c.as_slice-sums.result.now c.loop-i.i (rw c.as_slice-sums.ensures.value c.self.invariant.2) (omega arith)

pub returns-then-sums-i : goal.returns-then-sums-i
returns-then-sums-i c =
    sym (any_here (ltb c.args.limit) c.as_slice-sums.result.now c.loop-i.i (omega arith) (lt-ltb _ _ c.if-sums-i.true)) ∙ c.loop-i.invariant ∙ ap (list_any (ltb c.args.limit)) (ap steps c.as_slice-sums.ensures.value ∙ c.self.view_is)

pub loop-i-preserved : goal.loop-i-preserved
loop-i-preserved c = sym (any_past (ltb c.args.limit) c.as_slice-sums.result.now c.loop-i.i (omega arith) (le-ltb _ _ c.if-sums-i.false)) ∙ c.loop-i.invariant

pub returns : goal.returns
returns c =
    let some : 0 < length c.as_slice-sums.result.now = rw c.as_slice-sums.ensures.value c.self.invariant.0 in
    sym (any_none (ltb c.args.limit) c.as_slice-sums.result.now c.loop-i.i some (omega arith)) ∙ c.loop-i.invariant ∙ ap (list_any (ltb c.args.limit)) (ap steps c.as_slice-sums.ensures.value ∙ c.self.view_is)
