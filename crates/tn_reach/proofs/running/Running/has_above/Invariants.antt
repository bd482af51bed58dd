use Rattle.std.proofs.Common.{◌≡◌, drop, ltb}
use Rattle.std.specs.List.{list_any}
use Rattle.tn_reach.specs.Running.{steps}
use Rattle.tn_reach.proofs.running.Running.has_above.Given as goal

abbrev pub invariant-loop-i : goal.invariant-loop-i
invariant-loop-i l = list_any (λ v. ltb l.limit v) (drop l.i (steps l.sums)) ≡ list_any (λ v. ltb l.limit v) (steps l.sums)
