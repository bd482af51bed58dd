use Rattle.std.proofs.Common.{◌≡◌, ◌++◌, drop}
use Rattle.job_faults.specs.Labels.{entries_in}
use Rattle.job_faults.proofs.handlers.entries_in.Given as goal

abbrev pub invariant-loop-kind : goal.invariant-loop-kind
invariant-loop-kind l = l.all.items ++ entries_in l.labels (drop l.kind-index l.kinds) ≡ entries_in l.labels l.kinds
