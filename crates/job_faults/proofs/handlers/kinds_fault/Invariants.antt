use Rattle.std.proofs.Common.{◌≡◌, drop}
use Rattle.job_faults.specs.Labels.{kinds_fault}
use Rattle.job_faults.proofs.handlers.kinds_fault.Given as goal

abbrev pub invariant-loop-kind : goal.invariant-loop-kind
invariant-loop-kind l = kinds_fault l.labels (drop l.kind-index l.kinds) ≡ kinds_fault l.labels l.kinds
