use Rattle.std.proofs.Common.{◌≡◌, drop}
use Rattle.job_faults.specs.Faults.{send_fault, sooner, soonest}
use Rattle.job_faults.proofs.sections.first_send_fault.Given as goal

abbrev pub invariant-loop-said : goal.invariant-loop-said
invariant-loop-said l = sooner l.first (soonest (send_fault l.shape) (drop l.said-index l.script)) ≡ soonest (send_fault l.shape) l.script
