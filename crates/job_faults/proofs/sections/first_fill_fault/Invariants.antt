use Rattle.std.proofs.Common.{◌≡◌, drop}
use Rattle.job_faults.specs.Faults.{fill_fault, sooner, soonest}
use Rattle.job_faults.proofs.sections.first_fill_fault.Given as goal

abbrev pub invariant-loop-fill : goal.invariant-loop-fill
invariant-loop-fill l = sooner l.first (soonest (fill_fault l.shape) (drop l.fill-index l.fills)) ≡ soonest (fill_fault l.shape) l.fills
