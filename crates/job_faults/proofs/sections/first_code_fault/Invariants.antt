use Rattle.std.proofs.Common.{◌≡◌, drop}
use Rattle.job_faults.specs.Faults.{code_fault, sooner, soonest}
use Rattle.job_faults.proofs.sections.first_code_fault.Given as goal

abbrev pub invariant-loop-section : goal.invariant-loop-section
invariant-loop-section l = sooner l.first (soonest (code_fault l.shape) (drop l.section-index l.sections)) ≡ soonest (code_fault l.shape) l.sections
