use Rattle.std.proofs.Common.{◌≡◌, drop}
use Rattle.job_faults.specs.Faults.{place_fault, sooner, soonest}
use Rattle.job_faults.proofs.sections.first_place_fault.Given as goal

abbrev pub invariant-loop-table : goal.invariant-loop-table
invariant-loop-table l = sooner l.first (soonest (place_fault l.shape) (drop l.table-index l.tables)) ≡ soonest (place_fault l.shape) l.tables
