use Rattle.std.proofs.Common.{◌≡◌, drop}
use Rattle.job_faults.specs.Faults.{sooner, soonest}
use Rattle.job_faults.specs.ReadTables.{read_fault}
use Rattle.job_faults.proofs.sections.first_beat_fault.Given as goal

abbrev pub invariant-loop-table : goal.invariant-loop-table
invariant-loop-table l = sooner l.first (soonest read_fault (drop l.table-index l.tables)) ≡ soonest read_fault l.tables
