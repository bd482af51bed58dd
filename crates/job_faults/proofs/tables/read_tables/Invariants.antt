use Rattle.std.proofs.Common.{◌≡◌, ◌++◌, drop, map}
use Rattle.job_faults.specs.ReadTables.{as_read}
use Rattle.job_faults.proofs.tables.read_tables.Given as goal

abbrev pub invariant-loop-table : goal.invariant-loop-table
invariant-loop-table l = l.all ++ map (as_read l.version) (drop l.table-index l.tables) ≡ map (as_read l.version) l.tables
