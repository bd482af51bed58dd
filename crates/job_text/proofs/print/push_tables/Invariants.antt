use Rattle.std.proofs.Common.{◌≡◌, ◌++◌, take, flat_map}
use Rattle.job_text.specs.Printed.{table_text}
use Rattle.job_text.proofs.print.push_tables.Given as goal

abbrev pub invariant-loop-table : goal.invariant-loop-table
invariant-loop-table l = l.text.items ≡ l.initial.text.items ++ flat_map table_text (take l.table-index l.tables)
