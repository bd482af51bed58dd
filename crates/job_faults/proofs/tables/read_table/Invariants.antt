use Rattle.job_faults.proofs.Faults.{LinesRead}
use Rattle.job_faults.proofs.tables.read_table.Given as goal

abbrev pub invariant-loop-line : goal.invariant-loop-line
invariant-loop-line l = LinesRead l.version l.table.beats l.line-index l.beats l.first
