use Rattle.job_faults.proofs.Faults.{one_line}
use Rattle.job_faults.proofs.tables.read_table.Goals as goal

pub loop-line-preserved : goal.loop-line-preserved
loop-line-preserved c =
    rw (c.in_ok-push_beat.ensures, c.sooner-first.ensures, c.fault_of_beat.ensures, c.beat_from-read.ensures, c.as_slice-lines.ensures)
    (one_line c.args.version c.args.table.now.beats c.loop-line.line-index _ c.loop-line.beats c.loop-line.first (rw c.as_slice-lines.ensures at c.loop-line-test.true) c.loop-line.invariant)
