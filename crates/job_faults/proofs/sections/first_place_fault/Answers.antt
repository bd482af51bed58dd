use Rattle.std.proofs.Common.{◌∙◌}
use Rattle.job_faults.specs.Faults.{place_fault}
use Rattle.job_faults.proofs.Faults.{soonest_more}
use Rattle.job_faults.proofs.sections.first_place_fault.Goals as goal

pub loop-table-preserved : goal.loop-table-preserved
loop-table-preserved c =
    let more = soonest_more (place_fault c.args.shape.now) c.args.tables.now c.loop-table.table-index c.table-item.result c.loop-table.first c.loop-table-test.true c.table-item.is in
    rw (c.sooner-first.ensures, c.place_fault.ensures) (more ∙ c.loop-table.invariant)
