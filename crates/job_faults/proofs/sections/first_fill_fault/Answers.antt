use Rattle.std.proofs.Common.{◌∙◌}
use Rattle.job_faults.specs.Faults.{fill_fault}
use Rattle.job_faults.proofs.Faults.{soonest_more}
use Rattle.job_faults.proofs.sections.first_fill_fault.Goals as goal

pub loop-fill-preserved : goal.loop-fill-preserved
loop-fill-preserved c =
    let more = soonest_more (fill_fault c.args.shape.now) c.args.fills.now c.loop-fill.fill-index c.fill-item.result c.loop-fill.first c.loop-fill-test.true c.fill-item.is in
    rw (c.sooner-first.ensures, c.fill_fault.ensures) (more ∙ c.loop-fill.invariant)
