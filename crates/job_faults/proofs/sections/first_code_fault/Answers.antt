use Rattle.std.proofs.Common.{◌∙◌}
use Rattle.job_faults.specs.Faults.{code_fault}
use Rattle.job_faults.proofs.Faults.{soonest_more}
use Rattle.job_faults.proofs.sections.first_code_fault.Goals as goal

pub loop-section-preserved : goal.loop-section-preserved
loop-section-preserved c =
    let more = soonest_more (code_fault c.args.shape.now) c.args.sections.now c.loop-section.section-index c.section-item.result c.loop-section.first c.loop-section-test.true c.section-item.is in
    rw (c.sooner-first.ensures, c.code_fault.ensures) (more ∙ c.loop-section.invariant)
