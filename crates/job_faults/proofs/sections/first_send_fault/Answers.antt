use Rattle.std.proofs.Common.{◌∙◌}
use Rattle.job_faults.specs.Faults.{send_fault}
use Rattle.job_faults.proofs.Faults.{soonest_more}
use Rattle.job_faults.proofs.sections.first_send_fault.Goals as goal

pub loop-said-preserved : goal.loop-said-preserved
loop-said-preserved c =
    let more = soonest_more (send_fault c.args.shape.now) c.args.script.now c.loop-said.said-index c.said-item.result c.loop-said.first c.loop-said-test.true c.said-item.is in
    rw (c.sooner-first.ensures, c.item_fault.ensures) (more ∙ c.loop-said.invariant)
