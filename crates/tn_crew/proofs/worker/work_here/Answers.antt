use Rattle.tn_base.specs.Parts.{part_count}
use Rattle.tn_crew.proofs.Growing.{grew_more}
use Rattle.tn_crew.proofs.worker.work_here.Goals as goal

pub returns-in_default-2 : goal.returns-in_default-2
returns-in_default-2 g c = record { grows = grew_more (part_count c.args.sites.now) _ _ _ c.loop.invariant c.move_here-came.ensures.grows }

pub loop-preserved : goal.loop-preserved
loop-preserved g c = grew_more (part_count c.args.sites.now) _ _ _ c.loop.invariant c.move_here-came.ensures.grows
