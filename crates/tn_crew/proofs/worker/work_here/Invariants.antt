use Rattle.tn_base.specs.Parts.{part_count}
use Rattle.tn_crew.proofs.worker.work_here.Given as goal
use Rattle.tn_crew.specs.Tries.{GrewBy}

abbrev pub invariant-loop : goal.invariant-loop
invariant-loop g l = GrewBy (part_count l.sites) l.fn.part l.part
