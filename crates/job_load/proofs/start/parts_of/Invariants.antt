use Rattle.std.proofs.Common.{◌≡◌, ◌++◌, drop, map}
use Rattle.tn_base.specs.Parts.{parts}
use Rattle.job_load.specs.Start.{part_start}
use Rattle.job_load.proofs.start.parts_of.Given as goal

abbrev pub invariant-loop-p : goal.invariant-loop-p
invariant-loop-p l = l.all.items ++ map (part_start l.job) (drop l.p (parts l.shape)) ≡ map (part_start l.job) (parts l.shape)
