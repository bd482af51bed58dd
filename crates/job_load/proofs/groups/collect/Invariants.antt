use Rattle.std.proofs.Common.{drop}
use Rattle.job_load.proofs.Grouped.{Gathers}
use Rattle.job_load.proofs.groups.collect.Given as goal

abbrev pub invariant-loop-place : goal.invariant-loop-place
invariant-loop-place l = Gathers l.fills (drop l.place l.fills) l.groups.items
