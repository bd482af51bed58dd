use Rattle.std.proofs.Common.{◌≡◌, ◌<◌}
use Rattle.tn_crew.proofs.run.finish.Given as goal
use Rattle.tn_crew.specs.Crew.{start_of}

abbrev pub invariant-loop : goal.invariant-loop
invariant-loop g l = record {
  start : start_of l.crew ≡ start_of l.fn.crew;
  some : 0 < l.workers;
  few : l.workers < 65;
}
