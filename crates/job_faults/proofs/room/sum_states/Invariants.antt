use Rattle.std.proofs.Common.{◌≡◌, length}
use Rattle.job_faults.specs.Room.{Summed}
use Rattle.job_faults.proofs.room.sum_states.Given as goal

abbrev pub invariant-loop-vertex : goal.invariant-loop-vertex
invariant-loop-vertex l = record {
  long : length l.sums.items ≡ 16384;
  each : Summed l.graph l.placement l.vertex l.sums.items;
}
