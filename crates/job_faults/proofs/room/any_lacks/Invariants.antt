use Rattle.std.proofs.Common.{◌≡◌, length}
use Rattle.job_faults.specs.Room.{any_lacks, lacks_room}
use Rattle.job_faults.proofs.Ranges.{any_from}
use Rattle.job_faults.proofs.room.any_lacks.Given as goal

abbrev pub invariant-loop-vertex : goal.invariant-loop-vertex
invariant-loop-vertex l = any_from (lacks_room l.mem l.graph l.placement) l.vertex (length l.graph.vertices) ≡ any_lacks l.mem l.graph l.placement
