use Rattle.std.proofs.Common.{◌≡◌, length, map}
use Rattle.std.specs.List.{range_with_len}
use Rattle.job_load.specs.Graph.{seated}
use Rattle.job_load.proofs.graph.seat_threads.Given as goal

abbrev pub invariant-loop-lists : goal.invariant-loop-lists
invariant-loop-lists l = l.all.items ≡ map (seated l.shape l.graph l.keys l.entries l.fn.in_edges) (range_with_len 0 (length l.yielded))
