use Rattle.std.proofs.Common.{◌≡◌, ◌<◌, ◌/◌, [], ℕ, get_or, length, replicate}
use Rattle.tn_base.specs.Address.{thread_at}
use Rattle.polite_routes.specs.Targets.{count_in}
use Rattle.polite_routes.proofs.in_edges.empty_lists.Given as goal

abbrev pub invariant-loop-thread : goal.invariant-loop-thread
invariant-loop-thread l = record {
  count : length l.lists.items ≡ l.thread;
  each : (i : ℕ) → i < l.thread → get_or l.lists.items i [] ≡ replicate (count_in l.counts (thread_at l.shape i / 64)) [];
}
