use Rattle.std.proofs.Common.{◌≡◌, ◌<◌, ℕ, get_or, length}
use Rattle.tn_base.specs.Address.{thread_at}
use Rattle.polite_routes.proofs.in_edges.places_of.Given as goal

abbrev pub invariant-loop-thread : goal.invariant-loop-thread
invariant-loop-thread l = record {
  all : length l.places ≡ 16384;
  each : (i : ℕ) → i < l.thread → get_or l.places (thread_at l.shape i) 0 ≡ i;
}
