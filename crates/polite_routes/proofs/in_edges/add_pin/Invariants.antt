use Rattle.std.proofs.Common.{◌≡◌, ◌<◌, ◌++◌, ◌/◌, [], ℕ, cond, eqb, get_or, length, take}
use Rattle.tn_base.specs.Address.{thread_at}
use Rattle.tn_base.specs.Shape.{thread_count}
use Rattle.polite_routes.specs.InEdges.{edges_in}
use Rattle.polite_routes.specs.Targets.{count_in, edges_to}
use Rattle.polite_routes.proofs.in_edges.add_pin.Given as goal

abbrev pub invariant-loop-target : goal.invariant-loop-target
invariant-loop-target l = record {
  listed : (i k : ℕ) → i < thread_count l.shape → edges_in l.lists i k ≡ edges_in l.fn.lists i k ++ cond (eqb k (count_in l.locals (thread_at l.shape i / 64))) (edges_to (take l.target-index l.targets) (thread_at l.shape i)) [];
  rooms : (i : ℕ) → length (get_or l.lists i []) ≡ length (get_or l.fn.lists i []);
}
