use Rattle.std.proofs.Common.{◌≡◌, ◌<◌, ◌≤◌, ◌/◌, [], ℕ, get_or, length, take}
use Rattle.tn_base.specs.Address.{thread_at}
use Rattle.tn_base.specs.Shape.{thread_count}
use Rattle.polite_routes.specs.InEdges.{edges_in}
use Rattle.polite_routes.specs.Routes.{lists_to, trees_to}
use Rattle.polite_routes.specs.Targets.{count_in}
use Rattle.polite_routes.proofs.in_edges.add_pins.Given as goal

abbrev pub invariant-loop-pin : goal.invariant-loop-pin
invariant-loop-pin l = record {
  counted : (i : ℕ) → i < 256 → count_in l.counts i ≡ trees_to (take l.pin-index l.pins) i;
  count_room : length l.counts ≡ 256;
  met_room : length l.met ≡ 256;
  stamped : l.stamp ≡ l.pin-index;
  bound : (i : ℕ) → count_in l.met i ≤ l.stamp;
  threads : length l.lists ≡ thread_count l.shape;
  listed : (i k : ℕ) → i < thread_count l.shape → edges_in l.lists i k ≡ get_or (lists_to (take l.pin-index l.pins) (thread_at l.shape i)) k [];
  rooms : (i : ℕ) → i < thread_count l.shape → length (get_or l.lists i []) ≡ trees_to l.pins (thread_at l.shape i / 64);
}
