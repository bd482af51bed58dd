use Rattle.std.proofs.Common.{◌≡◌, ◌<◌, ◌≤◌, ℕ, length, take}
use Rattle.polite_routes.specs.Routes.{trees_to}
use Rattle.polite_routes.specs.Targets.{count_in}
use Rattle.polite_routes.proofs.planting.count_all.Given as goal

abbrev pub invariant-loop-pin : goal.invariant-loop-pin
invariant-loop-pin l = record {
  counted : (i : ℕ) → i < 256 → count_in l.counts i ≡ trees_to (take l.pin-index l.pins) i;
  room : length l.counts ≡ 256;
  met_room : length l.met ≡ 256;
  stamped : l.stamp ≡ l.pin-index;
  bound : (i : ℕ) → count_in l.met i ≤ l.stamp;
}
