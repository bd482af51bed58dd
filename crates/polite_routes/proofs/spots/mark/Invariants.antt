use Rattle.std.proofs.Common.{◌≡◌, ◌<◌, ℕ, length, take}
use Rattle.polite_routes.specs.Targets.{count_in, spot_at, spot_for}
use Rattle.polite_routes.proofs.spots.mark.Given as goal

abbrev pub invariant-loop-target : goal.invariant-loop-target
invariant-loop-target l = record {
  room : length l.spots ≡ 256;
  marked_so : (i : ℕ) → i < 256 → spot_at l.spots i ≡ spot_for (take l.target-index l.targets) (count_in l.counts) i;
}
