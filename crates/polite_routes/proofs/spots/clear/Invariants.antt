use Rattle.std.proofs.Common.{◌≡◌, ◌<◌, ℕ, cond, length, take}
use Rattle.polite_routes.specs.Targets.{count_in, mask_of, one_more, reaches, spot, spot_at, spot_for}
use Rattle.polite_routes.proofs.spots.clear.Given as goal

abbrev pub invariant-loop-target : goal.invariant-loop-target
invariant-loop-target l = record {
  room : length l.spots ≡ 256;
  rest : (i : ℕ) → i < 256 → spot_at l.spots i ≡ cond (reaches (take l.target-index l.targets) i) (spot 0 0) (spot_for l.targets (count_in l.fn.counts) i);
  counted : (i : ℕ) → i < 256 → count_in l.counts i ≡ cond (reaches (take l.target-index l.targets) i) (one_more (mask_of l.targets i) (count_in l.fn.counts i)) (count_in l.fn.counts i);
}
