use Rattle.std.proofs.Common.{◌≡◌, ◌<◌, ◌≤◌, ◌+◌, ℕ, cond, eqb, take}
use Rattle.polite_routes.specs.Targets.{count_in, reaches}
use Rattle.polite_routes.proofs.counting.count_tree.Given as goal

abbrev pub invariant-loop-target : goal.invariant-loop-target
invariant-loop-target l = record {
  counted : (i : ℕ) → i < 256 → count_in l.counts i ≡ count_in l.fn.counts i + cond (reaches (take l.target-index l.targets) i) 1 0;
  met_now : (i : ℕ) → i < 256 → eqb (count_in l.met i) l.tree ≡ reaches (take l.target-index l.targets) i;
  bound : (i : ℕ) → count_in l.met i ≤ l.tree;
}
