use Rattle.std.proofs.Common.{◌≡◌, ◌*◌, ◌^◌}
use Rattle.std.specs.Prelude.{pos, ◌≤ℤ◌, neg_ℤ}
use Rattle.tn_detect.specs.Reports.{sum_int}
use Rattle.tn_rest.specs.Quiet.{mixed}
use Rattle.tn_rest.proofs.sums.mixed.Given as goal

abbrev pub invariant-loop-k : goal.invariant-loop-k
invariant-loop-k g l = record {
  so_far : l.sum ≡ sum_int (mixed l.below (g.M.Machine.seen l.machine)) l.k;
  above : neg_ℤ (pos (l.k * 2 ^ 63)) ≤ℤ l.sum;
  below : l.sum ≤ℤ pos (l.k * 2 ^ 63);
}
