use Rattle.std.proofs.Common.{◌≡◌, ◌≤◌, ◌*◌, ◌^◌}
use Rattle.tn_sums.specs.Totals.{total}
use Rattle.tn_rest.proofs.sums.packets.Given as goal

abbrev pub invariant-loop-l : goal.invariant-loop-l
invariant-loop-l g l = record {
  so_far : l.sum ≡ total (g.M.Machine.seen l.machine).link l.l;
  few : l.sum ≤ l.l * 2 ^ 32;
}
