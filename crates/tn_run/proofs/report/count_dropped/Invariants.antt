use Rattle.std.proofs.Common.{◌≡◌, ◌+◌, ◌*◌, ◌≤◌, ◌^◌, drop, sum_by}
use Rattle.tn_letters.specs.Law.{dropped_on}
use Rattle.tn_run.proofs.report.count_dropped.Given as goal

abbrev pub invariant-loop-part : goal.invariant-loop-part
invariant-loop-part l = record {
  sum : l.count + sum_by dropped_on (drop l.part-index l.parts) ≡ sum_by dropped_on l.parts;
  small : l.count ≤ l.part-index * 2 ^ 64;
}
