use Rattle.std.proofs.Common.{◌≡◌, ◌≤◌, length}
use Rattle.tn_tile.specs.Kept.{with_switches}
use Rattle.tn_tile.proofs.threads.with_switches.Given as goal

-- what is still to be given completes what was given
abbrev pub invariant-loop-switch : goal.invariant-loop-switch
invariant-loop-switch l = record {
  few : length l.switches.items ≤ length l.threads.items;
  same : with_switches l.threads.items l.switches.items ≡ with_switches l.fn.threads.items l.fn.switches.items;
}

abbrev pub decreases-loop-switch : goal.decreases-loop-switch
decreases-loop-switch l = length l.switches.items
