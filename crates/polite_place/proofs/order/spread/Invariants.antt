use Rattle.std.proofs.Common.{◌≡◌, ◌-◌, length}
use Rattle.polite_place.specs.Scan.{Distinct, Extends, Scan, Synced}
use Rattle.polite_place.proofs.order.spread.Given as goal

abbrev pub invariant-loop-done : goal.invariant-loop-done
invariant-loop-done l = record {
  vertices : length l.met ≡ length l.outs;
  synced : Synced l.order.items l.met;
  distinct : Distinct (length l.outs) l.order.items;
  scan : Scan l.outs l.order.items l.done;
  extends : Extends l.fn.order.items l.order.items;
}

abbrev pub decreases-loop-done : goal.decreases-loop-done
decreases-loop-done l = length l.outs - l.done
