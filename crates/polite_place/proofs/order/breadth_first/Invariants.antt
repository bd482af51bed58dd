use Rattle.std.proofs.Common.{◌≡◌, length}
use Rattle.polite_place.specs.Order.{upto}
use Rattle.polite_place.specs.Scan.{AllHave, Distinct, Scan, Synced}
use Rattle.polite_place.proofs.order.breadth_first.Given as goal

abbrev pub invariant-loop-start : goal.invariant-loop-start
invariant-loop-start l = record {
  vertices : length l.met ≡ length l.outs;
  synced : Synced l.order.items l.met;
  distinct : Distinct (length l.outs) l.order.items;
  scan : Scan l.outs l.order.items (length l.order.items);
  before : AllHave l.order.items (upto l.start);
}
