use Rattle.std.proofs.Common.{◌≡◌, drop}
use Rattle.polite_place.specs.Scan.{add_all, Synced}
use Rattle.polite_place.proofs.order.meet_all.Given as goal

abbrev pub invariant-loop-target : goal.invariant-loop-target
invariant-loop-target l = record {
  so_far : add_all l.order.items (drop l.target-index l.targets) ≡ add_all l.initial.order.items l.targets;
  synced : Synced l.order.items l.met;
}
