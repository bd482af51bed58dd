use Rattle.std.proofs.Common.{true, ◌≡◌, ◌<◌, ◌++◌, ◌-◌, drop, take}
use Rattle.tn_keys.specs.Beat.{is_beat}
use Rattle.polite_routes.specs.Pack.{filled, pack}
use Rattle.polite_routes.proofs.draft.BeatList.fill.Given as goal

abbrev pub invariant-loop-end : goal.invariant-loop-end
invariant-loop-end l = record {
  so_far : l.self ++ filled (take (l.end - l.start) (drop l.start l.records)) (drop l.end l.records) ≡ l.fn.self ++ pack l.records;
  beat : is_beat (take (l.end - l.start) (drop l.start l.records)) ≡ true;
  order : l.start < l.end;
}
