use Rattle.std.proofs.Common.{◌≡◌, drop}
use Rattle.std.specs.List.{list_any}
use Rattle.tn_reach.specs.Kinds.{shows}
use Rattle.tn_reach.proofs.kinds.Kind.is_in_beat.Given as goal

abbrev pub invariant-loop-route : goal.invariant-loop-route
invariant-loop-route l = list_any (shows l.self l.shape l.tables l.board) (drop l.route-index l.beat) ≡ list_any (shows l.self l.shape l.tables l.board) l.beat
