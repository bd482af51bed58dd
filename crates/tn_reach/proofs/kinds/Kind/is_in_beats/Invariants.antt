use Rattle.std.proofs.Common.{◌≡◌, drop}
use Rattle.std.specs.List.{list_any}
use Rattle.tn_keys.specs.Tables.{joined}
use Rattle.tn_reach.specs.Kinds.{shows}
use Rattle.tn_reach.proofs.kinds.Kind.is_in_beats.Given as goal

abbrev pub invariant-loop-beat : goal.invariant-loop-beat
invariant-loop-beat l = list_any (λ beat. list_any (shows l.self l.shape l.tables l.board) beat) (drop l.beat-index l.beats) ≡ list_any (shows l.self l.shape l.tables l.board) (joined l.beats)
