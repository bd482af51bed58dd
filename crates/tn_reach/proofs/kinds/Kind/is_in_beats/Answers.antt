use Rattle.std.proofs.Common.{sym}
use Rattle.tn_reach.specs.Kinds.{shows}
use Rattle.tn_reach.proofs.Finding.{any_joined}
use Rattle.tn_reach.proofs.kinds.Kind.is_in_beats.Goals as goal

pub loop-beat-init : goal.loop-beat-init
loop-beat-init c = sym (any_joined (shows c.args.self c.args.shape.now c.args.tables.now c.args.board) c.args.beats.now)
