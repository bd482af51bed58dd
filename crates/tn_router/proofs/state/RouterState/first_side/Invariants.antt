use Rattle.std.proofs.Common.{◌≡◌, drop}
use Rattle.tn_router.specs.Rows.{first_move, first_of}
use Rattle.tn_router.proofs.state.RouterState.first_side.Given as goal

abbrev pub invariant-loop-side : goal.invariant-loop-side
invariant-loop-side l = first_of l.plan (drop l.side-index l.side-items) l.self ≡ first_move l.plan l.self
