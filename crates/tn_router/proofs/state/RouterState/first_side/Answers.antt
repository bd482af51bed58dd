use Rattle.std.proofs.Common.{◌∙◌, sym, ap, is_some, Option}
use Rattle.tn_base.specs.declared.port.Port.TheVariants as port
use Rattle.tn_router.specs.declared.moves.Move.{Move}
use Rattle.tn_router.specs.Rows.{sides}
use Rattle.tn_router.proofs.Searched.{found_here, passed_here}
use Rattle.tn_router.proofs.state.RouterState.first_side.Goals as goal

pub returns-then-can_move-clause-first : goal.returns-then-can_move-clause-first
returns-then-can_move-clause-first c =
    sym c.loop-side.invariant ∙ found_here c.args.plan.now sides c.args.self.now c.loop-side.side-index port.East c.loop-side-test.true (sym c.can_move.ensures ∙ c.if-can_move.true)

pub returns-then-can_move-clause-some : goal.returns-then-can_move-clause-some
returns-then-can_move-clause-some c =
    let can = sym c.can_move.ensures ∙ c.if-can_move.true in
    let found = found_here c.args.plan.now sides c.args.self.now c.loop-side.side-index port.East c.loop-side-test.true can in
    sym (ap (λ (o : Option Move). is_some o) (sym c.loop-side.invariant ∙ found) ∙ can)

pub loop-side-preserved : goal.loop-side-preserved
loop-side-preserved c = passed_here c.args.plan.now sides c.args.self.now c.loop-side.side-index port.East c.loop-side-test.true (sym c.can_move.ensures ∙ c.if-can_move.false) ∙ c.loop-side.invariant
