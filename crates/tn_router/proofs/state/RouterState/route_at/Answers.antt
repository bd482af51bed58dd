use Rattle.std.proofs.Common.{◌≡◌, ◌∙◌, true, refl, sym, ap, subst, is_some, option_map, Some}
use Rattle.tn_keys.specs.Tables.{Table}
use Rattle.tn_node.specs.PortRows.{at}
use Rattle.tn_router.specs.declared.state.RouterState.{RouterState}
use Rattle.tn_router.specs.Moves.{move_of}
use Rattle.tn_router.specs.Rows.{carried, move_at}
use Rattle.tn_router.specs.RouterView.{RouterPlan}
use Rattle.tn_router.proofs.Searched.{moves_at}
use Rattle.tn_router.proofs.state.RouterState.route_at.Goals as goal

pub returns-clause-row : goal.returns-clause-row
returns-clause-row c =
    let plan : RouterPlan = record { shape = c.plan.inside.shape; board = c.plan.inside.board; beats = c.plan.inside.beats.items } in
    let old = c.args.self.now in
    let read : at c.args.side old.inputs ≡ Some c.in-Some.work = sym c.take.ensures.value ∙ c.in-Some.is in
    let is : c.move_of-found.result ≡ move_of plan.shape plan.board plan.beats c.args.side c.in-Some.work = c.move_of-found.ensures ∙ ap (λ (t : Table). move_of plan.shape plan.board t c.args.side c.in-Some.work) c.deref.ensures.value in
    let can : is_some (move_at plan c.args.side old) ≡ true = subst (λ (p : RouterPlan). is_some (move_at p c.args.side old) ≡ true) (sym c.plan.view_is) c.requires.can in
    subst (λ (p : RouterPlan). option_map (carried old) (move_at p c.args.side old) ≡ Some c.carry.new.self) c.plan.view_is
    (moves_at plan c.args.side c.in-Some.work old c.move_of-found.result read is can
    ∙ sym (ap (λ (x : RouterState). Some x) c.carry.ensures ∙ rw c.take.ensures.rest refl))
