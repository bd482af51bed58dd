use Rattle.std.proofs.Common.{◌≡◌, ◌∙◌, sym, ap, option_copied, is_some, Some}
use Rattle.tn_keys.specs.Tables.{Table}
use Rattle.tn_node.specs.PortRows.{at}
use Rattle.tn_router.specs.Moves.{move_of, sent_way}
use Rattle.tn_router.specs.Rows.{is_free, move_at}
use Rattle.tn_router.specs.RouterView.{RouterPlan}
use Rattle.tn_router.proofs.Searched.{can_move}
use Rattle.tn_router.proofs.state.RouterState.can_move.Goals as goal

pub returns : goal.returns
returns c =
    let plan : RouterPlan = record { shape = c.plan.inside.shape; board = c.plan.inside.board; beats = c.plan.inside.beats.items } in
    let read : at c.args.side c.args.self.now.inputs ≡ Some c.in-Some.work.now = sym c.get.ensures ∙ ap option_copied c.in-Some.is in
    c.is_free.ensures ∙ ap (λ way. is_free way c.args.self.now.node.out) (c.next_way-way.ensures c.args.side ∙ ap (λ (t : Table). sent_way (move_of plan.shape plan.board t c.args.side c.in-Some.work.now).sent) c.deref.ensures.value)
    ∙ can_move plan c.args.side c.in-Some.work.now c.args.self.now read ∙ ap (λ (p : RouterPlan). is_some (move_at p c.args.side c.args.self.now)) c.plan.view_is
