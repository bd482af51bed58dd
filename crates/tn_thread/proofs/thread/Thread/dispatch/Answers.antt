use Rattle.std.proofs.Common.{◌≡◌, IfSome, nat_eq}
use Rattle.polite_switch.specs.SwitchModel.{SwitchModel}
use Rattle.tn_thread.specs.Asks.{asks}
use Rattle.tn_thread.specs.Dispatch.{at_firmware, dispatch}
use Rattle.tn_thread.specs.Step.{Stepped}
use Rattle.tn_thread.proofs.Commands.{dispatch_is, dispatched_fits}
use Rattle.tn_thread.proofs.thread.Thread.dispatch.Goals as goal

pub returns-clause-fits : goal.returns-clause-fits
returns-clause-fits g c =
    let seen = g.V.View.sight c.args.view.now in
    let t = c.args.self.now in
    let here = nat_eq t.pc 0xFFFFFFF0 in
    let made : Stepped = asks c.act_on.result c.act_on.new.self in
    let switch = rw (c.switch_view-seen.ensures) at c.next_action-action.ensures.switch in
    let action = rw (c.switch_view-seen.ensures) at c.next_action-action.ensures.action in
    let step : IfSome (at_firmware t) (λ (s : SwitchModel). made ≡ dispatch s seen t) = dispatch_is here t.switch c.next_action-action.new.switch c.next_action-action.result seen t made switch action c.act_on.ensures in
    dispatched_fits here t.switch seen t made c.requires.there step
