use Rattle.std.proofs.Common.{◌≡◌, ◌∙◌, ap, is_ok, rules, subst, sym, true}
use Rattle.tn_host.specs.HostView.{HostState, HostView}
use Rattle.tn_host.specs.Rows.{can_depart}
use Rattle.tn_base.specs.declared.event.Event.TheVariants as event
use Rattle.tn_rows.specs.Events.{meets}
use Rattle.tn_rows.specs.PartView.{HostV, LinkV}
use Rattle.tn_part.specs.Joint.{DoesBoth}
use Rattle.tn_part.proofs.Crossings.{ok_if, put_done}
use Rattle.tn_part.proofs.host.put_host.Goals as goal

pub returns : goal.returns
returns g c =
    let s : HostState = c.args.host.now.now in
    let x = g.L.Link.content c.args.link.now in
    let y = g.L.Link.content c.put.new.self in
    let counts : can_depart s.node ≡ true = search rules in
    subst (λ (t : HostState). DoesBoth true (meets event.HostPut (HostV s) (LinkV x)) (HostV s) (LinkV x) (HostV t) (LinkV y)) (sym (ap (λ (v : HostView). v.now) c.depart.ensures))
    (put_done s x y c.in-Some.packet (is_ok c.put.result) c.in-Some.ensures counts (ok_if c.put.result (sym c.is_err.ensures.value ∙ c.if-is_err.false)) c.put.ensures)
