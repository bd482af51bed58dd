use Rattle.std.proofs.Common.{◌≡◌, ◌∙◌, ap, is_some, subst, sym}
use Rattle.tn_base.specs.declared.event.Event.TheVariants as event
use Rattle.tn_router.specs.Rows.{route_row}
use Rattle.tn_rows.proofs.Meeting.{some_router}
use Rattle.tn_rows.specs.Events.{after}
use Rattle.tn_rows.specs.PartView.{PartView}
use Rattle.tn_stamp.specs.declared.entry.Crossing.TheVariants as crossing
use Rattle.tn_part.specs.Views.{view_of}
use Rattle.tn_part.proofs.part.Part.can_route.Goals as goal

pub returns : goal.returns
returns g c =
    subst (λ (x : PartView). c.can_route.result ≡ is_some (after (event.Route c.args.p) crossing.None x)) (sym (ap (view_of g.L.Link.content) c.in-Router.is) ∙ c.self.view_is)
    (c.can_route.ensures ∙ sym (some_router c.in-Router.router (route_row c.in-Router.router.plan c.in-Router.router.now)))
