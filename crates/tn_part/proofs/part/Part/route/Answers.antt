use Rattle.std.proofs.Common.{◌∙◌, ap, subst, sym}
use Rattle.tn_base.specs.declared.event.Event.TheVariants as event
use Rattle.tn_base.specs.Does.{Does}
use Rattle.tn_router.specs.RouterView.{now_by}
use Rattle.tn_router.specs.Rows.{route_row}
use Rattle.tn_rows.specs.Events.{after}
use Rattle.tn_rows.specs.PartView.{PartView, RouterV}
use Rattle.tn_stamp.specs.declared.entry.Crossing.TheVariants as crossing
use Rattle.tn_tile.specs.Turns.{moved}
use Rattle.tn_part.specs.Views.{view_of}
use Rattle.tn_part.proofs.Crossings.{does_mapped}
use Rattle.tn_part.proofs.part.Part.route.Goals as goal

pub returns : goal.returns
returns g c =
    subst (λ (x : PartView). Does (moved c.did_route.result) (after (event.Route c.args.p) crossing.None x) x (RouterV c.did_route.new.router)) (sym (ap (view_of g.L.Link.content) c.in-Router.is) ∙ c.self.view_is)
    (does_mapped RouterV (moved c.did_route.result) (now_by c.in-Router.router (route_row c.in-Router.router.plan c.in-Router.router.now)) c.in-Router.router c.did_route.new.router c.did_route.ensures)
