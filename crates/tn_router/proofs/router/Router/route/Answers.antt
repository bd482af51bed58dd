use Rattle.std.proofs.Common.{subst}
use Rattle.tn_base.specs.Does.{Does}
use Rattle.tn_router.specs.Rows.{happened, route_row}
use Rattle.tn_router.specs.RouterView.{RouterView, now_by, with_now}
use Rattle.tn_router.proofs.Deeds.{does_now, routed_fits}
use Rattle.tn_router.proofs.router.Router.route.Goals as goal

pub invariant_of-self : goal.invariant_of-self
invariant_of-self c = record {
  board = c.self.invariant.board;
  fits = routed_fits c.self.inside.plan (happened c.route.result) c.self.inside.state c.route.new.self c.self.invariant.board c.self.invariant.fits c.route.ensures.row;
}

pub returns-clause-row : goal.returns-clause-row
returns-clause-row c =
    let old : RouterView = record { plan = c.self.inside.plan; now = c.self.inside.state } in
    subst (λ (v : RouterView). Does (happened c.route.result) (now_by v (route_row v.plan v.now)) v (with_now old c.route.new.self)) c.self.view_is
    (does_now (happened c.route.result) (route_row old.plan old.now) old c.route.new.self c.route.ensures.row)
