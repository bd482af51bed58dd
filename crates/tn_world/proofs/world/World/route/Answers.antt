use Rattle.std.proofs.Common.{◌≡◌, ◌≤◌, None, false, arith, length, refl, set, subst, sym}
use Rattle.std.specs.declared.option.Option.{Option}
use Rattle.tn_base.specs.Parts.{kind_of}
use Rattle.tn_rows.specs.Places.{is_router}
use Rattle.tn_rows.proofs.Others.{part_past}
use Rattle.tn_base.specs.declared.event.Event.TheVariants as event
use Rattle.tn_base.specs.Does.{Does}
use Rattle.tn_tile.specs.Turns.{moved}
use Rattle.tn_rows.specs.Events.{happened}
use Rattle.tn_rows.specs.WorldView.{WorldView}
use Rattle.tn_world.proofs.Places.{At, does_keeps, routes_world}
use Rattle.tn_world.proofs.world.World.route.Goals as goal

pub invariant_of-self : goal.invariant_of-self
invariant_of-self g c =
    let w : WorldView = record { shape = c.self.inside.shape; parts = c.self.inside.parts.items } in
    let at : At w c.args.p.0 c.index_mut.result.now = record { within = omega (arith, c.if-at-len.false, c.len.ensures, c.self.inside.parts.ok); is = c.index_mut.ensures.value } in
    record {
      world = does_keeps w (event.Route c.args.p) c.args.p.0 c.index_mut.result.now c.route.new.self (moved c.route.result) at c.route.ensures c.self.invariant.world;
      all = c.self.invariant.all;
    }

pub returns : goal.returns
returns g c =
    let w : WorldView = record { shape = c.self.inside.shape; parts = c.self.inside.parts.items } in
    let at : At w c.args.p.0 c.index_mut.result.now = record { within = omega (arith, c.if-at-len.false, c.len.ensures, c.self.inside.parts.ok); is = c.index_mut.ensures.value } in
    subst (λ (x : WorldView). Does (moved c.route.result) (happened (event.Route c.args.p) x) x (record { shape = c.self.inside.shape; parts = set c.self.inside.parts.items c.args.p.0 c.route.new.self })) c.self.view_is
    (routes_world w c.args.p c.index_mut.result.now c.route.new.self (moved c.route.result) at c.route.ensures c.self.invariant.world)

pub returns-then-at-len : goal.returns-then-at-len
returns-then-at-len g c =
    let w : WorldView = record { shape = c.self.inside.shape; parts = c.self.inside.parts.items } in
    let past : length w.parts ≤ c.args.p.0 = omega (arith, c.if-at-len.true, c.len.ensures, c.self.inside.parts.ok) in
    let none : happened (event.Route c.args.p) w ≡ None = part_past (event.Route c.args.p) w (is_router (kind_of w.shape c.args.p.0)) c.args.p.0 past in
    subst (λ (x : WorldView). Does false (happened (event.Route c.args.p) x) x x) c.self.view_is (subst (λ (o : Option WorldView). Does false o w w) (sym none) (refl, refl))
