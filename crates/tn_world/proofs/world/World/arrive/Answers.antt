use Rattle.std.proofs.Common.{subst, sym}
use Rattle.tn_base.specs.declared.event.Event.TheVariants as event
use Rattle.tn_base.specs.Does.{Does}
use Rattle.tn_base.specs.Parts.{kind_of}
use Rattle.tn_rows.specs.Events.{happened}
use Rattle.tn_rows.specs.Places.{leads_to}
use Rattle.tn_rows.specs.WorldView.{WorldView}
use Rattle.tn_tile.specs.Turns.{moved}
use Rattle.tn_world.proofs.Pairs.{both_keeps, both_world}
use Rattle.tn_rows.proofs.Ways.{LeadsTo, leads_onto}
use Rattle.tn_world.proofs.world.World.arrive.Goals as goal

pub arrive_at-requires : goal.arrive_at-requires
arrive_at-requires g c =
    let w : WorldView = record { shape = c.self.inside.shape; parts = c.self.inside.parts.items } in
    let joins : LeadsTo w c.args.p.0 c.args.l.0 c.in-Some.side = leads_onto w c.self.inside.sites c.args.p.0 c.args.l.0 c.in-Some.side (sym c.self.invariant.all) c.in-Some.ensures c.law_links.ensures c.self.invariant.world in
    record { low = joins.pair.less; high = joins.pair.high; side = joins.side_is; part = joins.pair.part }

pub invariant_of-self : goal.invariant_of-self
invariant_of-self g c =
    let w : WorldView = record { shape = c.self.inside.shape; parts = c.self.inside.parts.items } in
    let joins : LeadsTo w c.args.p.0 c.args.l.0 c.in-Some.side = leads_onto w c.self.inside.sites c.args.p.0 c.args.l.0 c.in-Some.side (sym c.self.invariant.all) c.in-Some.ensures c.law_links.ensures c.self.invariant.world in
    record {
      world = both_keeps w (event.Arrive c.args.l c.args.p) c.args.p.0 c.args.l.0 c.arrive_at.new.parts.items (moved c.arrive_at.result) joins.pair.less c.arrive_at.ensures c.self.invariant.world;
      all = c.self.invariant.all;
    }

pub returns : goal.returns
returns g c =
    let w : WorldView = record { shape = c.self.inside.shape; parts = c.self.inside.parts.items } in
    let joins : LeadsTo w c.args.p.0 c.args.l.0 c.in-Some.side = leads_onto w c.self.inside.sites c.args.p.0 c.args.l.0 c.in-Some.side (sym c.self.invariant.all) c.in-Some.ensures c.law_links.ensures c.self.invariant.world in
    subst (λ (x : WorldView). Does (moved c.arrive_at.result) (happened (event.Arrive c.args.l c.args.p) x) x (record { shape = c.self.inside.shape; parts = c.arrive_at.new.parts.items })) c.self.view_is
    (both_world w (event.Arrive c.args.l c.args.p) (leads_to c.args.p.0 (kind_of w.shape c.args.l.0)) c.args.p.0 c.args.l.0 c.arrive_at.new.parts.items (moved c.arrive_at.result) joins.there c.arrive_at.ensures)
