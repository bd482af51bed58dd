use Rattle.std.proofs.Common.{subst, sym}
use Rattle.tn_base.specs.declared.event.Event.TheVariants as event
use Rattle.tn_base.specs.Does.{Does}
use Rattle.tn_base.specs.Parts.{kind_of}
use Rattle.tn_rows.specs.Events.{happened}
use Rattle.tn_rows.specs.Places.{leads_from}
use Rattle.tn_rows.specs.WorldView.{WorldView}
use Rattle.tn_tile.specs.Turns.{moved}
use Rattle.tn_world.proofs.Pairs.{both_keeps, both_world}
use Rattle.tn_rows.proofs.Ways.{Leads, leads}
use Rattle.tn_world.proofs.world.World.depart.Goals as goal

pub depart_at-requires : goal.depart_at-requires
depart_at-requires g c =
    let w : WorldView = record { shape = c.self.inside.shape; parts = c.self.inside.parts.items } in
    let joins : Leads w c.args.p.0 c.args.l.0 c.in-Some.way = leads w c.self.inside.sites c.args.p.0 c.args.l.0 c.in-Some.way (sym c.self.invariant.all) c.in-Some.ensures c.law_links.ensures c.self.invariant.world in
    record { low = joins.pair.less; high = joins.pair.high; way = joins.way_is; link = joins.pair.link }

pub invariant_of-self : goal.invariant_of-self
invariant_of-self g c =
    let w : WorldView = record { shape = c.self.inside.shape; parts = c.self.inside.parts.items } in
    let joins : Leads w c.args.p.0 c.args.l.0 c.in-Some.way = leads w c.self.inside.sites c.args.p.0 c.args.l.0 c.in-Some.way (sym c.self.invariant.all) c.in-Some.ensures c.law_links.ensures c.self.invariant.world in
    record {
      world = both_keeps w (event.Depart c.args.p c.args.l) c.args.p.0 c.args.l.0 c.depart_at.new.parts.items (moved c.depart_at.result) joins.pair.less c.depart_at.ensures c.self.invariant.world;
      all = c.self.invariant.all;
    }

pub returns : goal.returns
returns g c =
    let w : WorldView = record { shape = c.self.inside.shape; parts = c.self.inside.parts.items } in
    let joins : Leads w c.args.p.0 c.args.l.0 c.in-Some.way = leads w c.self.inside.sites c.args.p.0 c.args.l.0 c.in-Some.way (sym c.self.invariant.all) c.in-Some.ensures c.law_links.ensures c.self.invariant.world in
    subst (λ (x : WorldView). Does (moved c.depart_at.result) (happened (event.Depart c.args.p c.args.l) x) x (record { shape = c.self.inside.shape; parts = c.depart_at.new.parts.items })) c.self.view_is
    (both_world w (event.Depart c.args.p c.args.l) (leads_from c.args.p.0 (kind_of w.shape c.args.l.0)) c.args.p.0 c.args.l.0 c.depart_at.new.parts.items (moved c.depart_at.result) joins.there c.depart_at.ensures)
