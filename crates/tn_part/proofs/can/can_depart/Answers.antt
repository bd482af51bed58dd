use Rattle.std.proofs.Common.{◌∙◌, subst, sym}
use Rattle.tn_base.specs.declared.event.Event.TheVariants as event
use Rattle.tn_base.specs.Parts.{kind_of}
use Rattle.tn_part.proofs.Standing.{can_both, seen}
use Rattle.tn_part.proofs.can.can_depart.Goals as goal
use Rattle.tn_rows.proofs.Ways.{Behind, Leads, leads}
use Rattle.tn_rows.specs.PartView.{PartView}
use Rattle.tn_rows.specs.Places.{leads_from}
use Rattle.tn_rows.specs.Roles.{IsLink, IsWay}

pub part-requires : goal.part-requires
part-requires g c =
    let w = g.M.HasParts.world c.args.machine.now in
    let joins : Leads w c.args.p.0 c.args.l.0 c.in-Some.way = leads w c.sites-sites.result.now c.args.p.0 c.args.l.0 c.in-Some.way (sym c.sites-sites.ensures) c.in-Some.ensures (subst Behind (c.shape.ensures ∙ c.sites-sites.ensures) c.law_links.ensures) c.requires in
    joins.pair.low

pub can_depart-requires-clause-way : goal.can_depart-requires-clause-way
can_depart-requires-clause-way g c =
    let w = g.M.HasParts.world c.args.machine.now in
    let joins : Leads w c.args.p.0 c.args.l.0 c.in-Some.way = leads w c.sites-sites.result.now c.args.p.0 c.args.l.0 c.in-Some.way (sym c.sites-sites.ensures) c.in-Some.ensures (subst Behind (c.shape.ensures ∙ c.sites-sites.ensures) c.law_links.ensures) c.requires in
    subst (λ (x : PartView). IsWay x c.args.l.0 c.in-Some.way) (seen w.parts c.args.p.0 c.part.result.now c.part.ensures) joins.way_is

pub can_depart-requires-clause-link : goal.can_depart-requires-clause-link
can_depart-requires-clause-link g c =
    let w = g.M.HasParts.world c.args.machine.now in
    let joins : Leads w c.args.p.0 c.args.l.0 c.in-Some.way = leads w c.sites-sites.result.now c.args.p.0 c.args.l.0 c.in-Some.way (sym c.sites-sites.ensures) c.in-Some.ensures (subst Behind (c.shape.ensures ∙ c.sites-sites.ensures) c.law_links.ensures) c.requires in
    subst IsLink (seen w.parts c.args.l.0 c.part-in-Some.result.now c.part-in-Some.ensures) joins.pair.link

pub returns-in-Some : goal.returns-in-Some
returns-in-Some g c =
    let w = g.M.HasParts.world c.args.machine.now in
    let joins : Leads w c.args.p.0 c.args.l.0 c.in-Some.way = leads w c.sites-sites.result.now c.args.p.0 c.args.l.0 c.in-Some.way (sym c.sites-sites.ensures) c.in-Some.ensures (subst Behind (c.shape.ensures ∙ c.sites-sites.ensures) c.law_links.ensures) c.requires in
    c.can_depart.ensures ∙ sym (can_both w (event.Depart c.args.p c.args.l) (leads_from c.args.p.0 (kind_of w.shape c.args.l.0)) c.args.p.0 c.args.l.0 c.part.result.now c.part-in-Some.result.now joins.there c.part.ensures c.part-in-Some.ensures)
