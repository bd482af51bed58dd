use Rattle.std.proofs.Common.{◌∙◌, subst, sym}
use Rattle.tn_base.specs.declared.event.Event.TheVariants as event
use Rattle.tn_base.specs.Parts.{kind_of}
use Rattle.tn_part.proofs.Standing.{can_both, seen}
use Rattle.tn_part.proofs.can.can_arrive.Goals as goal
use Rattle.tn_rows.proofs.Ways.{Behind, LeadsTo, leads_onto}
use Rattle.tn_rows.specs.PartView.{PartView}
use Rattle.tn_rows.specs.Places.{leads_to}
use Rattle.tn_rows.specs.Roles.{IsSide, NoLink}

pub part-requires : goal.part-requires
part-requires g c =
    let w = g.M.HasParts.world c.args.machine.now in
    let joins : LeadsTo w c.args.p.0 c.args.l.0 c.in-Some.side = leads_onto w c.sites-sites.result.now c.args.p.0 c.args.l.0 c.in-Some.side (sym c.sites-sites.ensures) c.in-Some.ensures (subst Behind (c.shape.ensures ∙ c.sites-sites.ensures) c.law_links.ensures) c.requires in
    joins.pair.low

pub can_arrive-requires-clause-side : goal.can_arrive-requires-clause-side
can_arrive-requires-clause-side g c =
    let w = g.M.HasParts.world c.args.machine.now in
    let joins : LeadsTo w c.args.p.0 c.args.l.0 c.in-Some.side = leads_onto w c.sites-sites.result.now c.args.p.0 c.args.l.0 c.in-Some.side (sym c.sites-sites.ensures) c.in-Some.ensures (subst Behind (c.shape.ensures ∙ c.sites-sites.ensures) c.law_links.ensures) c.requires in
    subst (λ (x : PartView). IsSide x c.args.l.0 c.in-Some.side) (seen w.parts c.args.p.0 c.part.result.now c.part.ensures) joins.side_is

pub can_arrive-requires-clause-part : goal.can_arrive-requires-clause-part
can_arrive-requires-clause-part g c =
    let w = g.M.HasParts.world c.args.machine.now in
    let joins : LeadsTo w c.args.p.0 c.args.l.0 c.in-Some.side = leads_onto w c.sites-sites.result.now c.args.p.0 c.args.l.0 c.in-Some.side (sym c.sites-sites.ensures) c.in-Some.ensures (subst Behind (c.shape.ensures ∙ c.sites-sites.ensures) c.law_links.ensures) c.requires in
    subst NoLink (seen w.parts c.args.p.0 c.part.result.now c.part.ensures) joins.pair.part

pub returns-in-Some : goal.returns-in-Some
returns-in-Some g c =
    let w = g.M.HasParts.world c.args.machine.now in
    let joins : LeadsTo w c.args.p.0 c.args.l.0 c.in-Some.side = leads_onto w c.sites-sites.result.now c.args.p.0 c.args.l.0 c.in-Some.side (sym c.sites-sites.ensures) c.in-Some.ensures (subst Behind (c.shape.ensures ∙ c.sites-sites.ensures) c.law_links.ensures) c.requires in
    c.can_arrive.ensures ∙ sym (can_both w (event.Arrive c.args.l c.args.p) (leads_to c.args.p.0 (kind_of w.shape c.args.l.0)) c.args.p.0 c.args.l.0 c.part.result.now c.part-in-Some.result.now joins.there c.part.ensures c.part-in-Some.ensures)
