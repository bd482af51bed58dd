use Rattle.std.proofs.Common.{◌≡◌, ◌-◌, ◌∙◌, ap, get_or, subst, sym}
use Rattle.tn_base.specs.declared.shape.ShapeNumbers.{ShapeNumbers}
use Rattle.tn_base.specs.Parts.{part_count}
use Rattle.tn_part.proofs.Standing.{seen}
use Rattle.tn_part.proofs.can.can_put.Goals as goal
use Rattle.tn_rows.proofs.Ways.{from_host_pair}
use Rattle.tn_rows.specs.PartView.{AbsentV}
use Rattle.tn_rows.specs.Roles.{IsLink}

pub can_put-requires-clause-link : goal.can_put-requires-clause-link
can_put-requires-clause-link g c =
    let w = g.M.HasParts.world c.args.machine.now in
    let at : c.from_host-l.result.0 ≡ part_count w.shape - 2 = c.from_host-l.ensures ∙ ap (λ (n : ShapeNumbers). part_count n - 2) c.sites.ensures in
    subst IsLink (seen w.parts c.from_host-l.result.0 c.part-2.result.now c.part-2.ensures) (subst (λ l. IsLink (get_or w.parts l AbsentV)) (sym at) (from_host_pair w c.requires).link)
