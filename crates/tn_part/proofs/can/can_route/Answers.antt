use Rattle.std.proofs.Common.{◌∙◌, sym}
use Rattle.tn_part.proofs.Standing.{can_route_at}
use Rattle.tn_part.proofs.can.can_route.Goals as goal

pub returns-in-Some : goal.returns-in-Some
returns-in-Some g c = c.can_route.ensures ∙ sym (can_route_at (g.M.HasParts.world c.args.machine.now) c.args.p c.in-Some.part.now (sym c.in-Some.ensures) c.requires)
