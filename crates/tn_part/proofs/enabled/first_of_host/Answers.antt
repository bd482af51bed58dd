use Rattle.std.proofs.Common.{◌∙◌, sym}
use Rattle.tn_part.proofs.Listed.{first_put, first_take, none_of_host}
use Rattle.tn_part.proofs.enabled.first_of_host.Goals as goal

pub returns-then-can_put : goal.returns-then-can_put
returns-then-can_put g c = first_put (g.M.HasParts.world c.args.machine.now) (sym c.can_put.ensures ∙ c.if-can_put.true)

pub returns-then-can_take : goal.returns-then-can_take
returns-then-can_take g c = first_take (g.M.HasParts.world c.args.machine.now) (sym c.can_put.ensures ∙ c.if-can_put.false) (sym c.can_take.ensures ∙ c.if-can_take.true)

pub returns : goal.returns
returns g c = none_of_host (g.M.HasParts.world c.args.machine.now) (sym c.can_put.ensures ∙ c.if-can_put.false) (sym c.can_take.ensures ∙ c.if-can_take.false)
