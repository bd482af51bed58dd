use Rattle.std.proofs.Common.{◌∙◌}
use Rattle.tn_part.proofs.Crossings.{takes_if}
use Rattle.tn_part.proofs.host.can_take_host.Goals as goal

pub returns-in-Some : goal.returns-in-Some
returns-in-Some g c = c.counts_one.ensures ∙ takes_if c.args.host.now.now (g.L.Link.content c.args.link.now) _ c.in-Some.ensures
