use Rattle.std.proofs.Common.{◌∙◌}
use Rattle.tn_part.proofs.Crossings.{puts_if, puts_not}
use Rattle.tn_part.proofs.host.can_put_host.Goals as goal

pub returns-then-can_send : goal.returns-then-can_send
returns-then-can_send g c = puts_if c.args.host.now.now (g.L.Link.content c.args.link.now) c.can_send.result c.len.result c.capacity.result c.can_send.ensures c.if-can_send.true c.len.ensures.value c.capacity.ensures

pub returns-else-can_send : goal.returns-else-can_send
returns-else-can_send g c = c.if-can_send.false ∙ puts_not c.args.host.now.now (g.L.Link.content c.args.link.now) c.can_send.result c.can_send.ensures c.if-can_send.false
