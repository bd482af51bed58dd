use Rattle.std.proofs.Common.{rules}
use Rattle.tn_tile.proofs.Marked.{sends_none}
use Rattle.tn_tile.proofs.pending.Pending.is_empty.Goals as goal

pub returns : goal.returns
returns c = rw (← c.self.view_is) (sends_none c.self.inside.items.items c.self.inside.sends (search rules) c.self.invariant)
