use Rattle.std.proofs.Common.{rules}
use Rattle.std.proofs.lemmas.List.Edits.{map_over_more}
use Rattle.tn_tile.specs.Rows.{told}
use Rattle.tn_tile.proofs.threads.tell_each.Goals as goal

pub loop-k-preserved : goal.loop-k-preserved
loop-k-preserved c = rw c.tell.ensures (map_over_more (told c.args.value) c.args.threads.now.items c.loop-k.threads.items c.loop-k.k c.index_mut.result.now (search rules) c.loop-k.invariant c.index_mut.ensures.value)
