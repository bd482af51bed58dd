use Rattle.std.proofs.Common.{◌∙◌, sym}
use Rattle.tn_settle.proofs.Ending.{final_at}
use Rattle.tn_settle.proofs.settle.final_after.Goals as goal

pub returns : goal.returns
returns g c = c.final_of.ensures ∙ sym (final_at c.args.history.now c.in_ok-last.field-0.now c.args.world.now (sym c.in_ok-last.ensures.value))
