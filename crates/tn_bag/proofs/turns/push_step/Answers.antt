use Rattle.std.proofs.Common.{◌∙◌, sym}
use Rattle.tn_base.specs.Address.{place_in_tile}
use Rattle.tn_base.specs.declared.op.Op.TheVariants as op
use Rattle.tn_letters.proofs.Simulate.{op_fits}
use Rattle.tn_bag.proofs.turns.push_step.Goals as goal

pub step_by-requires-clause-hand : goal.step_by-requires-clause-hand
step_by-requires-clause-hand c = λ e. op_fits c.args.tile.now (place_in_tile c.args.tile.now.plan.shape c.args.t.0) op.Hand c.requires.can (sym c.in_ok-asked.ensures ∙ e)
