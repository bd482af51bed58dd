use Rattle.std.proofs.Common.{rules, ◌≡◌, ◌<◌, ◌+◌, ◌-◌, arith, true, add-one, min, Some}
use Rattle.tn_tile.specs.Step.{can_step, steps_of, thread_at}
use Rattle.tn_tile.proofs.Moved.{steps_fit}
use Rattle.tn_tile.proofs.Steps.{steps_more}
use Rattle.tn_tile.proofs.state.TileState.run.Goals as goal

pub apply-requires-clause-fits : goal.apply-requires-clause-fits
apply-requires-clause-fits c = steps_fit c.run_alone-made.result.0 c.args.plan.now c.args.place c.args.self.now c.run_alone-made.new.self c.requires.there c.run_alone-made.ensures.steps c.requires.fits

pub returns-clause-steps : goal.returns-clause-steps
returns-clause-steps c =
    let p = c.args.plan.now in
    let k = c.args.place in
    let now = c.run_alone-made.new.self in
    let n = c.run_alone-made.result.0 in
    let can : can_step p.shape.fuel k now ≡ true = search rules in
    let less : n < min c.args.most (p.shape.fuel - (thread_at c.args.self.now k).steps) = search rules in
    let count = c.apply.ensures.count in
    let same = c.run_alone-made.ensures.stays.2 in
    let one : steps_of p k (n + 1) c.args.self.now ≡ Some c.apply.new.self = rw (c.apply.ensures.row, add-one) (steps_more p k n c.args.self.now now c.run_alone-made.ensures.steps can) in
    record { steps = one; some = omega arith; few = search rules; count = omega arith }
