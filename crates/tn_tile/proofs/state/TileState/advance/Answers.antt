use Rattle.std.proofs.Common.{◌≡◌, arith, Some}
use Rattle.tn_tile.specs.Step.{steps_of}
use Rattle.tn_tile.proofs.Steps.{steps_more, steps_none}
use Rattle.tn_tile.proofs.state.TileState.advance.Goals as goal

pub returns-in_default-clause-steps : goal.returns-in_default-clause-steps
returns-in_default-clause-steps c =
    let p = c.args.plan.now in
    let k = c.args.place in
    let s = c.args.self.now in
    let same = c.wake.ensures.count in
    let one : steps_of p k 1 s ≡ Some c.wake.new.self = rw c.wake.ensures.row (steps_more p k 0 s s (steps_none p k s) c.requires.can) in
    record { steps = one; some = omega arith; few = c.requires.some; count = omega arith }
