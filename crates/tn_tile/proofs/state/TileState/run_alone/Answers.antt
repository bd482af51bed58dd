use Rattle.std.proofs.Common.{◌≤◌, ◌+◌, ◌∙◌, refl, rules}
use Rattle.tn_tile.specs.Alone.{RanAlone}
use Rattle.tn_tile.specs.Step.{sight_at, thread_at}
use Rattle.tn_tile.proofs.Asked.{stops_few}
use Rattle.tn_tile.proofs.Shaped.{has_place}
use Rattle.tn_tile.proofs.Turned.{ran_alone, ran_stays}
use Rattle.tn_tile.proofs.state.TileState.run_alone.Goals as goal

pub returns-clause-steps : goal.returns-clause-steps
returns-clause-steps c =
    let p = c.args.plan.now in
    let k = c.args.place in
    let s = c.args.self.now in
    let here = has_place p k s c.requires.there c.requires.fits in
    let less : c.run_alone.result.0 ≤ c.min.result = stops_few c.run_alone.result.0 c.run_alone.result.1 c.min.result c.code.result.now _ c.run_alone.ensures.next in
    let few : (thread_at s k).steps + c.run_alone.result.0 ≤ p.shape.fuel = search rules in
    let ran : RanAlone k c.run_alone.result.0 p.code (sight_at s k) s.threads c.run_alone.new.self = rw (c.is_free.ensures, c.code.ensures) at c.run_alone.ensures.steps in
    ran_alone p s k c.run_alone.result.0 c.run_alone.new.self here.thread c.requires.runs few ran

pub returns-clause-next : goal.returns-clause-next
returns-clause-next c = search rules

pub returns-clause-stays : goal.returns-clause-stays
returns-clause-stays c =
    let p = c.args.plan.now in
    let k = c.args.place in
    let s = c.args.self.now in
    let here = has_place p k s c.requires.there c.requires.fits in
    let ran : RanAlone k c.run_alone.result.0 p.code (sight_at s k) s.threads c.run_alone.new.self = rw (c.is_free.ensures, c.code.ensures) at c.run_alone.ensures.steps in
    let stays = ran_stays p.code (sight_at s k) s.threads c.run_alone.new.self k c.run_alone.result.0 here.thread ran in
    (stays.0 ∙ c.requires.runs, stays.1, refl)
