use Rattle.std.proofs.Common.{◌≡◌, ◌≤◌, true, arith, ap, ◌∙◌}
use Rattle.tn_base.specs.declared.shape.ShapeNumbers.{ShapeNumbers}
use Rattle.tn_part.proofs.Steps.{up_to_none, up_to_some}
use Rattle.tn_part.proofs.part.turn_tile_up_to.Goals as goal
use Rattle.tn_tile.specs.Rows.{can_count, is_here}

pub returns-in-0 : goal.returns-in-0
returns-in-0 c =
    let low : 1 ≤ c.args.n = omega (arith, c.if-n-eq0.false) in
    up_to_none c.args.t.0 c.args.n c.turn_up_to.result c.args.tile.now c.turn_up_to.new.self c.turn_up_to.ensures.steps c.turn_up_to.ensures.plan c.in-0.is low

pub returns-in_default : goal.returns-in_default
returns-in_default c =
    let here : is_here c.args.tile.now.plan c.args.t.0 ≡ true = cc (c.is_here.ensures, c.if-not-is_here.false) in
    let counts : can_count c.args.tile.now.now ≡ true = cc (c.counts.ensures, c.if-not-counts.false) in
    let most : c.numbers-most.result.turn ≡ c.args.tile.now.plan.shape.turn = ap (λ (n : ShapeNumbers). n.turn) (c.numbers-most.ensures.value ∙ c.shape.ensures) in
    let high : c.args.n ≤ c.args.tile.now.plan.shape.turn = omega (arith, c.if-n-most.false, most) in
    up_to_some c.args.t.0 c.args.n c.turn_up_to.result c.args.tile.now c.turn_up_to.new.self here high counts c.turn_up_to.ensures.steps c.turn_up_to.ensures.plan (omega (arith, c.in_default))
