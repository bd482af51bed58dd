use Rattle.std.proofs.Common.{◌≡◌, ◌≤◌, true, arith, refl, ap, ◌∙◌}
use Rattle.tn_base.specs.declared.shape.ShapeNumbers.{ShapeNumbers}
use Rattle.tn_tile.specs.Rows.{can_count, is_here}
use Rattle.tn_tile.specs.TileView.{TilePlan, TileView, with_now}
use Rattle.tn_part.proofs.Steps.{no_turn, turn_done}
use Rattle.tn_part.proofs.part.turn_tile.Goals as goal

pub returns-then-turn_up_to-n : goal.returns-then-turn_up_to-n
returns-then-turn_up_to-n c =
    let v = c.args.tile.now in
    let made = rw c.in_ok-after.ensures at c.turn_up_to.ensures.steps in
    rw (no_turn v.plan c.args.t.0 c.args.n c.turn_up_to.result v.now c.turn_up_to.new.self.now made.steps c.if-turn_up_to-n.true (made.stops c.if-turn_up_to-n.true)) (refl, refl)

pub returns : goal.returns
returns c =
    let v = c.args.tile.now in
    let made = rw c.in_ok-after.ensures at c.turn_up_to.ensures.steps in
    let plan : c.turn_up_to.new.self.plan ≡ v.plan = c.turn_up_to.ensures.plan ∙ ap (λ (t : TileView). t.plan) c.in_ok-after.ensures in
    let is : c.turn_up_to.new.self ≡ with_now v c.turn_up_to.new.self.now = ap (λ (p : TilePlan). record { plan = p; now = c.turn_up_to.new.self.now }) plan in
    let here : is_here v.plan c.args.t.0 ≡ true = cc (c.is_here.ensures, c.if-not-is_here.false) in
    let counts : can_count v.now ≡ true = cc (c.counts.ensures, c.if-not-counts.false) in
    let most : c.numbers-most.result.turn ≡ v.plan.shape.turn = ap (λ (n : ShapeNumbers). n.turn) (c.numbers-most.ensures.value ∙ c.shape.ensures) in
    let low : 1 ≤ c.args.n = omega (arith, c.if-n-eq0.false) in
    let high : c.args.n ≤ v.plan.shape.turn = omega (arith, c.if-n-most.false, most) in
    let all : c.turn_up_to.result ≡ c.args.n = omega (arith, c.if-turn_up_to-n.false, made.few) in
    rw (turn_done v.plan c.args.t.0 c.args.n c.turn_up_to.result v.now c.turn_up_to.new.self.now here low high counts made.steps all) (refl, is)
