use Rattle.std.proofs.Common.{◌≡◌, ◌≤◌, true, ap, rules, ◌∙◌}
use Rattle.tn_base.specs.Address.{place_in_tile}
use Rattle.tn_tile.specs.Rows.{can_count, turn_row}
use Rattle.tn_tile.specs.TileView.{TileView}
use Rattle.tn_tile.specs.Turns.{StepsUpTo}
use Rattle.tn_tile.proofs.Turns.{no_turn, now_is, same_tile, turn_is, turn_past}
use Rattle.tn_tile.proofs.tile.Tile.turn.Goals as goal

pub returns-in-0-clause-turn : goal.returns-in-0-clause-turn
returns-in-0-clause-turn c =
    let v = c.args.self.now in
    let w = c.turn_up_to.new.self in
    let most : c.turn-most.result ≡ v.plan.shape.turn = c.turn-most.ensures.value ∙ ap (λ (x : TileView). x.plan.shape.turn) c.self.view_is in
    let made : StepsUpTo v.plan (place_in_tile v.plan.shape c.args.t.0) v.plan.shape.turn c.turn_up_to.result v.now w.now = rw most at c.turn_up_to.ensures.steps in
    (same_tile v w _ _ _ c.in-0.is c.turn_up_to.ensures.plan made, λ m. no_turn v.plan c.args.t.0 m c.turn_up_to.result v.now w.now c.in-0.is made)

pub returns-in_default-clause-turn : goal.returns-in_default-clause-turn
returns-in_default-clause-turn c =
    let v = c.args.self.now in
    let w = c.turn_up_to.new.self in
    let a = c.args.t.0 in
    let n = c.turn_up_to.result in
    let most : c.turn-most.result ≡ v.plan.shape.turn = c.turn-most.ensures.value ∙ ap (λ (x : TileView). x.plan.shape.turn) c.self.view_is in
    let made : StepsUpTo v.plan (place_in_tile v.plan.shape a) v.plan.shape.turn n v.now w.now = rw most at c.turn_up_to.ensures.steps in
    let counts : can_count v.now ≡ true = search rules in
    let low : 1 ≤ n = search rules in (
      now_is v w (turn_row v.plan a n v.now) c.turn_up_to.ensures.plan (turn_is v.plan a n v.now w.now c.requires.here counts low made.few made.steps),
      λ m h. turn_past v.plan a n m v.now w.now made h,
    )
