use Rattle.std.proofs.Common.{◌≡◌, ◌≤◌, true, ap, sym, ◌∙◌, rules}
use Rattle.tn_base.specs.Address.{place_in_tile}
use Rattle.tn_tile.specs.Rows.{can_count}
use Rattle.tn_tile.specs.Step.{can_step}
use Rattle.tn_tile.specs.TileView.{TileView}
use Rattle.tn_tile.proofs.Turns.{one_turn}
use Rattle.tn_tile.proofs.tile.Tile.can_turn.Goals as goal

pub returns-then-counts : goal.returns-then-counts
returns-then-counts c =
    let v : TileView = c.args.self.now in
    let counts : can_count v.now ≡ true = search rules in
    let turn : 1 ≤ v.plan.shape.turn = rw (← c.self.view_is) c.turn-turn.ensures.limits.turn.0 in
    let place : c.place.result ≡ place_in_tile v.plan.shape c.args.t.0 = c.place.ensures.value ∙ ap (λ (x : TileView). place_in_tile x.plan.shape c.args.t.0) c.self.view_is in
    c.can_step.ensures ∙ ap (λ k. can_step v.plan.shape.fuel k v.now) place ∙ sym (one_turn v.plan c.args.t.0 v.now c.requires counts turn)
