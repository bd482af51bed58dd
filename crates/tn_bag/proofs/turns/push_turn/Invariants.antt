use Rattle.std.proofs.Common.{◌≡◌, ◌++◌, ◌-◌}
use Rattle.tn_base.specs.Address.{place_in_tile}
use Rattle.tn_letters.specs.Steps.{turn_steps}
use Rattle.tn_bag.proofs.Spelled.{TurnLeft}
use Rattle.tn_bag.proofs.turns.push_turn.Given as goal

abbrev pub invariant-loop-made : goal.invariant-loop-made
invariant-loop-made l =
    TurnLeft l.t.0 l.n l._made l.tile l.current
    × (l.all.items ++ turn_steps l.t.0 (place_in_tile l.tile.plan.shape l.t.0) (l.n - l._made) l.current ≡ l.initial.all.items ++ turn_steps l.t.0 (place_in_tile l.tile.plan.shape l.t.0) l.n l.tile)
