use Rattle.std.proofs.Common.{◌≡◌, ◌++◌, map}
use Rattle.tn_base.specs.Address.{place_in_tile}
use Rattle.tn_slots.specs.Pool.{queue_at}
use Rattle.tn_letters.specs.declared.steps.BagStep.TheVariants as bag
use Rattle.tn_letters.specs.Steps.{queued}
use Rattle.tn_letters.specs.Tiles.{letter_in}
use Rattle.tn_bag.proofs.Spelled.{QueueLeft}
use Rattle.tn_bag.proofs.turns.push_dropped.Given as goal

abbrev pub invariant-loop-taken : goal.invariant-loop-taken
invariant-loop-taken l =
    QueueLeft l.tile.now.pool l.pool (place_in_tile l.tile.plan.shape l.t.0) l._taken
    × (l.all.items ++ map bag.Discard (map (letter_in l.tile (place_in_tile l.tile.plan.shape l.t.0)) (queue_at l.pool (place_in_tile l.tile.plan.shape l.t.0))) ≡ l.initial.all.items ++ map bag.Discard (queued l.tile (place_in_tile l.tile.plan.shape l.t.0)))
