use Rattle.std.proofs.Common.{◌≡◌, ◌++◌}
use Rattle.tn_base.specs.Address.{tile_threads}
use Rattle.tn_letters.specs.Standing.{pending_of, pending_standing}
use Rattle.tn_letters.specs.Tiles.{reach_of}
use Rattle.tn_bag.proofs.Loops.{from_on}
use Rattle.tn_bag.proofs.places.push_pending.Given as goal

abbrev pub invariant-loop-place : goal.invariant-loop-place
invariant-loop-place g l = l.all.items ++ from_on (pending_of (reach_of l.world) l.tile) l.place (tile_threads l.tile.plan.shape) ≡ l.initial.all.items ++ pending_standing (reach_of l.world) l.tile
