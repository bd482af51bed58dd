use Rattle.std.proofs.Common.{◌-◌, ◌≡◌, ◌≤◌, ◌+◌, ◌*◌, Some}
use Rattle.tn_tile.specs.Kept.{IsFit}
use Rattle.tn_tile.specs.Step.{steps_of}
use Rattle.tn_tile.proofs.state.TileState.turn.Given as goal

abbrev pub invariant-loop-made : goal.invariant-loop-made
invariant-loop-made l = record {
  few : l.made ≤ l.most;
  steps : steps_of l.plan l.place l.made l.fn.self ≡ Some l.self;
  pages : l.fn.stock ≤ l.stock + l.made;
  fits : IsFit l.plan l.self;
  counts : l.self.dropped ≤ l.fn.self.dropped + 512 * l.made;
}

abbrev pub decreases-loop-made : goal.decreases-loop-made
decreases-loop-made l = l.most - l.made
