use Rattle.std.proofs.Common.{◌≡◌, map, take}
use Rattle.tn_reach.specs.Marks.{next_mark}
use Rattle.tn_reach.proofs.rounds.next_of.Given as goal

abbrev pub invariant-loop-beat : goal.invariant-loop-beat
invariant-loop-beat l = l.next ≡ map (next_mark l.measure l.shape l.marks l.board) (take l.beat-index l.beats)
