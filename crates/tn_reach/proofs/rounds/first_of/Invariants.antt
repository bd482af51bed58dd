use Rattle.std.proofs.Common.{◌≡◌, map, take}
use Rattle.tn_reach.specs.Marks.{first_mark}
use Rattle.tn_reach.proofs.rounds.first_of.Given as goal

abbrev pub invariant-loop-beat : goal.invariant-loop-beat
invariant-loop-beat l = l.marks ≡ map (first_mark l.measure) (take l.beat-index l.beats)
