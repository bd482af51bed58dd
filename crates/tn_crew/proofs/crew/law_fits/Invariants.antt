use Rattle.std.proofs.Common.{take}
use Rattle.std.specs.List.{All}
use Rattle.tn_crew.proofs.crew.law_fits.Given as goal
use Rattle.tn_stamped.specs.Placed.{FitsHere}

abbrev pub invariant-loop-part : goal.invariant-loop-part
invariant-loop-part l = All FitsHere (take l.part-index l.parts)
