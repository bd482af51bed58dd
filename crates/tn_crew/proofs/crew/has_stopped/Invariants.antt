use Rattle.std.proofs.Common.{take}
use Rattle.std.specs.List.{All}
use Rattle.tn_crew.proofs.Standing.{GoesOn}
use Rattle.tn_crew.proofs.crew.has_stopped.Given as goal

abbrev pub invariant-loop-part : goal.invariant-loop-part
invariant-loop-part l = All GoesOn (take l.part-index l.parts)
