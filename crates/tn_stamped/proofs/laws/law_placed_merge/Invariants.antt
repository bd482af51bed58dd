use Rattle.std.proofs.Common.{take}
use Rattle.std.specs.List.{All}
use Rattle.tn_stamped.proofs.Closing.{HasStamps}
use Rattle.tn_stamped.proofs.laws.law_placed_merge.Given as goal

abbrev pub invariant-loop-part : goal.invariant-loop-part
invariant-loop-part g l = All HasStamps (take l.part-index l.parts)
