use Rattle.std.proofs.Common.{take}
use Rattle.std.specs.List.{All}
use Rattle.tn_rows.specs.Stamped.{IsStamped}
use Rattle.tn_stamped.proofs.laws.law_merge.Given as goal

abbrev pub invariant-loop-part : goal.invariant-loop-part
invariant-loop-part g l = All IsStamped (take l.part-index l.parts)
