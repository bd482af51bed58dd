use Rattle.std.proofs.Common.{arith}
use Rattle.std.proofs.lemmas.Grind.{common_steps}
use Rattle.tn_text.proofs.Parts.{uncut, cuts_at}
use Rattle.tn_text.proofs.cut.cut.Goals as goal

pub returns-then-place-text-clause-parts : goal.returns-then-place-text-clause-parts
returns-then-place-text-clause-parts c = uncut _ _ (grind (arith, common_steps))

pub returns-clause-parts : goal.returns-clause-parts
returns-clause-parts c = cuts_at _ _ _ _ (grind (arith, common_steps)) (grind (arith, common_steps)) (grind (arith, common_steps))
