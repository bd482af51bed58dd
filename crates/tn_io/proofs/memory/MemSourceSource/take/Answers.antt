use Rattle.std.proofs.Common.{◌∙◌, sym, ap, arith}
use Rattle.std.proofs.lemmas.Grind.{common_steps}
use Rattle.tn_io.proofs.Pieces.{front_back}
use Rattle.tn_io.proofs.memory.MemSourceSource.take.Goals as goal

pub returns-clause-bytes : goal.returns-clause-bytes
returns-clause-bytes c =
    let inside = c.self.inside in (
      grind (arith, common_steps),
      grind (arith, common_steps),
      ap (λ s. s.left) (sym c.self.view_is)
          ∙ front_back inside.at c.min-n.result inside.bytes.items c.copy_from_slice.new.self _ (grind (arith, common_steps)) (c.copy_from_slice.ensures.after ∙ grind (arith, common_steps)),
    )
