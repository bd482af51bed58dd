use Rattle.asm_build.proofs.AtWords.{labels_at_words}
use Rattle.asm_build.proofs.laws.law_labels.Goals as goal

pub returns : goal.returns
returns c = labels_at_words
