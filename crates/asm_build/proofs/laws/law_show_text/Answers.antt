use Rattle.asm_build.proofs.ShownText.{text_back}
use Rattle.asm_build.proofs.laws.law_show_text.Goals as goal

pub returns : goal.returns
returns c = text_back c.args._number c.args._words.now c.type_inv._words c.requires
