use Rattle.polite_live.proofs.Late.{no_letters_come}
use Rattle.polite_live.proofs.laws.law_letters.Goals as goal

pub returns : goal.returns
returns c = no_letters_come
