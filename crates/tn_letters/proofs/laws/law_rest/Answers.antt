use Rattle.tn_letters.proofs.Answering.{answers_at_rest}
use Rattle.tn_letters.proofs.laws.law_rest.Goals as goal

pub returns : goal.returns
returns c = answers_at_rest
