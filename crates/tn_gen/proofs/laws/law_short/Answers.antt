use Rattle.tn_gen.proofs.Short.{gen_short}
use Rattle.tn_gen.proofs.laws.law_short.Goals as goal

pub returns : goal.returns
returns c = gen_short
