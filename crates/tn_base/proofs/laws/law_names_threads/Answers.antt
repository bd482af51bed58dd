use Rattle.tn_base.proofs.NamesThreads.{names_to, names_from}
use Rattle.tn_base.proofs.laws.law_names_threads.Goals as goal

pub returns : goal.returns
returns c = (names_to c.args.shape.now c.args.mask, names_from c.args.shape.now c.args.mask)
