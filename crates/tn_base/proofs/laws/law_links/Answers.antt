use Rattle.tn_base.proofs.LinkEnds.{joins_visited}
use Rattle.tn_base.proofs.laws.law_links.Goals as goal

pub returns : goal.returns
returns c = λ l from onto e. joins_visited c.args.shape.now l from onto c.numbers-numbers.ensures.limits e
