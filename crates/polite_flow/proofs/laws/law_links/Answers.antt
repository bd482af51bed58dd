use Rattle.polite_flow.proofs.Links.{links_lead}
use Rattle.polite_flow.proofs.laws.law_links.Goals as goal

pub returns : goal.returns
returns c = links_lead c.args.shape.now c.numbers-numbers.ensures.limits
