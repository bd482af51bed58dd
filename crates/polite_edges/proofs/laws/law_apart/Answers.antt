use Rattle.polite_edges.proofs.Apart.{graph_apart}
use Rattle.polite_edges.proofs.laws.law_apart.Goals as goal

pub returns : goal.returns
returns c = graph_apart
