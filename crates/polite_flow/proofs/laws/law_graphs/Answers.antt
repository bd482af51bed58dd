use Rattle.polite_flow.proofs.Graphs.{graph_starts, graph_walks}
use Rattle.polite_flow.proofs.laws.law_graphs.Goals as goal

pub returns-clause-start : goal.returns-clause-start
returns-clause-start c = graph_starts

pub returns-clause-walk : goal.returns-clause-walk
returns-clause-walk c = graph_walks
