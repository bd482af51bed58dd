use Rattle.std.proofs.Common.{refl}
use Rattle.job_edges.specs.JobLayout.{layout_of}
use Rattle.job_edges.proofs.Graphs.{graph_machine}
use Rattle.job_edges.proofs.laws.law_graph_machine.Goals as goal

pub returns : goal.returns
returns c = λ job m start is. graph_machine job m start (c.law_apart.ensures (layout_of job m) m.graph.edges (λ u pin. refl)) is
