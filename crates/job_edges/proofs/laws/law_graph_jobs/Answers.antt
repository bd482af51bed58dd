use Rattle.job_edges.proofs.Graphs.{graph_job}
use Rattle.job_edges.proofs.laws.law_graph_jobs.Goals as goal

pub returns : goal.returns
returns c = graph_job
