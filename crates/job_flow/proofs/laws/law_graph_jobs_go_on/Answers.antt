use Rattle.job_edges.specs.JobLayout.{layout_of}
use Rattle.job_flow.proofs.GoingOn.{goes_on}
use Rattle.job_flow.proofs.Keys.{job_flows}
use Rattle.job_flow.proofs.laws.law_graph_jobs_go_on.Goals as goal

pub returns : goal.returns
returns c = λ job m start end history is walk few serves.
    let f = job_flows job m start is (c.law_graph_machine.ensures job m start is) (c.law_starts.ensures job start is.accepted) in
    let s = c.law_graphs.ensures.start (layout_of job m) start f.flows in
    goes_on start end history s.0 s.1 walk few serves
