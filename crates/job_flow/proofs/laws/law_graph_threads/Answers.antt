use Rattle.job_edges.specs.JobLayout.{layout_of}
use Rattle.job_flow.proofs.GoingOn.{each_thread}
use Rattle.job_flow.proofs.Keys.{job_flows}
use Rattle.job_flow.proofs.laws.law_graph_threads.Goals as goal

pub returns : goal.returns
returns c = λ job m start end history p k v is run over there low.
    let begins = c.law_starts.ensures job start is.accepted in
    let f = job_flows job m start is (c.law_graph_machine.ensures job m start is) begins in
    let s = c.law_graphs.ensures.start (layout_of job m) start f.flows in
    each_thread start end history p k v begins s.1 run over there low
