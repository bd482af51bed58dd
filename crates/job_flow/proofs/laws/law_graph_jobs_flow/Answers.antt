use Rattle.std.proofs.Common.{subst}
use Rattle.tn_rows.specs.Ends.{last_of}
use Rattle.job_edges.specs.JobLayout.{layout_of}
use Rattle.polite_flow.specs.Flowing.{IsFlowing}
use Rattle.job_flow.proofs.BadKeys.{no_bad_key}
use Rattle.job_flow.proofs.Keys.{job_flows}
use Rattle.job_flow.proofs.laws.law_graph_jobs_flow.Goals as goal

pub returns-clause-flow : goal.returns-clause-flow
returns-clause-flow c = λ job m start end history is walk.
    let f = job_flows job m start is (c.law_graph_machine.ensures job m start is) (c.law_starts.ensures job start is.accepted) in
    subst (λ ts. IsFlowing ts end) f.tables (c.law_graphs.ensures.walk (layout_of job m) start end history f.flows walk)

pub returns-clause-keys : goal.returns-clause-keys
returns-clause-keys c = λ job m start end history key is walk.
    no_bad_key m.routes.tables (last_of history) end key (returns-clause-flow c job m start end history is walk)
