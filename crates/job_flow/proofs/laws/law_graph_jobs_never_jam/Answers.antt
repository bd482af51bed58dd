use Rattle.std.proofs.Common.{refl, subst}
use Rattle.tn_rows.specs.Ends.{final_after, last_of}
use Rattle.job_edges.specs.JobLayout.{layout_of}
use Rattle.polite_flow.specs.Flowing.{IsFlowing}
use Rattle.job_flow.proofs.BadKeys.{proper}
use Rattle.job_flow.proofs.GoingOn.{ends_or_goes_on}
use Rattle.job_flow.proofs.Jobs.{job_goes_on}
use Rattle.job_flow.proofs.Keys.{job_flows}
use Rattle.tn_letters.proofs.Walks.{run_walk}
use Rattle.job_flow.proofs.laws.law_graph_jobs_never_jam.Goals as goal

pub returns-clause-goes_on : goal.returns-clause-goes_on
returns-clause-goes_on c = λ job m start end history is run few.
    let g = c.law_graph_machine.ensures job m start is in
    let begins = c.law_starts.ensures job start is.accepted in
    ends_or_goes_on (final_after (last_of history) end) end (job_goes_on job m start end history c.law_graphs.ensures.start c.law_served.ensures is g begins run few)

pub returns-clause-outcome : goal.returns-clause-outcome
returns-clause-outcome c = λ job m start end history o is run few out.
    let g = c.law_graph_machine.ensures job m start is in
    let begins = c.law_starts.ensures job start is.accepted in
    let f = job_flows job m start is g begins in
    let flows : IsFlowing m.routes.tables end = subst (λ ts. IsFlowing ts end) f.tables (c.law_graphs.ensures.walk (layout_of job m) start end history f.flows (run_walk start end history run)) in
    proper m.routes.tables (last_of history) end (final_after (last_of history) end) o refl flows (job_goes_on job m start end history c.law_graphs.ensures.start c.law_served.ensures is g begins run few) out
