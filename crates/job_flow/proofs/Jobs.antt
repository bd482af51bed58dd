-- A run of a graph's job that is not over goes on.
use Rattle.std.proofs.Common.{◌≡◌, ◌<◌, ◌^◌, List, length, None}
use Rattle.tn_base.specs.declared.event.Event.{Event}
use Rattle.tn_letters.specs.Law.{IsStart}
use Rattle.tn_letters.specs.Tiles.{tables_of}
use Rattle.tn_rows.specs.Ends.{final_after, last_of}
use Rattle.tn_rows.specs.Runs.{Run}
use Rattle.tn_rows.specs.WorldView.{WorldView}
use Rattle.polite_edges.specs.Histories.{GraphHistory}
use Rattle.polite_flow.specs.Flowing.{IsFlowStart}
use Rattle.polite_flow.specs.Graphs.{GraphsStartFlowing}
use Rattle.polite_flow.specs.Sending.{AreSenders}
use Rattle.polite_flow.specs.Standing.{IsEnabled}
use Rattle.polite_live.specs.Live.{FullTilesStep}
use Rattle.job_edges.specs.JobLayout.{layout_of}
use Rattle.job_edges.specs.Laws.{IsGraphJob, IsGraphMachine}
use Rattle.job_faults.specs.declared.map.Mapped.{Mapped}
use Rattle.job_text.specs.declared.job.Job.{Job}
use Rattle.job_flow.proofs.GoingOn.{run_goes_on}
use Rattle.job_flow.proofs.Keys.{job_flows}

pub job_goes_on : (job : Job) (m : Mapped) (start end : WorldView) (history : List Event) → GraphsStartFlowing → FullTilesStep → IsGraphJob job m start → IsGraphMachine (layout_of job m) start → IsStart start → Run start history end → length history < 2 ^ 50 → final_after (last_of history) end ≡ None → IsEnabled end
job_goes_on job m start end history starts full is g begins run few over =
    let f = job_flows job m start is g begins in
    let s : IsFlowStart start × AreSenders (tables_of start) start = starts (layout_of job m) start f.flows in
    let h : GraphHistory (layout_of job m) start end history = record { placed = g.placed; routed = g.routed; start_is = begins; begins = g.begins; run = run } in
    run_goes_on start end history s.0 s.1 run few (λ p v there goes none. full (layout_of job m) start end history p v h there goes none) over
