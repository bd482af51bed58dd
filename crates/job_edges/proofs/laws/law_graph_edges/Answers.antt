use Rattle.job_edges.specs.JobLayout.{layout_of}
use Rattle.polite_edges.specs.Histories.{GraphHistory}
use Rattle.job_edges.proofs.laws.law_graph_edges.Goals as goal

pub returns : goal.returns
returns c = λ job m start end history is run.
    let g = c.law_graph_machine.ensures job m start is in
    let h : GraphHistory (layout_of job m) start end history = record { placed = g.placed; routed = g.routed; start_is = c.law_starts.ensures job start is.accepted; begins = g.begins; run = run } in
    record {
      lawful = c.law_histories.ensures.lawful (layout_of job m) start end history h;
      even = c.law_histories.ensures.even (layout_of job m) start end history h;
      once = c.law_histories.ensures.once (layout_of job m) start end history h g.apart;
    }
