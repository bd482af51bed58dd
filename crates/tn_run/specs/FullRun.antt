-- Runs of a machine to their end, and what is kept of them.
use Rattle.std.specs.Prelude.{◌≡◌, List, Some}
use Rattle.job_edges.specs.JobLayout.{layout_of}
use Rattle.job_edges.specs.Laws.{IsGraphJob, KeepsEdges}
use Rattle.job_faults.specs.declared.map.Mapped.{Mapped}
use Rattle.job_text.specs.declared.job.Job.{Job}
use Rattle.tn_base.specs.declared.event.Event.{Event}
use Rattle.tn_base.specs.declared.event.Outcome.{Outcome}
use Rattle.tn_call.specs.Number.{status_of}
use Rattle.tn_call.specs.declared.status.Status.{Status}
use Rattle.tn_letters.specs.AtRest.{AnswersAtRest}
use Rattle.tn_letters.specs.Law.{IsBagRun}
use Rattle.tn_rows.specs.Ends.{IsOutcome}
use Rattle.tn_rows.specs.Runs.{Run}
use Rattle.tn_rows.specs.WorldView.{WorldView}
use Rattle.tn_run.specs.Kept.{KeptView}

-- The history is a run of the machine to its end, and of the bag machine that says what messages mean. Each announcement in it comes at
-- rest, and idle threads read what is announced. If the machine is that of a job with a graph, each message came once to each edge at each
-- announcement, and each handler is called when it is due.
pub record IsFullRun (start : WorldView) (history : List Event) (end : WorldView) (outcome : Outcome) : Type 0 where
  pub run : Run start history end
  pub means : IsBagRun start history end
  pub idle : AnswersAtRest start history
  pub edges : (job : Job) (m : Mapped) → IsGraphJob job m start → KeepsEdges (layout_of job m) start history
  pub ended : IsOutcome history end outcome

-- The kept history is a full run of the machine that is kept. The status tells how the run ended.
pub record IsKeptRun (start : WorldView) (kept : KeptView) (end : WorldView) (outcome : Outcome) (status : Status) : Type 0 where
  pub kept_start : kept.start ≡ Some start
  pub full : IsFullRun start kept.history end outcome
  pub status_is : status ≡ status_of outcome
