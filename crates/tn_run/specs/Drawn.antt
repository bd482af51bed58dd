-- The command that draws a job and runs it.
use Rattle.std.specs.Prelude.{◌≡◌, ℕ, ◌*◌, List, ◌++◌}
use Rattle.std.specs.declared.result.Result.{Result}
use Rattle.std.specs.declared.result.Result.TheVariants.{Ok, Err}
use Rattle.job_faults.specs.declared.fault.LoadFault.{LoadFault}
use Rattle.polite_log.specs.Summary.{summary_of, summary_text}
use Rattle.tn_base.specs.declared.event.Event.{Event}
use Rattle.tn_base.specs.declared.event.Outcome.{Outcome}
use Rattle.tn_call.specs.declared.status.Status.{Status}
use Rattle.tn_rows.specs.WorldView.{WorldView}
use Rattle.tn_run.specs.FullRun.{IsKeptRun}
use Rattle.tn_run.specs.Kept.{KeptView}
use Rattle.tn_run.specs.Refusal.{IsRefusal}
use Rattle.tn_run.specs.Report.{outcome_text}

-- The figures of the run of a drawn job, and how the run ended. The job's graph has so many vertices, and four edges for each of them.
unfoldable pub figures_text : ℕ → WorldView → List Event → WorldView → Outcome → List ℕ
figures_text count start history end outcome = summary_text (summary_of count (4 * count) start history end) ++ outcome_text outcome

-- The kept history is a full run of the machine. The text has the figures of the kept history, and how it ended.
pub record IsDrawnRun (count : ℕ) (start : WorldView) (kept : KeptView) (status : Status) (text : List ℕ) : Type 0 where
  pub end : WorldView
  pub outcome : Outcome
  pub kept_run : IsKeptRun start kept end outcome status
  pub text_is : text ≡ figures_text count start kept.history end outcome

-- the answer to a drawn job with so many vertices, whose machine this is
abbrev pub IsDrawnAnswer : ℕ → Result WorldView LoadFault → KeptView → Status → List ℕ → Type 0
IsDrawnAnswer count (Err fault) kept status text = IsRefusal fault kept status text
IsDrawnAnswer count (Ok start) kept status text = IsDrawnRun count start kept status text
