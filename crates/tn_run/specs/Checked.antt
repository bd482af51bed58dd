-- What `check` and `follow` answer: a job, a line `%%`, and the events of a run.
use Rattle.std.specs.Prelude.{ℕ, ◌≡◌, ◌+◌, List, ◌++◌, length, Option, Some, None, codes, decimal, slice_index_or}
use Rattle.std.specs.List.{before_first}
use Rattle.std.specs.declared.result.Result.{Result}
use Rattle.std.specs.declared.result.Result.TheVariants.{Ok, Err}
use Rattle.job_faults.specs.Names.{fault_text, job_said}
use Rattle.job_faults.specs.declared.fault.LoadFault.{LoadFault}
use Rattle.tn_base.specs.declared.event.Event.{Event}
use Rattle.tn_call.specs.declared.status.Status.{Status}
use Rattle.tn_call.specs.declared.status.Status.TheVariants.{Done, Refused}
use Rattle.tn_check.specs.Checks.{Checks}
use Rattle.tn_check.specs.declared.check.Verdict.{Verdict}
use Rattle.tn_check.specs.declared.check.Verdict.TheVariants as verdict
use Rattle.tn_rows.specs.WorldView.{WorldView}
use Rattle.tn_text.specs.Lines.{lines_of}
use Rattle.tn_text.specs.declared.stop.Fault.{Fault}
use Rattle.tn_trace.specs.Parting.{is_parting, lines_behind, parting_line, said_on}
use Rattle.tn_trace.specs.Reading.{events_of}
use Rattle.tn_trace.specs.declared.read.TraceKind.{TraceKind}
use Rattle.tn_follow.specs.Follow.{sightings}
use Rattle.tn_follow.specs.Printed.{sightings_text}
use Rattle.tn_run.specs.declared.checked.TraceCommand.{TraceCommand}
use Rattle.tn_run.specs.declared.checked.TraceCommand.TheVariants as trace
use Rattle.tn_run.specs.Machine.{machine_by}
use Rattle.tn_run.specs.Refusal.{refused_text}

-- the input is refused on this line, with this name of the fault
abbrev pub refused_on : ℕ → List ℕ → Status × List ℕ
refused_on line name = (Refused, refused_text line name)

-- what is written of a run: `run N`, N being the number of events; or what its events do with the letters of a send
abbrev pub run_text : TraceCommand → WorldView → List Event → List ℕ
run_text trace.Check start events = codes "run " ++ decimal (length events) ++ codes "\n"
run_text (trace.Follow origin number) start events = sightings_text (sightings start events origin number)

-- what is written of the run; or a refusal at the line of the event at fault. The first of the lines has this number
abbrev pub verdict_answer : TraceCommand → WorldView → ℕ → List (List ℕ) → List Event → Verdict → Status × List ℕ
verdict_answer c start first lines events verdict.Run = (Done, run_text c start events)
verdict_answer c start first lines events (verdict.Refused at) = refused_on (slice_index_or (said_on first lines) at 0) (codes "NotEnabled")

-- the lines say no events, or the machine's verdict on these events is answered
abbrev pub AnswersEvents : TraceCommand → WorldView → ℕ → List (List ℕ) → Result (List Event) (Fault TraceKind) → Status → List ℕ → Type 0
AnswersEvents c start first lines (Err fault) status text = refused_on fault.line (codes "BadLine") ≡ (status, text)
AnswersEvents c start first lines (Ok events) status text = (verdict : Verdict) × Checks verdict start events × (verdict_answer c start first lines events verdict ≡ (status, text))

-- the input has no line `%%`, or the lines behind it are answered. The number is that of the line `%%`, or of the last line
abbrev pub AnswersRest : TraceCommand → WorldView → ℕ → Option (List (List ℕ)) → Status → List ℕ → Type 0
AnswersRest c start line None status text = refused_on line (codes "NoTrace") ≡ (status, text)
AnswersRest c start line (Some lines) status text = AnswersEvents c start (line + 1) lines (events_of (line + 1) lines) status text

-- the lines before `%%` make no machine, or what comes behind them is answered
abbrev pub AnswersTrace : TraceCommand → List (List ℕ) → Result WorldView LoadFault → Status → List ℕ → Type 0
AnswersTrace c lines (Err fault) status text = refused_on fault.line (fault_text fault.kind) ≡ (status, text)
AnswersTrace c lines (Ok start) status text = AnswersRest c start (parting_line lines) (lines_behind lines) status text

-- the status and the text are the answer of the command to the input
abbrev pub trace_answer : TraceCommand → List ℕ → Status → List ℕ → Type 0
trace_answer c input status text = AnswersTrace c (lines_of input) (machine_by (job_said (before_first is_parting (lines_of input)))) status text
