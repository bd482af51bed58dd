-- The commands that run a machine, and what each answers to an input.
use Rattle.std.specs.Prelude.{◌≡◌, ℕ, Bool, true, false, ◌&&◌, List, [], ◌++◌, if◌then◌else◌, nat_le, None, Option, Some, option_and_then}
use Rattle.std.specs.declared.result.Result.{Result}
use Rattle.std.specs.declared.result.Result.TheVariants.{Ok, Err}
use Rattle.job_faults.specs.declared.fault.LoadFault.{LoadFault}
use Rattle.job_load.specs.Loaded.{loaded}
use Rattle.job_faults.specs.Names.{job_said}
use Rattle.job_text.specs.declared.job.Job.{Job}
use Rattle.tn_base.specs.declared.event.Outcome.{Outcome}
use Rattle.tn_call.specs.Answers.{Answers, Completes, IsCalm}
use Rattle.tn_call.specs.Streams.{Streams}
use Rattle.tn_call.specs.declared.status.Status.{Status}
use Rattle.tn_call.specs.declared.status.Status.TheVariants.{Memory}
use Rattle.tn_gen.specs.Job.{gen_text}
use Rattle.tn_rows.specs.WorldView.{WorldView}
use Rattle.tn_text.specs.Lines.{lines_of}
use Rattle.tn_trace.specs.Events.{events_text}
use Rattle.tn_words.specs.declared.command.Command.{Command}
use Rattle.tn_words.specs.declared.command.Command.TheVariants as command
use Rattle.tn_words.specs.Forms.{form_of}
use Rattle.tn_run.specs.declared.machine.MachineCommand.{MachineCommand}
use Rattle.tn_run.specs.declared.machine.MachineCommand.TheVariants as machine
use Rattle.tn_run.specs.Drawn.{IsDrawnAnswer}
use Rattle.tn_run.specs.FullRun.{IsKeptRun}
use Rattle.tn_run.specs.Kept.{IsFresh, KeptView}
use Rattle.tn_run.specs.Refusal.{IsRefusal}
use Rattle.tn_run.specs.Report.{report_text}

-- The commands.

-- the command that runs a machine, if the words' command is one and is built
abbrev pub machine_in : Command → Option MachineCommand
machine_in (command.Run workers trace) = Some (machine.Run workers trace)
machine_in (command.Gen start count workers) = if nat_le 1 count && nat_le count 4096 then Some (machine.Gen start count workers) else None
machine_in other = None

-- the command of words that are a form of `run_top`
abbrev pub machine_form : List (List ℕ) → Option MachineCommand
machine_form words = option_and_then machine_in (form_of words)

-- the command reads a job from the source
abbrev pub machine_reads : MachineCommand → Bool
machine_reads (machine.Run workers trace) = true
machine_reads (machine.Gen start count workers) = false

-- From an input to its machine.

-- the machine of what was read, at its start, or the first fault
abbrev pub machine_by : Result Job LoadFault → Result WorldView LoadFault
machine_by (Ok job) = loaded job
machine_by (Err fault) = Err fault

-- the machine of an input, at its start, or the first fault
abbrev pub machine_of : List ℕ → Result WorldView LoadFault
machine_of input = machine_by (job_said (lines_of input))

-- What a command answers.

-- The kept history is a full run of the machine. If the trace is asked for, the events of the kept history are written before the report.
pub record IsRunOf (trace : Bool) (start : WorldView) (kept : KeptView) (status : Status) (text : List ℕ) : Type 0 where
  pub end : WorldView
  pub outcome : Outcome
  pub kept_run : IsKeptRun start kept end outcome status
  pub text_is : text ≡ (if trace then events_text kept.history else []) ++ report_text end outcome

abbrev pub IsAnswerOf : Bool → Result WorldView LoadFault → KeptView → Status → List ℕ → Type 0
IsAnswerOf trace (Err fault) kept status text = IsRefusal fault kept status text
IsAnswerOf trace (Ok start) kept status text = IsRunOf trace start kept status text

-- a line for each command: the status and the text are its answer to the input, by what is kept
abbrev pub machine_answer : MachineCommand → List ℕ → KeptView → Status → List ℕ → Type 0
machine_answer (machine.Run workers trace) input kept status text = IsAnswerOf trace (machine_of input) kept status text
machine_answer (machine.Gen start count workers) input kept status text = IsDrawnAnswer count (machine_of (gen_text start count)) kept status text

-- What `run_top` answers.

-- each status with its cause
abbrev pub RunAnswers : Status → List (List ℕ) → Streams → KeptView → Type 0
RunAnswers status words s kept = Answers machine_reads machine_answer IsFresh status (machine_form words) s kept

-- If no fault rose and memory was there, the whole answer of the command to its whole input is written.
abbrev pub RunCompletes : Status → List (List ℕ) → Streams → KeptView → Type 0
RunCompletes status words s kept =
    (command : MachineCommand) → IsCalm machine_reads machine_answer IsFresh command (machine_form words) s
    → (status ≡ Memory → ⊥) → Completes machine_reads machine_answer IsFresh command status s kept
