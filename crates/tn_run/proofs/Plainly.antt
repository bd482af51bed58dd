-- The commands that read a text and write another.
use Rattle.std.proofs.Common.{◌≡◌, ℕ, ◌+◌, List, [], ◌++◌, Option, Some, None, false, refl, ap, subst, ◌∙◌, append_assoc}
use Rattle.std.specs.Prelude.{IfOk, codes}
use Rattle.std.specs.List.{before_first}
use Rattle.std.specs.declared.result.Result.{Result}
use Rattle.std.specs.declared.result.Result.TheVariants.{Ok, Err}
use Rattle.job_faults.specs.declared.fault.LoadFault.{LoadFault}
use Rattle.tn_call.specs.declared.status.Status.{Status}
use Rattle.tn_call.specs.declared.status.Status.TheVariants.{Done, Usage, Refused, Trapped, BadKey, Spent, Jammed, ReadFault, WriteFault, Memory, TooLong}
use Rattle.asm_build.specs.Text.{assembled}
use Rattle.job_faults.specs.Names.{job_said}
use Rattle.tn_base.specs.declared.event.Event.{Event}
use Rattle.tn_check.specs.declared.check.Verdict.{Verdict}
use Rattle.tn_check.specs.declared.check.Verdict.TheVariants as verdict
use Rattle.tn_rows.specs.WorldView.{WorldView}
use Rattle.tn_text.specs.Lines.{lines_of}
use Rattle.tn_text.specs.declared.stop.Fault.{Fault}
use Rattle.tn_text.specs.declared.stop.Stop.{Stop}
use Rattle.tn_text.specs.declared.stop.Stop.TheVariants as stops
use Rattle.tn_text.specs.Gives.{Becomes}
use Rattle.tn_trace.specs.Parting.{is_parting, lines_behind, parting_line}
use Rattle.tn_trace.specs.Reading.{events_of}
use Rattle.tn_trace.specs.declared.read.TraceKind.{TraceKind}
use Rattle.tn_run.specs.Checked.{AnswersEvents, AnswersRest, AnswersTrace, refused_on, verdict_answer}
use Rattle.tn_run.specs.declared.checked.TraceCommand.{TraceCommand}
use Rattle.tn_run.specs.declared.checked.TraceCommand.TheVariants as trace
use Rattle.tn_run.specs.Machine.{machine_by}
use Rattle.tn_run.specs.Refusal.{refusal_text}
use Rattle.tn_run.specs.declared.texts.TextCommand.{TextCommand}
use Rattle.tn_run.specs.declared.texts.TextCommand.TheVariants as command
use Rattle.tn_run.specs.Texts.{AnswersMade, EndsPlainly, answer_by, asm_by, before, is_outcome, map_of, onto, shown_lines, text_answer}

-- One more line.

pub onto_before : (old new : List ℕ) (r more : Result (List ℕ) LoadFault) → onto old r ≡ Ok new → onto new more ≡ onto old (before r more)
onto_before old new (Ok text) (Ok more) h = let same : old ++ text ≡ new = cc in rw (← same, append_assoc old text more) refl
onto_before old new (Ok text) (Err found) h = refl
onto_before old new (Err found) more h = cc

-- What a command made is answered.

pub made_answered : (made : Result (Unit {0}) (Stop LoadFault)) (new : List ℕ) (r : Result (List ℕ) LoadFault) (status : Status) (text : List ℕ) → Becomes made new (onto [] r) → AnswersMade made new status text → answer_by r ≡ (status, text)
made_answered (Ok done) new (Ok more) status text becomes answers = let same : more ≡ new = cc becomes in ap (λ (t : List ℕ). answer_by (Ok t)) same ∙ answers
made_answered (Ok done) new (Err found) status text becomes answers = cc becomes
made_answered (Err (stops.Fault fault)) new (Ok more) status text becomes answers = cc becomes
made_answered (Err (stops.Fault fault)) new (Err found) status text becomes answers = let same : found ≡ fault = cc becomes in ap (λ (f : LoadFault). answer_by (Err f)) same ∙ answers
made_answered (Err stops.Memory) new r status text becomes answers = absurd answers

pub if_ok_then : {X E : Type 0} (r : Result X E) (P Q : X → Type 0) → ((x : X) → P x → Q x) → IfOk r P → IfOk r Q
if_ok_then (Ok x) P Q then h = then x h
if_ok_then (Err e) P Q then h = h

-- The statuses.

pair_is : (made : Status × List ℕ) (status : Status) (text : List ℕ) → is_outcome made.0 ≡ false → made ≡ (status, text) → is_outcome status ≡ false
pair_is made status text plain h = subst (λ (x : Status). is_outcome x ≡ false) (ap (λ (q : Status × List ℕ). q.0) h) plain

made_is : (r : Result (List ℕ) LoadFault) (status : Status) (text : List ℕ) → answer_by r ≡ (status, text) → is_outcome status ≡ false
made_is (Ok made) status text h = pair_is (Done, made) status text refl h
made_is (Err found) status text h = pair_is (Refused, refusal_text found) status text refl h

verdict_is : (c : TraceCommand) (start : WorldView) (first : ℕ) (lines : List (List ℕ)) (events : List Event) (v : Verdict) → is_outcome (verdict_answer c start first lines events v).0 ≡ false
verdict_is c start first lines events verdict.Run = refl
verdict_is c start first lines events (verdict.Refused at) = refl

events_are : (c : TraceCommand) (start : WorldView) (first : ℕ) (lines : List (List ℕ)) (events : Result (List Event) (Fault TraceKind)) (status : Status) (text : List ℕ) → AnswersEvents c start first lines events status text → is_outcome status ≡ false
events_are c start first lines (Err fault) status text h = pair_is (refused_on fault.line (codes "BadLine")) status text refl h
events_are c start first lines (Ok events) status text h = pair_is (verdict_answer c start first lines events h.0) status text (verdict_is c start first lines events h.0) h.2

rest_is : (c : TraceCommand) (start : WorldView) (line : ℕ) (rest : Option (List (List ℕ))) (status : Status) (text : List ℕ) → AnswersRest c start line rest status text → is_outcome status ≡ false
rest_is c start line None status text h = pair_is (refused_on line (codes "NoTrace")) status text refl h
rest_is c start line (Some lines) status text h = events_are c start (line + 1) lines (events_of (line + 1) lines) status text h

trace_is : (c : TraceCommand) (lines : List (List ℕ)) (start : Result WorldView LoadFault) (status : Status) (text : List ℕ) → AnswersTrace c lines start status text → is_outcome status ≡ false
trace_is c lines (Err fault) status text h = pair_is (Refused, refusal_text fault) status text refl h
trace_is c lines (Ok start) status text h = rest_is c start (parting_line lines) (lines_behind lines) status text h

answer_is : (c : TextCommand) (input : List ℕ) (status : Status) (text : List ℕ) → text_answer c input tt status text → is_outcome status ≡ false
answer_is command.Asm input status text h = made_is (asm_by (assembled 1 input)) status text h
answer_is command.Show input status text h = made_is (shown_lines 1 (lines_of input)) status text h
answer_is command.Map input status text h = made_is (map_of (job_said (lines_of input))) status text h
answer_is command.Check input status text h = trace_is trace.Check (lines_of input) (machine_by (job_said (before_first is_parting (lines_of input)))) status text h
answer_is (command.Follow origin number) input status text h = trace_is (trace.Follow origin number) (lines_of input) (machine_by (job_said (before_first is_parting (lines_of input)))) status text h

pub ends_plainly : EndsPlainly
ends_plainly Done words s a = refl
ends_plainly Usage words s a = refl
ends_plainly Refused words s a = refl
ends_plainly ReadFault words s a = refl
ends_plainly WriteFault words s a = refl
ends_plainly Memory words s a = refl
ends_plainly TooLong words s a = refl
ends_plainly Trapped words s a = answer_is a.command a.input Trapped a.text a.answers
ends_plainly BadKey words s a = answer_is a.command a.input BadKey a.text a.answers
ends_plainly Spent words s a = answer_is a.command a.input Spent a.text a.answers
ends_plainly Jammed words s a = answer_is a.command a.input Jammed a.text a.answers
