-- The commands that read a text and write another: what each makes of an input.
use Rattle.std.specs.Prelude.{◌≡◌, ℕ, ◌+◌, Bool, true, false, List, [], ◌∷◌, ◌++◌, codes, Option, None, Some, option_and_then}
use Rattle.std.specs.declared.result.Result.{Result}
use Rattle.std.specs.declared.result.Result.TheVariants.{Ok, Err}
use Rattle.tn_call.specs.Answers.{Answers, Completes, IsCalm}
use Rattle.tn_call.specs.Streams.{Streams}
use Rattle.tn_call.specs.declared.status.Status.{Status}
use Rattle.tn_call.specs.declared.status.Status.TheVariants.{BadKey, Done, Jammed, Memory, Refused, Spent, Trapped}
use Rattle.tn_text.specs.Content.{content_of}
use Rattle.tn_text.specs.Hex.{hex_word_of, words_text}
use Rattle.tn_text.specs.Lines.{lines_of}
use Rattle.tn_words.specs.declared.command.Command.{Command}
use Rattle.tn_words.specs.declared.command.Command.TheVariants as command
use Rattle.tn_words.specs.Forms.{form_of}
use Rattle.asm_text.specs.declared.fault.AsmKind.{AsmKind}
use Rattle.tn_text.specs.declared.stop.Fault.{Fault}
use Rattle.tn_text.specs.declared.stop.Stop.{Stop}
use Rattle.tn_text.specs.declared.stop.Stop.TheVariants as stops
use Rattle.asm_build.specs.declared.image.Image.{Image}
use Rattle.asm_build.specs.Shown.{shown}
use Rattle.job_faults.specs.declared.fault.FaultName.TheVariants as fault
use Rattle.job_faults.specs.declared.fault.LoadFault.{LoadFault}
use Rattle.asm_build.specs.Text.{assembled}
use Rattle.tn_base.specs.declared.shape.ShapeNumbers.{ShapeNumbers}
use Rattle.job_text.specs.declared.job.Job.{Job}
use Rattle.job_faults.specs.declared.map.Mapped.{Mapped}
use Rattle.job_faults.specs.Order.{mapped}
use Rattle.job_faults.specs.Names.{fault_of_asm, job_said}
use Rattle.map_text.specs.Text.{map_text}
use Rattle.tn_run.specs.declared.texts.Making.{Making}
use Rattle.tn_run.specs.declared.texts.Making.TheVariants as making
use Rattle.tn_run.specs.declared.texts.TextCommand.{TextCommand}
use Rattle.tn_run.specs.declared.texts.TextCommand.TheVariants.{Asm, Check, Follow, Map, Show}
use Rattle.tn_run.specs.Checked.{trace_answer}
use Rattle.tn_run.specs.declared.checked.TraceCommand.TheVariants as trace
use Rattle.tn_run.specs.Refusal.{refusal_text}

-- The commands.

-- the command on texts, if the words' command is one and is built
abbrev pub text_in : Command → Option TextCommand
text_in command.Asm = Some Asm
text_in command.Show = Some Show
text_in command.Map = Some Map
text_in command.Check = Some Check
text_in (command.Follow origin number) = Some (Follow origin number)
text_in other = None

-- the command of words that are a form of `plain_top`
abbrev pub text_form : List (List ℕ) → Option TextCommand
text_form words = option_and_then text_in (form_of words)

-- each command reads the source
abbrev pub reads_all : TextCommand → Bool
reads_all command = true

-- From assembly to words.

abbrev pub asm_by : Result Image (Fault AsmKind) → Result (List ℕ) LoadFault
asm_by (Ok image) = Ok (words_text image.words)
asm_by (Err found) = Err (fault_of_asm found)

-- From words to assembly.

-- the canonical line of a word
abbrev pub shown_text : ℕ → List ℕ
shown_text word = shown word ++ codes "\n"

abbrev pub shown_word : ℕ → Option ℕ → Result (List ℕ) LoadFault
shown_word number (Some word) = Ok (shown_text word)
shown_word number None = Err (record { line = number; kind = fault.BadWord })

-- a blank line says nothing, and any other is a word of eight digits
abbrev pub shown_content : ℕ → List ℕ → Result (List ℕ) LoadFault
shown_content number [] = Ok []
shown_content number (b ∷ bs) = shown_word number (hex_word_of (b ∷ bs))

-- comments and the spaces at a line's ends count for nothing
abbrev pub shown_line : ℕ → List ℕ → Result (List ℕ) LoadFault
shown_line number line = shown_content number (content_of line)

abbrev pub before : Result (List ℕ) LoadFault → Result (List ℕ) LoadFault → Result (List ℕ) LoadFault
before (Ok text) (Ok more) = Ok (text ++ more)
before (Ok text) (Err found) = Err found
before (Err found) more = Err found

-- the lines from this number on, or the first fault
abbrev pub shown_lines : ℕ → List (List ℕ) → Result (List ℕ) LoadFault
shown_lines number [] = Ok []
shown_lines number (l ∷ ls) = before (shown_line number l) (shown_lines (number + 1) ls)

-- From a job to the places of its graph's vertices, and the boards' tables.

abbrev pub map_by : ShapeNumbers → Result Mapped LoadFault → Result (List ℕ) LoadFault
map_by n (Ok m) = Ok (map_text m.graph m.placement n m.routes.tables)
map_by n (Err found) = Err found

abbrev pub map_of : Result Job LoadFault → Result (List ℕ) LoadFault
map_of (Ok job) = map_by job.numbers (mapped job)
map_of (Err found) = Err found

-- What a text becomes: a line for each command that makes a text of its input.

abbrev pub made_of : Making → List ℕ → Result (List ℕ) LoadFault
made_of making.Assembled input = asm_by (assembled 1 input)
made_of making.Shown input = shown_lines 1 (lines_of input)
made_of making.Mapped input = map_of (job_said (lines_of input))

-- What a command answers.

abbrev pub answer_by : Result (List ℕ) LoadFault → Status × List ℕ
answer_by (Ok text) = (Done, text)
answer_by (Err found) = (Refused, refusal_text found)

-- a line for each command: the status and the text are its answer to the input
abbrev pub text_answer : TextCommand → List ℕ → Unit {0} → Status → List ℕ → Type 0
text_answer Asm input kept status text = answer_by (made_of making.Assembled input) ≡ (status, text)
text_answer Show input kept status text = answer_by (made_of making.Shown input) ≡ (status, text)
text_answer Map input kept status text = answer_by (made_of making.Mapped input) ≡ (status, text)
text_answer Check input kept status text = trace_answer trace.Check input status text
text_answer (Follow origin number) input kept status text = trace_answer (trace.Follow origin number) input status text

-- the answer of a command that made this text, or was refused
abbrev pub AnswersMade : Result (Unit {0}) (Stop LoadFault) → List ℕ → Status → List ℕ → Type 0
AnswersMade (Ok done) made status text = answer_by (Ok made) ≡ (status, text)
AnswersMade (Err (stops.Fault fault)) made status text = answer_by (Err fault) ≡ (status, text)
AnswersMade (Err stops.Memory) made status text = ⊥

-- nothing is kept of a call, and nothing is said of it
abbrev pub Anything : Unit {0} → Type 0
Anything kept = Unit {0}

-- a text with what a line adds to it
abbrev pub onto : List ℕ → Result (List ℕ) LoadFault → Result (List ℕ) LoadFault
onto text (Ok more) = Ok (text ++ more)
onto text (Err found) = Err found

-- What `plain_top` answers.

-- each status with its cause
abbrev pub PlainAnswers : Status → List (List ℕ) → Streams → Type 0
PlainAnswers status words s = Answers reads_all text_answer Anything status (text_form words) s tt

-- If no fault rose and memory was there, the whole answer of the command to its whole input is written.
abbrev pub PlainCompletes : Status → List (List ℕ) → Streams → Type 0
PlainCompletes status words s =
    (command : TextCommand) → IsCalm reads_all text_answer Anything command (text_form words) s
    → (status ≡ Memory → ⊥) → Completes reads_all text_answer Anything command status s tt

-- the status of a machine that did not end well
abbrev pub is_outcome : Status → Bool
is_outcome Trapped = true
is_outcome BadKey = true
is_outcome Spent = true
is_outcome Jammed = true
is_outcome other = false

-- No command on texts ends with the status of a machine that did not end well.
abbrev pub EndsPlainly : Type 0
EndsPlainly = (status : Status) (words : List (List ℕ)) (s : Streams) → PlainAnswers status words s → is_outcome status ≡ false
