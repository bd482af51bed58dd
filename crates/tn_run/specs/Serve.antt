-- What the program answers.
use Rattle.std.specs.Prelude.{ℕ, List}
use Rattle.std.specs.Bool.{MatchBool}
use Rattle.tn_call.specs.Streams.{Streams}
use Rattle.tn_call.specs.declared.status.Status.{Status}
use Rattle.tn_run.specs.Kept.{KeptView}
use Rattle.tn_run.specs.Machine.{RunAnswers, RunCompletes}
use Rattle.tn_run.specs.Texts.{PlainAnswers, PlainCompletes}
use Rattle.tn_run.specs.Words.{is_for_machine}

-- the words are answered by the call that they are for: each status with its cause, and the whole answer if nothing went wrong
abbrev pub Serves : Status → List (List ℕ) → Streams → KeptView → Type 0
Serves status words s kept = MatchBool (is_for_machine words)
    (RunAnswers status words s kept × RunCompletes status words s kept)
    (PlainAnswers status words s × PlainCompletes status words s)
