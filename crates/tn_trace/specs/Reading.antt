-- Reading lines of events.
use Rattle.std.specs.Prelude.{ℕ, List, [], ◌∷◌, Option, Some, None}
use Rattle.std.specs.declared.result.Result.{Result}
use Rattle.std.specs.declared.result.Result.TheVariants.{Ok, Err}
use Rattle.tn_base.specs.declared.event.Event.{Event}
use Rattle.tn_text.specs.declared.stop.Fault.{Fault}
use Rattle.tn_text.specs.Reading.{line_says, read_from}
use Rattle.tn_text.specs.Words.{words_of}
use Rattle.tn_trace.specs.declared.keyword.Amounts.{Amounts}
use Rattle.tn_trace.specs.declared.keyword.Keyword.{Keyword}
use Rattle.tn_trace.specs.declared.read.TraceKind.{TraceKind}
use Rattle.tn_trace.specs.declared.read.TraceKind.TheVariants.{BadLine}
use Rattle.tn_trace.specs.Keyword.{amounts_of, event_by, keyword_of}

abbrev pub event_with : Option Keyword → Option Amounts → Option Event
event_with (Some keyword) (Some amounts) = event_by keyword amounts
event_with (Some keyword) None = None
event_with None amounts = None

abbrev pub made_of : Option Event → Result Event TraceKind
made_of (Some event) = Ok event
made_of None = Err BadLine

-- the first word says which event a line is, and the others are its numbers
abbrev pub words_say : List (List ℕ) → Result Event TraceKind
words_say [] = Err BadLine
words_say (word ∷ words) = made_of (event_with (keyword_of word) (amounts_of words))

abbrev pub event_line : List ℕ → Result Event TraceKind
event_line content = words_say (words_of content)

abbrev pub text_line : ℕ → List ℕ → Result (Option Event) TraceKind
text_line number line = line_says BadLine event_line line

-- the events that lines say, the first of them having this number, or the first line at fault
abbrev pub events_of : ℕ → List (List ℕ) → Result (List Event) (Fault TraceKind)
events_of first lines = read_from text_line first lines
