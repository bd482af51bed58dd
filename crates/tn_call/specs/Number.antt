-- The statuses of calls.
use Rattle.std.specs.Prelude.{ℕ, Bool, true, false}
use Rattle.tn_base.specs.declared.event.Outcome.{Outcome}
use Rattle.tn_io.specs.declared.whole.ReadStop.{ReadStop}
use Rattle.tn_io.specs.declared.whole.ReadStop.TheVariants as read
use Rattle.tn_words.specs.declared.command.WordsStop.{WordsStop}
use Rattle.tn_words.specs.declared.command.WordsStop.TheVariants as words
use Rattle.tn_call.specs.declared.status.Status.{Status}
use Rattle.tn_call.specs.declared.status.Status.TheVariants.{Done, Usage, Refused, Trapped, BadKey, Spent, Jammed, ReadFault, WriteFault, Memory, TooLong}

-- the exit status of the program
abbrev pub number_of : Status → ℕ
number_of Done = 0
number_of Usage = 1
number_of Refused = 2
number_of Trapped = 3
number_of BadKey = 4
number_of Spent = 5
number_of Jammed = 6
number_of ReadFault = 7
number_of WriteFault = 8
number_of Memory = 9
number_of TooLong = 11

-- a status of a command's own, after which its whole answer is written
abbrev pub tells : Status → Bool
tells Done = true
tells Usage = false
tells Refused = true
tells Trapped = true
tells BadKey = true
tells Spent = true
tells Jammed = true
tells ReadFault = false
tells WriteFault = false
tells Memory = false
tells TooLong = false

-- a status after which nothing is written
abbrev pub is_silent : Status → Bool
is_silent Done = false
is_silent Usage = true
is_silent Refused = false
is_silent Trapped = false
is_silent BadKey = false
is_silent Spent = false
is_silent Jammed = false
is_silent ReadFault = true
is_silent WriteFault = false
is_silent Memory = true
is_silent TooLong = true

-- the status of a machine's outcome
abbrev pub status_of : Outcome → Status
status_of Outcome.Done = Done
status_of (Outcome.Trapped thread trap) = Trapped
status_of (Outcome.BadKey key) = BadKey
status_of (Outcome.Spent thread) = Spent
status_of Outcome.Jammed = Jammed

-- the status of words that name no command of the call
abbrev pub words_status : WordsStop → Status
words_status words.Usage = Usage
words_status words.Memory = Memory

-- the status of a source whose input was not read to its end
abbrev pub read_status : ReadStop → Status
read_status read.Fault = ReadFault
read_status read.TooLong = TooLong
read_status read.Memory = Memory
