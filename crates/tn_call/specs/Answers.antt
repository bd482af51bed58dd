-- What a call answers, and why: once for all commands.
use Rattle.std.specs.Prelude.{◌≡◌, ◌⊎◌, ℕ, ◌<◌, ◌≤◌, Bool, true, false, List, length, None, Some}
use Rattle.std.specs.Bool.{MatchBool}
use Rattle.std.specs.declared.option.Option.{Option}
use Rattle.std.specs.Io.KnownBytes.{Consumes}
use Rattle.tn_io.specs.Rose.{Rose}
use Rattle.tn_call.specs.Streams.{Breaks, Leaves, Reads, Streams, Writes, most_bytes}
use Rattle.tn_call.specs.declared.status.Status.{Status}
use Rattle.tn_call.specs.declared.status.Status.TheVariants.{Done, Usage, Refused, Trapped, BadKey, Spent, Jammed, ReadFault, WriteFault, Memory, TooLong}

-- A call serves the commands C, and keeps a K. `reads` says which commands read the source, `answer` what a command answers to an
-- input with what is kept then, and `fresh` when nothing is kept. The form is the command that the words name, if the call serves it.
module _ {C K : Type 0} (reads : C → Bool) (answer : C → List ℕ → K → Status → List ℕ → Type 0) (fresh : K → Type 0) where
  -- the words name a command that reads the source
  abbrev pub form_reads : Option C → Bool
  form_reads (Some c) = reads c
  form_reads None = false

  -- If the command reads, the input is all that the source gave. If the command reads nothing, there is no input.
  abbrev pub Takes : C → List ℕ → Streams → Type 0
  Takes c input s = MatchBool (reads c) (Reads input s) (Leaves input s)

  -- the words name no command of the call: nothing was read or written, and nothing is kept
  pub record AnswersUsage (form : Option C) (s : Streams) (kept : K) : Type 0 where
    pub no_form : form ≡ None
    pub unread : s.source' ≡ s.source
    pub unwritten : s.sink' ≡ s.sink
    pub nothing : fresh kept

  -- a fault of the source rose, after at most the most bytes: nothing was written, and nothing is kept
  pub record AnswersReadFault (form : Option C) (s : Streams) (kept : K) : Type 0 where
    pub command : C
    pub is_form : form ≡ Some command
    pub is_reader : reads command ≡ true
    pub taken : List ℕ
    pub consumed : Consumes s.source.bytes s.source'.bytes taken
    pub short : length taken ≤ most_bytes
    pub rose : Rose s.source.faults s.source'.faults
    pub unwritten : s.sink' ≡ s.sink
    pub nothing : fresh kept

  -- the source gave more bytes than an input may have: nothing was written, and nothing is kept
  pub record AnswersTooLong (form : Option C) (s : Streams) (kept : K) : Type 0 where
    pub command : C
    pub is_form : form ≡ Some command
    pub is_reader : reads command ≡ true
    pub taken : List ℕ
    pub consumed : Consumes s.source.bytes s.source'.bytes taken
    pub long : most_bytes < length taken
    pub clean : s.source'.faults ≡ s.source.faults
    pub unwritten : s.sink' ≡ s.sink
    pub nothing : fresh kept

  -- memory was refused: nothing was written, nothing is kept, and only a command that reads has read
  pub record AnswersMemory (form : Option C) (s : Streams) (kept : K) : Type 0 where
    pub clean : s.source'.faults ≡ s.source.faults
    pub unread : form_reads form ≡ false → s.source' ≡ s.source
    pub unwritten : s.sink' ≡ s.sink
    pub nothing : fresh kept

  -- the input was read and answered, and the whole answer is written
  pub record Finishes (status : Status) (form : Option C) (s : Streams) (kept : K) : Type 0 where
    pub command : C
    pub is_form : form ≡ Some command
    pub input : List ℕ
    pub text : List ℕ
    pub takes : Takes command input s
    pub answers : answer command input kept status text
    pub writes : Writes text s

  -- the input was read and answered, and a fault of the sink rose when the answer was written
  pub record AnswersWriteFault (form : Option C) (s : Streams) (kept : K) : Type 0 where
    pub command : C
    pub is_form : form ≡ Some command
    pub input : List ℕ
    pub text : List ℕ
    pub status : Status
    pub takes : Takes command input s
    pub answers : answer command input kept status text
    pub breaks : Breaks text s

  -- each status with its cause
  abbrev pub Answers : Status → Option C → Streams → K → Type 0
  Answers Usage form s kept = AnswersUsage form s kept
  Answers ReadFault form s kept = AnswersReadFault form s kept
  Answers TooLong form s kept = AnswersTooLong form s kept
  Answers Memory form s kept = AnswersMemory form s kept
  Answers WriteFault form s kept = AnswersWriteFault form s kept
  Answers Done form s kept = Finishes Done form s kept
  Answers Refused form s kept = Finishes Refused form s kept
  Answers Trapped form s kept = Finishes Trapped form s kept
  Answers BadKey form s kept = Finishes BadKey form s kept
  Answers Spent form s kept = Finishes Spent form s kept
  Answers Jammed form s kept = Finishes Jammed form s kept

  -- the words name the command, and no fault of the source or of the sink rose
  pub record IsCalm (command : C) (form : Option C) (s : Streams) : Type 0 where
    pub is_form : form ≡ Some command
    pub read : Rose s.source.faults s.source'.faults → ⊥
    pub written : Rose s.sink.faults s.sink'.faults → ⊥

  -- If the command reads and the source tells its bytes, the input is all of these bytes.
  abbrev pub IsTold : C → List ℕ → Streams → Type 0
  IsTold command input s = reads command ≡ true → (bytes : List ℕ) → s.source.bytes ≡ Some bytes → input ≡ bytes

  -- the answer to an input of at most the most bytes, with the whole answer written
  pub record IsWhollyAnswered (command : C) (status : Status) (s : Streams) (kept : K) : Type 0 where
    pub input : List ℕ
    pub takes : Takes command input s
    pub short : length input ≤ most_bytes
    pub told : IsTold command input s
    pub text : List ℕ
    pub answers : answer command input kept status text
    pub writes : Writes text s

  -- The source gave more than the most bytes. If it tells its bytes, they are too many.
  pub record IsTooLong (command : C) (status : Status) (s : Streams) : Type 0 where
    pub is_reader : reads command ≡ true
    pub status_is : status ≡ TooLong
    pub taken : List ℕ
    pub consumed : Consumes s.source.bytes s.source'.bytes taken
    pub long : most_bytes < length taken
    pub told : (bytes : List ℕ) → s.source.bytes ≡ Some bytes → most_bytes < length bytes

  -- what the call answers if it is calm and memory was there
  abbrev pub Completes : C → Status → Streams → K → Type 0
  Completes command status s kept = IsTooLong command status s ⊎ IsWhollyAnswered command status s kept
