-- The source and the sink of a call.
use Rattle.std.specs.Prelude.{◌≡◌, ℕ, List, []}
use Rattle.std.specs.declared.option.Option.{Option}
use Rattle.std.specs.Io.KnownBytes.{Appends}
use Rattle.tn_io.specs.Rose.{Rose}
use Rattle.tn_io.specs.Whole.{IsWhole, AppendsFront}

-- a source or a sink as a contract sees it: its bytes, if it tells them, and its count of faults
pub record StreamView : Type 0 where
  pub bytes : Option (List ℕ)
  pub faults : ℕ

abbrev pub stream : {T : Type 0} → (T → Option (List ℕ)) → (T → ℕ) → T → StreamView
stream bytes faults t = record { bytes = bytes t; faults = faults t }

-- the source and the sink before a call and after it
pub record Streams : Type 0 where
  pub source : StreamView
  pub source' : StreamView
  pub sink : StreamView
  pub sink' : StreamView

abbrev pub streams : StreamView → StreamView → StreamView → StreamView → Streams
streams source source' sink sink' = record { source = source; source' = source'; sink = sink; sink' = sink' }

-- the most bytes of an input
abbrev pub most_bytes : ℕ
most_bytes = 16777216

-- the source gave the input up to its end, with no fault
pub record Reads (input : List ℕ) (s : Streams) : Type 0 where
  pub whole : IsWhole input most_bytes s.source.bytes s.source'.bytes
  pub clean : s.source'.faults ≡ s.source.faults

-- there is no input, and the source is as it was
pub record Leaves (input : List ℕ) (s : Streams) : Type 0 where
  pub none : input ≡ []
  pub unread : s.source' ≡ s.source

-- the sink took all of the text, with no fault
pub record Writes (text : List ℕ) (s : Streams) : Type 0 where
  pub whole : Appends s.sink.bytes s.sink'.bytes text
  pub clean : s.sink'.faults ≡ s.sink.faults

-- the sink took a front of the text, and a fault rose
pub record Breaks (text : List ℕ) (s : Streams) : Type 0 where
  pub front : AppendsFront s.sink.bytes s.sink'.bytes text
  pub rose : Rose s.sink.faults s.sink'.faults
