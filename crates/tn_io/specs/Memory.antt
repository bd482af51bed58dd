-- What the source and the sink in memory are, and what each of their calls does to them.
use Rattle.std.specs.Prelude.{◌≡◌, ℕ, ◌-◌, ◌<◌, ◌≤◌, ◌==◌, ◌⊎◌, Bool, true, false, min, max, List, [], ◌++◌, length, take, drop}
use Rattle.std.specs.List.{list_any}
use Rattle.tn_io.specs.Counts.{counted}
use Rattle.tn_io.specs.declared.source.Took.{Took}
use Rattle.tn_io.specs.declared.sink.Wrote.{Wrote}

-- whether the call with this number, counted from 0, is one that is to fail
abbrev pub is_due : List ℕ → ℕ → Bool
is_due fails call = list_any (λ n. n == call) fails

-- a source in memory: the bytes left, the most that a call moves, the calls that are to fail, how many calls
-- there were, and how many failed
pub record SourceView : Type 0 where
  pub left : List ℕ
  pub piece : ℕ
  pub fails : List ℕ
  pub calls : ℕ
  pub faults : ℕ

-- what is so after a call that leaves these bytes and this count of faults
abbrev pub source_after : SourceView → List ℕ → ℕ → SourceView
source_after s left faults = record { left = left; piece = s.piece; fails = s.fails; calls = counted s.calls; faults = faults }

-- the source fails exactly at the calls that are to fail, else it gives one piece, or tells that nothing is left
abbrev pub MemTakes : ℕ → SourceView → Took → SourceView → Type 0
MemTakes room old (Took.Got n) new =
    (is_due old.fails old.calls ≡ false) × (0 < length old.left) × (n ≡ min (min (length old.left) room) old.piece)
    × (new ≡ source_after old (drop n old.left) old.faults)
MemTakes room old Took.End new =
    (is_due old.fails old.calls ≡ false) × (old.left ≡ []) × (new ≡ source_after old [] old.faults)
MemTakes room old Took.Failed new =
    (is_due old.fails old.calls ≡ true) × (new ≡ source_after old old.left (counted old.faults))

-- a sink in memory: the bytes written so far, for how many more there is room, the most that a call moves, the
-- calls that are to fail, how many calls there were, and how many failed
pub record SinkView : Type 0 where
  pub written : List ℕ
  pub room : ℕ
  pub piece : ℕ
  pub fails : List ℕ
  pub calls : ℕ
  pub faults : ℕ

-- room for n bytes more
abbrev pub sink_reserved : ℕ → SinkView → SinkView
sink_reserved n s =
    record { written = s.written; room = max s.room n; piece = s.piece; fails = s.fails; calls = s.calls; faults = s.faults }

-- what is so after a call that appended these bytes, into the room that was there
abbrev pub sink_after : List ℕ → SinkView → SinkView
sink_after bytes s =
    record { written = s.written ++ bytes; room = s.room - length bytes; piece = s.piece; fails = s.fails; calls = counted s.calls; faults = s.faults }

-- what is so after a call that failed
abbrev pub sink_failed : SinkView → SinkView
sink_failed s =
    record { written = s.written; room = s.room; piece = s.piece; fails = s.fails; calls = counted s.calls; faults = counted s.faults }

-- the sink fails exactly at the calls that are to fail and where there is no room, else it takes one piece
abbrev pub MemPuts : List ℕ → SinkView → Wrote → SinkView → Type 0
MemPuts bytes old (Wrote.Took n) new =
    (is_due old.fails old.calls ≡ false) × (n ≡ min (length bytes) old.piece) × (n ≤ old.room)
    × (new ≡ sink_after (take n bytes) old)
MemPuts bytes old Wrote.Failed new =
    ((is_due old.fails old.calls ≡ true) ⊎ (old.room < min (length bytes) old.piece)) × (new ≡ sink_failed old)
