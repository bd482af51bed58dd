-- What the clean source and the clean sink are, and what each of their calls does to them.
use Rattle.std.specs.Prelude.{◌≡◌, ℕ, ◌-◌, ◌<◌, ◌≤◌, min, max, List, [], ◌++◌, length, drop}
use Rattle.tn_io.specs.Counts.{counted}
use Rattle.tn_io.specs.declared.source.Took.{Took}
use Rattle.tn_io.specs.declared.sink.Wrote.{Wrote}

-- what a clean source with the bytes `old` left answers to a buffer of this length, and has left then
abbrev pub CleanTakes : ℕ → List ℕ → Took → List ℕ → Type 0
CleanTakes room old (Took.Got n) new = (0 < length old) × (n ≡ min (length old) room) × (new ≡ drop n old)
CleanTakes room old Took.End new = (old ≡ []) × (new ≡ [])
CleanTakes room old Took.Failed new = ⊥

-- a sink in memory: the bytes written so far, for how many more there is room, and how many calls failed
pub record CleanView : Type 0 where
  pub written : List ℕ
  pub room : ℕ
  pub faults : ℕ

-- room for n bytes more
abbrev pub reserved : ℕ → CleanView → CleanView
reserved n s = record { written = s.written; room = max s.room n; faults = s.faults }

-- the bytes are appended, into the room that was there
abbrev pub appended : List ℕ → CleanView → CleanView
appended bytes s = record { written = s.written ++ bytes; room = s.room - length bytes; faults = s.faults }

-- one more call failed
abbrev pub failed : CleanView → CleanView
failed s = record { written = s.written; room = s.room; faults = counted s.faults }

-- a clean sink takes a piece whole, and fails exactly where there is no room for it
abbrev pub CleanPuts : List ℕ → CleanView → Wrote → CleanView → Type 0
CleanPuts bytes old (Wrote.Took n) new = (length bytes ≤ old.room) × (n ≡ length bytes) × (new ≡ appended bytes old)
CleanPuts bytes old Wrote.Failed new = (old.room < length bytes) × (new ≡ failed old)
