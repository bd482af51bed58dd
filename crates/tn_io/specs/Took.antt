-- What a source does.
use Rattle.std.specs.Prelude.{◌≡◌, ℕ, ◌<◌, ◌≤◌, List, length, take}
use Rattle.std.specs.declared.option.Option.{Option}
use Rattle.std.specs.Io.KnownBytes.{Consumes, Keeps, IsAtEnd}
use Rattle.tn_io.specs.Rose.{Rose}
use Rattle.tn_io.specs.declared.source.Took.{Took}
use Rattle.tn_io.specs.declared.source.Took.TheVariants.{Got, End, Failed}

-- Got has the first n bytes that were left, at least one where there is room. At End nothing is left.
abbrev pub IsTaken : Took → Option (List ℕ) → Option (List ℕ) → List ℕ → Type 0
IsTaken (Got n) old new buf = (n ≤ length buf) × (0 < length buf → 0 < n) × Consumes old new (take n buf)
IsTaken End old new buf = IsAtEnd new × Keeps old new
IsTaken Failed old new buf = Keeps old new

-- the count of faults rises where the source failed, and only there
abbrev pub CountsTake : Took → ℕ → ℕ → Type 0
CountsTake (Got n) old new = new ≡ old
CountsTake End old new = new ≡ old
CountsTake Failed old new = Rose old new
