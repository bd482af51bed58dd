-- What a sink does.
use Rattle.std.specs.Prelude.{◌≡◌, ℕ, ◌<◌, ◌≤◌, List, length, take}
use Rattle.std.specs.declared.option.Option.{Option}
use Rattle.std.specs.Io.KnownBytes.{Appends, Keeps}
use Rattle.tn_io.specs.Rose.{Rose}
use Rattle.tn_io.specs.declared.sink.Wrote.{Wrote}
use Rattle.tn_io.specs.declared.sink.Wrote.TheVariants.{Took, Failed}

-- Took has appended the first n bytes, at least one where there are some
abbrev pub IsWritten : Wrote → Option (List ℕ) → Option (List ℕ) → List ℕ → Type 0
IsWritten (Took n) old new bytes = (n ≤ length bytes) × (0 < length bytes → 0 < n) × Appends old new (take n bytes)
IsWritten Failed old new bytes = Keeps old new

-- the count of faults rises where the sink failed, and only there
abbrev pub CountsPut : Wrote → ℕ → ℕ → Type 0
CountsPut (Took n) old new = new ≡ old
CountsPut Failed old new = Rose old new
