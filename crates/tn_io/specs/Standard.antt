-- What the source and the sink over std are.
use Rattle.std.specs.Prelude.{ℕ, List, take, ⊤}
use Rattle.std.specs.declared.option.Option.{Option}
use Rattle.std.specs.Io.KnownBytes.{Appends}
use Rattle.tn_io.specs.declared.sink.Wrote.{Wrote}
use Rattle.tn_io.specs.declared.sink.Wrote.TheVariants.{Took, Failed}

-- a reader or a writer, and how many calls failed
pub record Counted (T : Type 0) : Type 0 where
  pub inner : T
  pub faults : ℕ

-- what was taken is appended to what the writer holds, where that is told; nothing is said of a call that failed,
-- since a flush may fail after a write
abbrev pub Sends : Wrote → Option (List ℕ) → Option (List ℕ) → List ℕ → Type 0
Sends (Took n) old new bytes = Appends old new (take n bytes)
Sends Failed old new bytes = ⊤
