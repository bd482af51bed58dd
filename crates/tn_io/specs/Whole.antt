-- What reading all and writing all do.
use Rattle.std.specs.Prelude.{◌≡◌, ℕ, ◌<◌, ◌≤◌, List, length, take}
use Rattle.std.specs.declared.option.Option.{Option}
use Rattle.std.specs.Io.KnownBytes.{Appends, Consumes, IsAtEnd}
use Rattle.tn_io.specs.Rose.{Rose}
use Rattle.tn_io.specs.declared.whole.ReadStop.{ReadStop}
use Rattle.tn_io.specs.declared.whole.ReadStop.TheVariants.{Fault, TooLong, Memory}

-- all that was left, up to the source's end and within the limit
pub record IsWhole (bytes : List ℕ) (limit : ℕ) (old new : Option (List ℕ)) : Type 0 where
  pub short : length bytes ≤ limit
  pub all : Consumes old new bytes
  pub ended : IsAtEnd new

-- too long is an answer to more than `limit` bytes, and no other stop is
abbrev pub IsStopAt : ReadStop → ℕ → ℕ → Type 0
IsStopAt Fault limit n = n ≤ limit
IsStopAt TooLong limit n = limit < n
IsStopAt Memory limit n = n ≤ limit

-- some bytes were taken before reading stopped: more than the limit exactly where it was too long
abbrev pub Stops : ReadStop → ℕ → Option (List ℕ) → Option (List ℕ) → Type 0
Stops stop limit old new = (taken : List ℕ) × Consumes old new taken × IsStopAt stop limit (length taken)

-- the count of faults rises where reading answers Fault, and only there
abbrev pub CountsStop : ReadStop → ℕ → ℕ → Type 0
CountsStop Fault old new = Rose old new
CountsStop TooLong old new = new ≡ old
CountsStop Memory old new = new ≡ old

-- a front of the bytes was appended, and not all of them
abbrev pub AppendsFront : Option (List ℕ) → Option (List ℕ) → List ℕ → Type 0
AppendsFront old new bytes = (n : ℕ) × (n < length bytes) × Appends old new (take n bytes)
