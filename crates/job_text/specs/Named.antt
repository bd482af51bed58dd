-- What the sections of a job are about. A job has at most one section about a subject.
use Rattle.std.specs.Prelude.{ℕ, ◌+◌, ◌*◌, ◌^◌, Bool, true, false, List, [], ◌∷◌, if◌then◌else◌, Option, Some, None, option_and_then}
use Rattle.std.specs.List.{list_any}
use Rattle.std.specs.Ordering.{nat_cmp}
use Rattle.std.specs.BTreeSet.{insert_key}
use Rattle.std.specs.BTreeMap.{is_at}
use Rattle.job_text.specs.declared.job.Owner.{Owner}
use Rattle.job_text.specs.declared.job.Owner.TheVariants.{All, Tile}
use Rattle.job_text.specs.declared.job.Section.{Section}
use Rattle.job_text.specs.declared.job.Section.TheVariants.{Code, Asm, Fill, Table, Script, Graph}
use Rattle.job_text.specs.declared.named.Subject.{Subject}
use Rattle.job_text.specs.declared.named.Subject.TheVariants.{AllCode, TileCode, BoardTable, TheGraph}
use Rattle.job_text.specs.declared.named.Named.{Named}

-- Sets of numbers, as lists in ascending order.

abbrev pub has : ℕ → List ℕ → Bool
has n numbers = list_any (is_at (nat_cmp n)) numbers

abbrev pub with_number : ℕ → List ℕ → List ℕ
with_number n numbers = insert_key nat_cmp numbers n

-- a board's place as one number
abbrev pub board_number : ℕ → ℕ → ℕ
board_number x y = x * 2 ^ 32 + y

-- Subjects.

abbrev pub owner_subject : Owner → Subject
owner_subject All = AllCode
owner_subject (Tile tile) = TileCode tile

-- a `fill` or `host` line has no subject: a job may have several of them
abbrev pub subject_of : Section → Option Subject
subject_of (Code s) = Some (owner_subject s.owner)
subject_of (Asm s) = Some (owner_subject s.owner)
subject_of (Fill f) = None
subject_of (Table t) = Some (BoardTable t.x t.y)
subject_of (Script l) = None
subject_of (Graph s) = Some TheGraph

-- What sections have named.

abbrev pub nothing_named : Named
nothing_named = record { all = false; tiles = []; boards = []; graph = false }

abbrev pub is_named : Subject → Named → Bool
is_named AllCode named = named.all
is_named (TileCode tile) named = has tile named.tiles
is_named (BoardTable x y) named = has (board_number x y) named.boards
is_named TheGraph named = named.graph

abbrev pub with_subject : Subject → Named → Named
with_subject AllCode named = record named { all = true }
with_subject (TileCode tile) named = record named { tiles = with_number tile named.tiles }
with_subject (BoardTable x y) named = record named { boards = with_number (board_number x y) named.boards }
with_subject TheGraph named = record named { graph = true }

abbrev pub subject_named : Named → Option Subject → Option Named
subject_named named None = Some named
subject_named named (Some subject) = if is_named subject named then None else Some (with_subject subject named)

-- what is named with one more section, unless its subject was named before
abbrev pub section_named : Named → Section → Option Named
section_named named section = subject_named named (subject_of section)

abbrev pub named_by : Named → List Section → Option Named
named_by named [] = Some named
named_by named (s ∷ ss) = option_and_then (λ more. named_by more ss) (section_named named s)
