-- Which threads a report lists.
use Rattle.std.specs.Prelude.{◌≡◌, ℕ, ◌<◌, List, flat_map, length, slice_index_or}
use Rattle.tn_letters.specs.Machine.{addresses}
use Rattle.tn_letters.specs.Tiles.{thread_of, tile_in}
use Rattle.tn_base.specs.Address.{tile_threads}
use Rattle.tn_base.specs.Parts.{tile_count, tile_part}
use Rattle.tn_base.specs.Shape.{WithinLimits}
use Rattle.tn_rows.specs.Events.{IsWorld}
use Rattle.tn_rows.specs.PartView.{AbsentV}
use Rattle.tn_rows.specs.WorldView.{WorldView}
use Rattle.tn_run.specs.Report.{exit_text, exits_text}

-- each tile has as many threads as the shape says
abbrev pub HasThreads : WorldView → Type 0
HasThreads w = (t : ℕ) → t < tile_count w.shape → length (tile_in (slice_index_or w.parts (tile_part t) AbsentV)).now.threads ≡ tile_threads w.shape

-- a line for each thread that ended, by the threads' addresses
abbrev pub listed_exits : WorldView → List ℕ
listed_exits w = flat_map (λ a. exit_text a (thread_of w a).state) (addresses w.shape)

-- The report has a line for each thread of the machine that ended, by ascending address.
abbrev pub ListsExits : Type 0
ListsExits = (w : WorldView) → WithinLimits w.shape → IsWorld w → HasThreads w → exits_text w.parts ≡ listed_exits w
