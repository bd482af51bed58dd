-- The faults of tables, and the tables that are accepted.
use Rattle.std.specs.Prelude.{ℕ, zero, suc, ◌≡◌, ◌<◌, ◌+◌, ◌/◌, ◌%◌, ◌==◌, ◌&&◌, Bool, false, List, length, nat_lt, not, if◌then◌else◌, is_none}
use Rattle.std.specs.Int.RustNames.{count_ones}
use Rattle.std.specs.List.{list_any, sum_by}
use Rattle.std.specs.declared.option.Option.{Option}
use Rattle.std.specs.declared.option.Option.TheVariants.{Some, None}
use Rattle.tn_base.specs.declared.ids.Board.{Board}
use Rattle.tn_base.specs.declared.shape.ShapeNumbers.{ShapeNumbers}
use Rattle.tn_base.specs.Mask.{names_threads}
use Rattle.tn_base.specs.Parts.{board_at, board_count}
use Rattle.tn_keys.specs.declared.fault.TableFault.{TableFault}
use Rattle.tn_keys.specs.declared.fault.TableFault.TheVariants as fault
use Rattle.tn_keys.specs.declared.record.RouteRec.{RouteRec}
use Rattle.tn_keys.specs.declared.record.RouteRec.TheVariants.{Urm1, Urm2, Rr, Mrm, Ind}
use Rattle.tn_keys.specs.declared.onward.Onward.{Onward}
use Rattle.tn_keys.specs.Copies.{neighbour, onward}
use Rattle.tn_keys.specs.Tables.{Table, beats_in, is_bad_key, joined, table_of}

-- each board has the tile of this place; each tile has the thread core * 16 + thread
abbrev pub has_place : ShapeNumbers → ℕ → Bool
has_place n tile = nat_lt (tile % 4) n.tiles_x && nat_lt (tile / 4) n.tiles_y

abbrev pub has_bit : ShapeNumbers → ℕ → Bool
has_bit n thread = nat_lt (thread % 16) n.threads && nat_lt (thread / 16) n.cores

-- an RR leads off the machine, or a tile is not there
abbrev pub off_machine : ShapeNumbers → Board → RouteRec → Bool
off_machine n b (Urm1 tile thread key) = not (has_place n tile)
off_machine n b (Urm2 tile thread key) = not (has_place n tile)
off_machine n b (Rr dir key) = is_none (neighbour n dir b)
off_machine n b (Mrm tile key mask) = not (has_place n tile)
off_machine n b (Ind key) = false

-- a thread, or one that a mask names, is not there
abbrev pub bad_thread : ShapeNumbers → RouteRec → Bool
bad_thread n (Urm1 tile thread key) = not (has_bit n thread)
bad_thread n (Urm2 tile thread key) = not (has_bit n thread)
bad_thread n (Rr dir key) = false
bad_thread n (Mrm tile key mask) = not (names_threads n mask)
bad_thread n (Ind key) = false

-- a mask names no thread
abbrev pub empty_mask : RouteRec → Bool
empty_mask (Urm1 tile thread key) = false
empty_mask (Urm2 tile thread key) = false
empty_mask (Rr dir key) = false
empty_mask (Mrm tile key mask) = mask == 0
empty_mask (Ind key) = false

-- a record leads to a key that is bad there
abbrev pub bad_onward : ShapeNumbers → List Table → Option Onward → Bool
bad_onward n tables None = false
bad_onward n tables (Some o) = is_bad_key (length (table_of n tables o.board)) o.key

abbrev pub bad_range : ShapeNumbers → List Table → Board → RouteRec → Bool
bad_range n tables b r = bad_onward n tables (onward n b r)

-- the sum over the records where a record leads: those of its key's beats that lie in the table there, also behind an IND
abbrev pub beyond : ShapeNumbers → List Table → (Board → RouteRec → ℕ) → Option Onward → ℕ
beyond n tables f None = 0
beyond n tables f (Some o) = sum_by (λ beat. sum_by (f o.board) beat) (beats_in (table_of n tables o.board) o.key)

-- what a record counts, and all records to which it leads over at most so many records. `last` counts the last of them
unfoldable pub gathered : (RouteRec → ℕ) → (RouteRec → ℕ) → ℕ → ShapeNumbers → List Table → Board → RouteRec → ℕ
gathered last own zero n tables b r = last r
gathered last own (suc m) n tables b r = own r + beyond n tables (gathered last own m n tables) (onward n b r)

-- 1 for a record that leads on, an RR or an IND
abbrev pub leads : RouteRec → ℕ
leads (Urm1 tile thread key) = 0
leads (Urm2 tile thread key) = 0
leads (Rr dir key) = 1
leads (Mrm tile key mask) = 0
leads (Ind key) = 1

abbrev pub nothing : RouteRec → ℕ
nothing r = 0

-- how many chains of m + 1 records begin with a record: each is an RR or an IND, and each after the first stands in a
-- beat of the key of the one before
abbrev pub chains : ℕ → ShapeNumbers → List Table → Board → RouteRec → ℕ
chains m = gathered leads nothing m

-- a URM counts 1, an MRM the bits of its mask, an RR or an IND 1
abbrev pub own_weight : RouteRec → ℕ
own_weight (Urm1 tile thread key) = 1
own_weight (Urm2 tile thread key) = 1
own_weight (Rr dir key) = 1
own_weight (Mrm tile key mask) = count_ones mask
own_weight (Ind key) = 1

-- the weight of a record, over at most m records that lead on: its own, and that of its key's beats
abbrev pub weight : ℕ → ShapeNumbers → List Table → Board → RouteRec → ℕ
weight m = gathered own_weight own_weight m

-- a chain of 65 records begins with the record
abbrev pub loops : ShapeNumbers → List Table → Board → RouteRec → Bool
loops n tables b r = nat_lt 0 (chains 64 n tables b r)

-- the weight of the beat is above 65,536. No chain has more than 64 records where this is asked
abbrev pub too_wide : ShapeNumbers → List Table → Board → List RouteRec → Bool
too_wide n tables b beat = nat_lt 65536 (sum_by (weight 64 n tables b) beat)

-- a fault where it is there, else what the tests behind it say
abbrev pub unless : Bool → TableFault → Option TableFault → Option TableFault
unless there fault others = if there then Some fault else others

-- the first fault of a board, in the order of the kinds
abbrev pub board_fault : ShapeNumbers → List Table → Board → Option TableFault
board_fault n tables b =
    let beats = table_of n tables b in
    unless (list_any (off_machine n b) (joined beats)) fault.OffMachine
    (unless (list_any (bad_thread n) (joined beats)) fault.BadThread
    (unless (list_any empty_mask (joined beats)) fault.EmptyMask
    (unless (list_any (bad_range n tables b) (joined beats)) fault.KeyRange
    (unless (list_any (loops n tables b) (joined beats)) fault.Loop
    (unless (list_any (too_wide n tables b) beats) fault.TooWide None)))))

-- there is a table for each board, and no board is at fault
pub record Accepted (n : ShapeNumbers) (tables : List Table) : Type 0 where
  pub count : length tables ≡ board_count n
  pub faultless : (i : ℕ) → i < board_count n → board_fault n tables (board_at n i) ≡ None
