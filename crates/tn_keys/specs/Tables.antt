-- Tables: for each board in order, the beats of its router.
use Rattle.std.specs.Prelude.{ℕ, ◌<◌, ◌+◌, ◌*◌, ◌==◌, ◌||◌, Bool, List, [], drop, length, nat_lt, slice_index_or, take, if◌then◌else◌}
use Rattle.std.specs.List.{flat_map}
use Rattle.tn_base.specs.declared.ids.Board.{Board}
use Rattle.tn_base.specs.declared.shape.ShapeNumbers.{ShapeNumbers}
use Rattle.tn_keys.specs.declared.record.RouteRec.{RouteRec}
use Rattle.tn_keys.specs.Key.{key_count, key_first}

-- the beats of one router, each a list of records
abbrev pub Table : Type 0
Table = List (List RouteRec)

-- a board's place among those of the machine, by y, then x
abbrev pub board_place : ShapeNumbers → Board → ℕ
board_place n b = b.y * n.boards_x + b.x

-- the board is one of the machine
abbrev pub HasBoard : ShapeNumbers → Board → Type 0
HasBoard n b = (b.x < n.boards_x) × (b.y < n.boards_y)

-- the table of a board
abbrev pub table_at : List Table → ℕ → Table
table_at tables i = slice_index_or tables i []

abbrev pub table_of : ShapeNumbers → List Table → Board → Table
table_of n tables b = table_at tables (board_place n b)

-- the key names no beats, or beats past a table of so many
abbrev pub is_bad_key : ℕ → ℕ → Bool
is_bad_key beats key = key_count key == 0 || nat_lt beats (key_first key + key_count key)

-- the beats of a key that lie in a table, in order
abbrev pub beats_in : Table → ℕ → Table
beats_in table key = take (key_count key) (drop (key_first key) table)

-- the records of beats, in order
abbrev pub joined : Table → List RouteRec
joined beats = flat_map (λ beat. beat) beats

-- the records of a key in a table; a bad key has none
unfoldable pub records_at : Table → ℕ → List RouteRec
records_at table key = if is_bad_key (length table) key then [] else joined (beats_in table key)

-- the records of a key at a board
abbrev pub records_of : ShapeNumbers → List Table → Board → ℕ → List RouteRec
records_of n tables b key = records_at (table_of n tables b) key
