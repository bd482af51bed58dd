-- Records as beats: in order, and a record that does not fit a beat begins the next.
use Rattle.std.specs.Prelude.{ℕ, Bool, List, [], ◌∷◌, ◌++◌, ◌+◌, ◌*◌, length, slice_set, if◌then◌else◌}
use Rattle.std.specs.declared.option.Option.{Option}
use Rattle.std.specs.declared.option.Option.TheVariants.{Some, None}
use Rattle.tn_base.specs.declared.ids.Board.{Board}
use Rattle.tn_base.specs.declared.shape.ShapeNumbers.{ShapeNumbers}
use Rattle.tn_keys.specs.declared.record.RouteRec.{RouteRec}
use Rattle.tn_keys.specs.Beat.{is_beat}
use Rattle.tn_keys.specs.Tables.{Table, board_place, table_of}

-- a beat that is begun, and the records behind it
abbrev pub filled : List RouteRec → List RouteRec → Table
filled beat [] = beat ∷ []
filled beat (r ∷ rs) = if is_beat (beat ++ r ∷ []) then filled (beat ++ r ∷ []) rs else beat ∷ filled (r ∷ []) rs

abbrev pub pack : List RouteRec → Table
pack [] = []
pack (r ∷ rs) = filled (r ∷ []) rs

-- the tables, once records stand at the end of a board's
unfoldable pub with_records : ShapeNumbers → Board → List RouteRec → List Table → List Table
with_records n b rs ts = slice_set ts (board_place n b) (table_of n ts b ++ pack rs)

-- the key of so many beats from a place on
abbrev pub key_of : ℕ → ℕ → ℕ
key_of first count = first * 256 + count

-- the key that records get behind a table, if there are records
abbrev pub key_in : Table → List RouteRec → Option ℕ
key_in table [] = None
key_in table (r ∷ rs) = Some (key_of (length table) (length (pack (r ∷ rs))))

unfoldable pub key_for : ShapeNumbers → Board → List RouteRec → List Table → Option ℕ
key_for n b rs ts = key_in (table_of n ts b) rs

-- the record is a beat by itself
abbrev pub is_alone : RouteRec → Bool
is_alone r = is_beat (r ∷ [])
