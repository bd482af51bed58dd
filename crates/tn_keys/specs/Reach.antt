-- What a keyed message reaches.
use Rattle.std.specs.Prelude.{ℕ, zero, suc, List, [], ◌∷◌, ◌++◌}
use Rattle.tn_base.specs.declared.ids.Board.{Board}
use Rattle.tn_base.specs.declared.shape.ShapeNumbers.{ShapeNumbers}
use Rattle.tn_keys.specs.declared.record.RouteRec.{RouteRec}
use Rattle.tn_keys.specs.declared.record.RouteRec.TheVariants.{Ind}
use Rattle.tn_keys.specs.Copies.{Copy, copies_of}
use Rattle.tn_keys.specs.Tables.{Table, records_of}

-- from a board, by a key, the copies of a message of these bytes, in order
abbrev pub Reach : Type 0
Reach = Board → ℕ → List ℕ → List Copy

-- the copies that records make at a board, in order, where `on` gives those of each key at each board. An IND is the last
-- record: what stands behind it is not looked at. So this is, too, what is still to come of a message behind some records.
abbrev pub walk : (Board → ℕ → List Copy) → ShapeNumbers → Board → List ℕ → List RouteRec → List Copy
walk on n b bytes [] = []
walk on n b bytes (Ind key ∷ rs) = copies_of on n b bytes (Ind key)
walk on n b bytes (r ∷ rs) = copies_of on n b bytes r ++ walk on n b bytes rs

-- the copies over at most so many keys one after the other: a record leads from each to the next
unfoldable pub reach_by : ℕ → ShapeNumbers → List Table → List ℕ → Board → ℕ → List Copy
reach_by zero n tables bytes b key = []
reach_by (suc keys) n tables bytes b key = walk (reach_by keys n tables bytes) n b bytes (records_of n tables b key)

-- the copies of a keyed message. In accepted tables at most 64 records lead on one after the other, from the first key to
-- the 65th, so that more keys would give nothing else.
unfoldable pub reach : ShapeNumbers → List Table → Reach
reach n tables b key bytes = reach_by 65 n tables bytes b key
