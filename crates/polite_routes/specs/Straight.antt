-- The branches of a tree: along X in one direction, then along Y in one direction.
use Rattle.std.specs.Prelude.{ℕ, suc, zero, ◌≡◌, ◌==◌, ◌&&◌, ◌||◌, Bool, true, false, List, [], ◌∷◌, length}
use Rattle.std.specs.declared.option.Option.{Option}
use Rattle.std.specs.declared.option.Option.TheVariants.{Some, None}
use Rattle.tn_base.specs.declared.ids.Board.{Board}
use Rattle.tn_base.specs.declared.shape.ShapeNumbers.{ShapeNumbers}
use Rattle.tn_base.specs.Mask.{names_threads}
use Rattle.tn_keys.specs.declared.record.RouteRec.{RouteRec}
use Rattle.tn_keys.specs.declared.record.RouteRec.TheVariants.{Urm1, Urm2, Rr, Mrm, Ind}
use Rattle.tn_keys.specs.Accepted.{has_place}
use Rattle.tn_keys.specs.Copies.{neighbour}
use Rattle.tn_keys.specs.Tables.{Table, is_bad_key, records_of, table_of}

-- behind a direction (4: none yet) a branch may go straight on, or turn from East or West to the South or the North
abbrev pub may : ℕ → ℕ → Bool
may last dir = last == 4 || dir == last || (last == 0 || last == 1) && (dir == 2 || dir == 3)

-- there is a board, and P holds of it
abbrev pub At : (Board → Type 0) → Option Board → Type 0
At P None = ⊥
At P (Some b) = P b

-- a record of a tree at a board to which it came in a direction: copies for threads that are there, or a copy in a direction that
-- may follow, by a key of which `on` holds where it leads
abbrev pub StraightRecord : (ℕ → Board → ℕ → Type 0) → ShapeNumbers → ℕ → Board → RouteRec → Type 0
StraightRecord on n last b (Urm1 tile thread key) = ⊥
StraightRecord on n last b (Urm2 tile thread key) = ⊥
StraightRecord on n last b (Rr dir key) = (may last dir ≡ true) × At (λ c. on dir c key) (neighbour n dir b)
StraightRecord on n last b (Mrm tile key mask) = (has_place n tile ≡ true) × (names_threads n mask ≡ true) × ((mask == 0) ≡ false)
StraightRecord on n last b (Ind key) = ⊥

abbrev pub StraightRecords : (ℕ → Board → ℕ → Type 0) → ShapeNumbers → ℕ → Board → List RouteRec → Type 0
StraightRecords on n last b [] = Unit {0}
StraightRecords on n last b (r ∷ rs) = StraightRecord on n last b r × StraightRecords on n last b rs

-- from a key on, at most so many records lead on one after the other; each is such a record, and each key names beats that are there
abbrev pub Straight : ℕ → ShapeNumbers → List Table → ℕ → Board → ℕ → Type 0
Straight zero n tables last b key = (is_bad_key (length (table_of n tables b)) key ≡ false) × StraightRecords (λ l c k. ⊥) n last b (records_of n tables b key)
Straight (suc most) n tables last b key = (is_bad_key (length (table_of n tables b)) key ≡ false) × StraightRecords (Straight most n tables) n last b (records_of n tables b key)

abbrev pub StraightOf : ℕ → ShapeNumbers → List Table → ℕ → Option Board → Option ℕ → Type 0
StraightOf most n tables last at None = Unit {0}
StraightOf most n tables last at (Some key) = At (λ b. Straight most n tables last b key) at

-- the branches from a key, if there is a key
pub record StraightFrom (most : ℕ) (n : ShapeNumbers) (tables : List Table) (last : ℕ) (at : Option Board) (key : Option ℕ) : Type 0 where
  pub straight : StraightOf most n tables last at key
