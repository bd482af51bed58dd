-- The tree of a pin: along X first, then along Y. It has beats at each board where it leads to a thread, or to a board behind.
use Rattle.std.specs.Prelude.{ℕ, ◌≡◌, ◌≤◌, true, length, nat_lt, suc, zero, ◌+◌, ◌*◌, ◌==◌, List, [], ◌∷◌, ◌++◌, if◌then◌else◌}
use Rattle.std.specs.List.{list_all}
use Rattle.std.specs.declared.option.Option.{Option}
use Rattle.std.specs.declared.option.Option.TheVariants.{Some, None}
use Rattle.tn_base.specs.declared.ids.Board.{Board}
use Rattle.tn_base.specs.declared.shape.ShapeNumbers.{ShapeNumbers}
use Rattle.tn_keys.specs.declared.record.RouteRec.{RouteRec}
use Rattle.tn_keys.specs.declared.record.RouteRec.TheVariants.{Rr, Mrm}
use Rattle.tn_keys.specs.Copies.{each_below, neighbour}
use Rattle.tn_keys.specs.Tables.{Table}
use Rattle.polite_routes.specs.declared.target.Spot.{Spot}
use Rattle.polite_routes.specs.declared.tree.Child.{Child}
use Rattle.polite_routes.specs.Pack.{key_for, with_records}
use Rattle.polite_routes.specs.Targets.{spot_at}

-- the record of a tile to which the tree leads
abbrev pub mrm : ℕ → Spot → List RouteRec
mrm tile s = if s.mask == 0 then [] else Mrm tile s.local s.mask ∷ []

-- the place of a board's tile among all tiles, by address
abbrev pub tile_index : Board → ℕ → ℕ
tile_index b tile = b.y * 64 + b.x * 16 + tile

-- one record for each target tile of a board, ascending
unfoldable pub mrms : List Spot → Board → ℕ → List RouteRec
mrms spots b count = each_below count (λ tile. mrm tile (spot_at spots (tile_index b tile)))

abbrev pub rr : ℕ → Option ℕ → List RouteRec
rr dir None = []
rr dir (Some key) = Rr dir key ∷ []

-- one record for each child board
abbrev pub rrs : List Child → List RouteRec
rrs [] = []
rrs (c ∷ cs) = rr c.dir c.key ++ rrs cs

-- the records of a tree at a board: those of its 16 tiles, then those of its children
abbrev pub tree_records : List Spot → Board → List Child → List RouteRec
tree_records spots b children = mrms spots b 16 ++ rrs children

-- tables, and the key of a board in them, if the tree comes to the board
pub record Planted : Type 0 where
  pub tables : List Table
  pub key : Option ℕ

abbrev pub no_key : List Table → Planted
no_key tables = record { tables = tables; key = None }

abbrev pub child : ℕ → Option ℕ → Child
child dir key = record { dir = dir; key = key }

-- the tree at a board, behind its children
abbrev pub planted : ShapeNumbers → List Spot → Board → List Child → List Table → Planted
planted n spots b children tables =
    let rs = tree_records spots b children in record { tables = with_records n b rs tables; key = key_for n b rs tables }

-- at most so many boards from one on in one direction, 2 South or 3 North, the last first
abbrev pub column : ShapeNumbers → List Spot → ℕ → ℕ → Option Board → List Table → Planted
column n spots dir zero at tables = no_key tables
column n spots dir (suc most) None tables = no_key tables
column n spots dir (suc most) (Some b) tables =
    let next = column n spots dir most (neighbour n dir b) tables in
    planted n spots b (child dir next.key ∷ []) next.tables

-- at most so many boards from one on in one direction, 0 East or 1 West, each with its columns to the South and the North
abbrev pub row : ShapeNumbers → List Spot → ℕ → ℕ → Option Board → List Table → Planted
row n spots dir zero at tables = no_key tables
row n spots dir (suc most) None tables = no_key tables
row n spots dir (suc most) (Some b) tables =
    let ahead = row n spots dir most (neighbour n dir b) tables in
    let below = column n spots 2 n.boards_y (neighbour n 2 b) ahead.tables in
    let above = column n spots 3 n.boards_y (neighbour n 3 b) below.tables in
    planted n spots b (child dir ahead.key ∷ child 2 below.key ∷ child 3 above.key ∷ []) above.tables

-- the whole tree from a board, whose children are to the East, West, South and North
abbrev pub tree : ShapeNumbers → List Spot → Board → List Table → Planted
tree n spots b tables =
    let east = row n spots 0 n.boards_x (neighbour n 0 b) tables in
    let west = row n spots 1 n.boards_x (neighbour n 1 b) east.tables in
    let below = column n spots 2 n.boards_y (neighbour n 2 b) west.tables in
    let above = column n spots 3 n.boards_y (neighbour n 3 b) below.tables in
    planted n spots b (child 0 east.key ∷ child 1 west.key ∷ child 2 below.key ∷ child 3 above.key ∷ []) above.tables

-- children are at most four neighbours
pub record Few (children : List Child) : Type 0 where
  pub few : length children ≤ 4
  pub dirs : list_all (λ c. nat_lt c.dir 4) children ≡ true
