-- The routes of pins: one tree for each pin with an edge, in order, and the in-edges of each thread.
use Rattle.std.specs.Prelude.{ℕ, suc, zero, ◌≡◌, ◌+◌, ◌/◌, Bool, true, false, List, [], ◌∷◌, length, map, nat_lt, replicate, slice_index_or, take, if◌then◌else◌}
use Rattle.std.specs.List.{All, filter, list_any, range_with_len}
use Rattle.std.specs.declared.option.Option.{Option}
use Rattle.std.specs.declared.option.Option.TheVariants.{Some}
use Rattle.tn_base.specs.declared.ids.Board.{Board}
use Rattle.tn_base.specs.declared.shape.ShapeNumbers.{ShapeNumbers}
use Rattle.tn_base.specs.Address.{thread_at}
use Rattle.tn_base.specs.Parts.{board_count}
use Rattle.tn_base.specs.Shape.{thread_count}
use Rattle.tn_keys.specs.Tables.{HasBoard, Table}
use Rattle.polite_switch.specs.declared.device.InEdge.{InEdge}
use Rattle.polite_routes.specs.declared.planting.Planting.{Planting}
use Rattle.polite_routes.specs.declared.target.Pin.{Pin}
use Rattle.polite_routes.specs.declared.target.Spot.{Spot}
use Rattle.polite_routes.specs.declared.target.Target.{Target}
use Rattle.std.specs.declared.result.Result.{Result}
use Rattle.std.specs.declared.result.Result.TheVariants.{Ok, Err}
use Rattle.polite_routes.specs.declared.target.RouteStop.{RouteStop}
use Rattle.polite_routes.specs.declared.target.RouteStop.TheVariants.{KeysFull, Memory, TableFull}
use Rattle.polite_routes.specs.Full.{is_full}
use Rattle.polite_routes.specs.Hops.{Hop, arrives, reach_of}
use Rattle.polite_routes.specs.Once.{AllFind, AllThere, EachOnce, Lists}
use Rattle.polite_routes.specs.Straight.{StraightFrom}
use Rattle.polite_routes.specs.Targets.{edges_to, reaches, spots_for}
use Rattle.polite_routes.specs.Tree.{Planted, tree}

-- the pin at a place
abbrev pub pin_at : List Pin → ℕ → Pin
pin_at pins j = slice_index_or pins j (record { board = record { x = 0; y = 0 }; targets = [] })

-- how many trees reach a tile, whose threads have the addresses from i * 64 on. Of the trees of earlier pins this is the local key there
abbrev pub trees_to : List Pin → ℕ → ℕ
trees_to [] i = 0
trees_to (p ∷ ps) i = (if reaches p.targets i then 1 else 0) + trees_to ps i

-- the local key by tile of the tree of the pin at a place
abbrev pub local_of : List Pin → ℕ → ℕ → ℕ
local_of pins j i = trees_to (take j pins) i

abbrev pub spots_of : List Pin → ℕ → List Spot
spots_of pins j = spots_for (pin_at pins j).targets (local_of pins j)

abbrev pub tree_of : ShapeNumbers → List Pin → ℕ → List Table → Planted
tree_of n pins j tables = tree n (spots_of pins j) (pin_at pins j).board tables

-- the tables behind the first pins' trees
unfoldable pub tables_after : ShapeNumbers → List Pin → ℕ → List Table
tables_after n pins zero = replicate (board_count n) []
tables_after n pins (suc j) = (tree_of n pins j (tables_after n pins j)).tables

-- the tables, and the key of the pin at a place; a pin without edges has none
abbrev pub tables_of : ShapeNumbers → List Pin → List Table
tables_of n pins = tables_after n pins (length pins)

abbrev pub key_at : ShapeNumbers → List Pin → ℕ → Option ℕ
key_at n pins j = (tree_of n pins j (tables_after n pins j)).key

-- the in-edges of a thread by local key: for each tree that reaches its tile, the edges to it in order
unfoldable pub lists_to : List Pin → ℕ → List (List InEdge)
lists_to pins a = map (λ p. edges_to p.targets a) (filter (λ p. reaches p.targets (a / 64)) pins)

abbrev pub in_lists : List Pin → Lists
in_lists pins a local = slice_index_or (lists_to pins a) local []

-- the in-edges of all threads by ascending address
abbrev pub in_edges_of : ShapeNumbers → List Pin → List (List (List InEdge))
in_edges_of n pins = map (λ i. lists_to pins (thread_at n i)) (range_with_len 0 (thread_count n))

-- a tile is reached by more than 65,536 trees
unfoldable pub keys_full : List Pin → Bool
keys_full pins = list_any (λ i. nat_lt 65536 (trees_to pins i)) (range_with_len 0 256)

-- the board of a pin is there, and so is each thread to which its edges lead
pub record PinThere (n : ShapeNumbers) (pin : Pin) : Type 0 where
  pub board : HasBoard n pin.board
  pub targets : AllThere n pin.targets

pub record PinsThere (n : ShapeNumbers) (pins : List Pin) : Type 0 where
  pub each : All (PinThere n) pins

-- what the key of a pin reaches, with the in-edge lists, is exactly its edges, each once, and each copy finds an edge; the pin's branches
-- are straight
pub record PinRouted (n : ShapeNumbers) (tables : List Table) (lists : Lists) (board : Board) (key : Option ℕ) (targets : List Target) (local : ℕ → ℕ) : Type 0 where
  pub hops : List Hop
  pub reached : (bytes : List ℕ) → reach_of n tables bytes board key ≡ map (arrives bytes) hops
  pub once : EachOnce lists hops targets local
  pub find : AllFind lists hops
  pub straight : StraightFrom 9 n tables 4 (Some board) key

-- how many trees of pins reach each tile
unfoldable pub counts_of : List Pin → List ℕ
counts_of pins = map (trees_to pins) (range_with_len 0 256)

-- the keys of the first pins
abbrev pub keys_to : ShapeNumbers → List Pin → ℕ → List (Option ℕ)
keys_to n pins j = map (key_at n pins) (range_with_len 0 j)

-- the trees of all pins, or what is full: keys first, then tables
abbrev pub planting : ShapeNumbers → List Pin → Result Planting RouteStop
planting n pins =
    if keys_full pins then Err KeysFull
    else if is_full (tables_of n pins) then Err TableFull
    else Ok (record { tables = tables_of n pins; keys = keys_to n pins (length pins) })

-- what a call answers, unless memory ran out
abbrev pub IsPlanting : Result Planting RouteStop → Result Planting RouteStop → Type 0
IsPlanting (Ok p) answer = Ok p ≡ answer
IsPlanting (Err KeysFull) answer = Err KeysFull ≡ answer
IsPlanting (Err TableFull) answer = Err TableFull ≡ answer
IsPlanting (Err Memory) answer = Unit {0}

-- the same of a call that plants into tables and appends keys
abbrev pub Lays : Result Unit RouteStop → List Table → List (Option ℕ) → List Table → List (Option ℕ) → Type 0
Lays (Ok done) new got tables keys = (new ≡ tables) × (got ≡ keys) × (is_full tables ≡ false)
Lays (Err TableFull) new got tables keys = is_full tables ≡ true
Lays (Err KeysFull) new got tables keys = ⊥
Lays (Err Memory) new got tables keys = Unit {0}
