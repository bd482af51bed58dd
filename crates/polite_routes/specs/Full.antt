-- Tables that are too long.
use Rattle.std.specs.Prelude.{ℕ, ◌≡◌, Bool, true, false, ◌≤◌, ◌<◌, List, length, nat_lt}
use Rattle.std.specs.List.{list_any}
use Rattle.std.specs.declared.option.Option.{Option}
use Rattle.std.specs.declared.result.Result.{Result}
use Rattle.std.specs.declared.result.Result.TheVariants.{Ok, Err}
use Rattle.tn_keys.specs.Tables.{Table}
use Rattle.polite_routes.specs.declared.target.RouteStop.{RouteStop}
use Rattle.polite_routes.specs.declared.target.RouteStop.TheVariants.{KeysFull, Memory, TableFull}

-- a board needs more than 65,536 beats
abbrev pub is_full : List Table → Bool
is_full tables = list_any (λ table. nat_lt 65536 (length table)) tables

-- the tables became these and the key is this, and no board needs too many beats; or one does; or memory ran out
abbrev pub Gives : Result (Option ℕ) RouteStop → List Table → List Table → Option ℕ → Type 0
Gives (Ok answer) new tables key = (answer ≡ key) × (new ≡ tables) × (is_full tables ≡ false)
Gives (Err TableFull) new tables key = is_full tables ≡ true
Gives (Err KeysFull) new tables key = ⊥
Gives (Err Memory) new tables key = Unit {0}

-- the same of one table
abbrev pub GivesTable : Result (Option ℕ) RouteStop → Table → Table → Option ℕ → Type 0
GivesTable (Ok answer) new table key = (answer ≡ key) × (new ≡ table) × (length table ≤ 65536)
GivesTable (Err TableFull) new table key = 65536 < length table
GivesTable (Err KeysFull) new table key = ⊥
GivesTable (Err Memory) new table key = Unit {0}
