-- The first fault of tables: of the first board at fault the first kind.
use Rattle.std.specs.Prelude.{ℕ, ◌≡◌, List, [], ◌∷◌}
use Rattle.std.specs.List.{range_with_len}
use Rattle.std.specs.declared.option.Option.{Option}
use Rattle.std.specs.declared.option.Option.TheVariants.{Some, None}
use Rattle.std.specs.declared.result.Result.{Result}
use Rattle.std.specs.declared.result.Result.TheVariants.{Ok, Err}
use Rattle.tn_base.specs.declared.shape.ShapeNumbers.{ShapeNumbers}
use Rattle.tn_base.specs.Parts.{board_at, board_count}
use Rattle.tn_keys.specs.declared.fault.TableFault.{TableFault}
use Rattle.tn_keys.specs.Accepted.{Accepted, board_fault}
use Rattle.tn_keys.specs.Tables.{Table}
use Rattle.tn_reach.specs.declared.check.TableStop.{TableStop}
use Rattle.tn_reach.specs.declared.check.TableStop.TheVariants.{Fault, Memory}

-- the first of these boards that has a fault, by its place, and the fault
abbrev pub stop_at : ℕ → Option TableFault → Option TableStop → Option TableStop
stop_at i None others = others
stop_at i (Some fault) others = Some (Fault i fault)

abbrev pub first_stop : (ℕ → Option TableFault) → List ℕ → Option TableStop
first_stop fault_of [] = None
first_stop fault_of (i ∷ is) = stop_at i (fault_of i) (first_stop fault_of is)

-- the first fault of the tables of a machine
abbrev pub table_stop : ShapeNumbers → List Table → Option TableStop
table_stop n tables = first_stop (λ i. board_fault n tables (board_at n i)) (range_with_len 0 (board_count n))

-- the stop is the first fault, unless memory ran out
abbrev pub IsStop : TableStop → Option TableStop → Type 0
IsStop Memory first = Unit {0}
IsStop (Fault board fault) first = first ≡ Some (Fault board fault)

-- what a check answers: there is no fault, and the tables are accepted; or the first fault
abbrev pub Checks : Result Unit TableStop → ShapeNumbers → List Table → Type 0
Checks (Ok done) n tables = (table_stop n tables ≡ None) × Accepted n tables
Checks (Err stop) n tables = IsStop stop (table_stop n tables)
