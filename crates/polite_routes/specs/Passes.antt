-- Tables that pass each test but that of width.
use Rattle.std.specs.Prelude.{ℕ, ◌≡◌, ◌<◌, List, length}
use Rattle.std.specs.declared.option.Option.{Option}
use Rattle.std.specs.declared.option.Option.TheVariants.{Some, None}
use Rattle.tn_base.specs.declared.shape.ShapeNumbers.{ShapeNumbers}
use Rattle.tn_base.specs.Parts.{board_at, board_count}
use Rattle.tn_keys.specs.declared.fault.TableFault.{TableFault}
use Rattle.tn_keys.specs.declared.fault.TableFault.TheVariants as fault
use Rattle.tn_keys.specs.Accepted.{board_fault}
use Rattle.tn_keys.specs.Tables.{Table}

-- no fault, or that a beat is too wide
abbrev pub IsWidth : Option TableFault → Type 0
IsWidth None = Unit {0}
IsWidth (Some fault.OffMachine) = ⊥
IsWidth (Some fault.BadThread) = ⊥
IsWidth (Some fault.EmptyMask) = ⊥
IsWidth (Some fault.KeyRange) = ⊥
IsWidth (Some fault.Loop) = ⊥
IsWidth (Some fault.TooWide) = Unit {0}

-- there is a table for each board, and no board has a fault but that a beat is too wide
pub record PassesButWidth (n : ShapeNumbers) (tables : List Table) : Type 0 where
  pub count : length tables ≡ board_count n
  pub faults : (i : ℕ) → i < board_count n → IsWidth (board_fault n tables (board_at n i))
