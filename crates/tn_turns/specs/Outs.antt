-- The turns that a seat has.
use Rattle.std.specs.Prelude.{◌≡◌, ◌≢◌, ℕ, List, Option, Some}
use mathlib.Core.Option.{some}
use lib.ListN.{get_elem?}

module _ {T : Type 0} (outs : List (Option T)) where
  -- the seat has the turn i, and took the item x with it
  abbrev pub HasTurn : ℕ → T → Type 0
  HasTurn i x = get_elem? outs i ≡ some (Some x)

  abbrev pub LacksTurn : ℕ → Type 0
  LacksTurn i = (x : T) → get_elem? outs i ≢ some (Some x)

  abbrev pub LacksAll : Type 0
  LacksAll = (i : ℕ) (x : T) → get_elem? outs i ≢ some (Some x)
