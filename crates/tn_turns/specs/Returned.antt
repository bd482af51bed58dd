-- What seats are as a table of turns is closed.
use Rattle.std.specs.Prelude.{◌≡◌, ℕ, List}
use mathlib.Core.Option.{some}
use lib.ListN.{get_elem?}
use Rattle.atomic_table.specs.Seated.{TableId}
use Rattle.tn_turns.specs.declared.seats.TurnSeat.{TurnSeat}
use Rattle.tn_turns.specs.Outs.{LacksAll}
use Rattle.tn_turns.specs.Rule.{seat_of}

-- each seat is of this table, has its place as its number, and has no turn
abbrev pub AllReturned : {T : Type 0} → TableId → List (TurnSeat T) → Type 0
AllReturned {T} id seats = (k : ℕ) (s : TurnSeat T) → get_elem? seats k ≡ some s → (s.seat.table_id ≡ id) × (s.number ≡ k) × LacksAll (seat_of s.seat.me.0).outs
