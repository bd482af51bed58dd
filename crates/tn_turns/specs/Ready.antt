-- A seat between two events.
use Rattle.std.specs.Prelude.{◌≡◌}
use Rattle.atomic_table.specs.Seated.{TableId}
use Rattle.tn_turns.specs.declared.seats.TurnSeat.{TurnSeat}
use Rattle.tn_turns.specs.Outs.{LacksAll}
use Rattle.tn_turns.specs.Words.{outs_of, seat_table}

-- a seat of this table that has no turn
abbrev pub IsReady : {T : Type 0} → TableId → TurnSeat T → Type 0
IsReady id seat = (seat_table seat ≡ id) × LacksAll (outs_of seat)
