-- What contracts say of turns and their seats.
use Rattle.std.specs.Prelude.{ℕ, List, Option}
use Rattle.atomic_table.specs.Seated.{TableId}
use Rattle.tn_turns.specs.declared.seats.TurnSeat.{TurnSeat}
use Rattle.tn_turns.specs.declared.seats.TurnBoard.{TurnBoard}
use Rattle.tn_turns.specs.declared.seats.Turns.{Turns}
use Rattle.tn_turns.specs.Rule.{seat_of}

-- the table that the seat was given for
abbrev pub seat_table : {T : Type 0} → TurnSeat T → TableId
seat_table s = s.seat.table_id

-- how many seats were given before it
abbrev pub number_of : {T : Type 0} → TurnSeat T → ℕ
number_of s = s.number

-- at each turn that the seat has, the item as it was taken
abbrev pub outs_of : {T : Type 0} → TurnSeat T → List (Option T)
outs_of s = (seat_of s.seat.me.0).outs

-- how many of its takes found the turn with another seat
abbrev pub missed_of : {T : Type 0} → TurnSeat T → ℕ
missed_of s = (seat_of s.seat.me.0).missed

abbrev pub board_table : {T St : Type 0} → TurnBoard T St → TableId
board_table b = b.table.shared.table_id

-- the items that the turns began with
abbrev pub firsts : {T St : Type 0} → TurnBoard T St → List T
firsts b = b.table.shared.key.value.items

abbrev pub board_of : {T St : Type 0} → Turns T St → TurnBoard T St
board_of t = t.board

-- how many seats were given
abbrev pub given_of : {T St : Type 0} → Turns T St → ℕ
given_of t = t.given
