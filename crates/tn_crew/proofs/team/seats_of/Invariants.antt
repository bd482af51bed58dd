use Rattle.std.proofs.Common.{◌≡◌, length}
use Rattle.std.specs.Vec.{vec_capacity}
use Rattle.tn_crew.proofs.team.seats_of.Given as goal
use Rattle.tn_turns.specs.Returned.{AllReturned}
use Rattle.tn_turns.specs.Words.{board_of, board_table, given_of}

abbrev pub invariant-loop : goal.invariant-loop
invariant-loop l = record {
  table : board_of l.turns ≡ board_of l.fn.turns;
  seats : AllReturned (board_table (board_of l.turns)) l.seats.items;
  count : length l.seats.items ≡ l.counter;
  given : given_of l.turns ≡ l.counter;
  room : vec_capacity l.seats ≡ vec_capacity l.fn.seats;
}
