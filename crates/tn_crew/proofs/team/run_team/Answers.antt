use Rattle.std.proofs.Common.{subst, sym}
use Rattle.tn_crew.proofs.team.run_team.Goals as goal
use Rattle.tn_turns.specs.Returned.{AllReturned}
use Rattle.tn_turns.specs.Words.{board_table}

pub close-requires-clause-seats : goal.close-requires-clause-seats
close-requires-clause-seats g c = subst (λ b. AllReturned (board_table b) c.run_on_seats-seats.result.items) (sym c.run_on_seats-seats.ensures.board) c.run_on_seats-seats.ensures.seats
