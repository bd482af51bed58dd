use Rattle.std.proofs.Common.{◌≡◌}
use Rattle.tn_crew.proofs.worker.work_on.Given as goal
use Rattle.tn_turns.specs.Ready.{IsReady}
use Rattle.tn_turns.specs.Words.{board_table, number_of}

abbrev pub invariant-loop : goal.invariant-loop
invariant-loop g l = record {
  ready : IsReady (board_table l.board) l.seat;
  number : number_of l.seat ≡ number_of l.fn.seat;
}
