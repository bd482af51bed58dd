use Rattle.std.proofs.Common.{ℕ, ◌≡◌, ◌<◌, [], get_or, length, map}
use Rattle.tn_base.specs.Parts.{board_at}
use Rattle.tn_keys.specs.Tables.{table_at}
use Rattle.tn_reach.specs.Marks.{next_mark}
use Rattle.tn_reach.proofs.rounds.next_marks.Given as goal

abbrev pub invariant-loop-board : goal.invariant-loop-board
invariant-loop-board l = record {
  count : length l.next.items ≡ l.board;
  each : (i : ℕ) → i < l.board → get_or l.next.items i [] ≡ map (next_mark l.measure l.shape l.marks (board_at l.shape i)) (table_at l.tables i);
}
