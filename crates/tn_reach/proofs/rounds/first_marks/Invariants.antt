use Rattle.std.proofs.Common.{ℕ, ◌≡◌, ◌<◌, [], get_or, length, map}
use Rattle.tn_keys.specs.Tables.{table_at}
use Rattle.tn_reach.specs.Marks.{first_mark}
use Rattle.tn_reach.proofs.rounds.first_marks.Given as goal

abbrev pub invariant-loop-board : goal.invariant-loop-board
invariant-loop-board l = record {
  count : length l.marks.items ≡ l.board;
  each : (i : ℕ) → i < l.board → get_or l.marks.items i [] ≡ map (first_mark l.measure) (table_at l.tables i);
}
