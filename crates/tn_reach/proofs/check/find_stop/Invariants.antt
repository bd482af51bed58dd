use Rattle.std.proofs.Common.{◌≡◌, ◌-◌, length}
use Rattle.std.specs.List.{range_with_len}
use Rattle.tn_base.specs.Parts.{board_at}
use Rattle.tn_keys.specs.Accepted.{board_fault}
use Rattle.tn_reach.specs.Check.{first_stop, table_stop}
use Rattle.tn_reach.proofs.check.find_stop.Given as goal

abbrev pub invariant-loop-place : goal.invariant-loop-place
invariant-loop-place l =
    first_stop (λ i. board_fault l.shape l.tables (board_at l.shape i)) (range_with_len l.place (length l.tables - l.place)) ≡ table_stop l.shape l.tables
