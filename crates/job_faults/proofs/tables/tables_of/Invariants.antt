use Rattle.std.proofs.Common.{◌≡◌, ◌-◌, ◌++◌, map}
use Rattle.std.specs.List.{range_with_len}
use Rattle.tn_base.specs.Parts.{board_at}
use Rattle.job_faults.specs.Tables.{table_for}
use Rattle.job_faults.proofs.tables.tables_of.Given as goal

abbrev pub invariant-loop-i : goal.invariant-loop-i
invariant-loop-i l =
    map (λ v. v.items) l.boards.items ++ map (λ i. table_for l.job (board_at l.job.numbers i)) (range_with_len l.i (l.count - l.i))
    ≡ map (λ i. table_for l.job (board_at l.job.numbers i)) (range_with_len 0 l.count)
