use Rattle.std.proofs.Common.{◌≡◌, ◌++◌}
use Rattle.tn_base.specs.Parts.{tile_at, tile_count}
use Rattle.job_faults.specs.Code.{code_of, is_empty, lacks_code}
use Rattle.job_faults.proofs.Ranges.{any_from}
use Rattle.job_faults.proofs.code.lacks_code.Given as goal

abbrev pub invariant-loop-i : goal.invariant-loop-i
invariant-loop-i l = any_from (λ i. is_empty (code_of (l.codes ++ l.asms) (tile_at l.shape i))) l.i (tile_count l.shape) ≡ lacks_code l.shape (l.codes ++ l.asms)
