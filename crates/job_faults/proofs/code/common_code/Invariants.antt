use Rattle.std.proofs.Common.{◌≡◌, drop}
use Rattle.job_faults.specs.Code.{is_all, words_by}
use Rattle.job_faults.proofs.code.common_code.Given as goal

abbrev pub invariant-loop-section : goal.invariant-loop-section
invariant-loop-section l = words_by is_all (drop l.section-index l.sections) ≡ words_by is_all l.sections
