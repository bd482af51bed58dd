use Rattle.std.proofs.Common.{◌≡◌, drop}
use Rattle.job_faults.specs.Code.{is_tile, words_by}
use Rattle.job_faults.proofs.code.own_code.Given as goal

abbrev pub invariant-loop-section : goal.invariant-loop-section
invariant-loop-section l = words_by (is_tile l.tile.0) (drop l.section-index l.sections) ≡ words_by (is_tile l.tile.0) l.sections
