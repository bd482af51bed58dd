use Rattle.std.proofs.Common.{◌≡◌, ◌++◌, drop}
use Rattle.job_faults.proofs.tables.copy_beats.Given as goal

abbrev pub invariant-loop-beat : goal.invariant-loop-beat
invariant-loop-beat l = l.copies.items ++ drop l.beat-index l.beats ≡ l.beats
