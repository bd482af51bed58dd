use Rattle.std.proofs.Common.{ℕ, ◌<◌}
use Rattle.tn_rest.specs.Quiet.{report_of}
use Rattle.tn_rest.specs.Tests.{Fits}
use Rattle.tn_rest.proofs.audit.all_fit.Given as goal

abbrev pub invariant-loop-k : goal.invariant-loop-k
invariant-loop-k g l = (k : ℕ) → k < l.k → Fits (g.M.Machine.seen l.machine).detector.phase k ((g.M.Machine.seen l.machine).part k) (report_of (g.M.Machine.seen l.machine) k)
