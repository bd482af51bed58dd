use Rattle.std.proofs.Common.{◌≡◌, ◌<◌, ℕ}
use Rattle.tn_detect.specs.Reports.{report_at}
use Rattle.tn_detect.proofs.reports.Reports.same.Given as goal

abbrev pub invariant-loop-i : goal.invariant-loop-i
invariant-loop-i l = (k : ℕ) → k < l.i → report_at l.self k ≡ report_at l.other k
