use Rattle.std.proofs.Common.{ℕ, ◌<◌, ◌≤◌, ◌≡◌, false}
use Rattle.tn_rest.proofs.audit.has_black.Given as goal

abbrev pub invariant-loop-k : goal.invariant-loop-k
invariant-loop-k g l = (k : ℕ) → l.from ≤ k → k < l.k → ((g.M.Machine.seen l.machine).part k).view.black ≡ false
