use Rattle.std.proofs.Common.{ℕ, ◌<◌, ◌≡◌, false}
use Rattle.tn_rest.specs.Quiet.{IsCalm, notes_of, reported}
use Rattle.tn_rest.proofs.audit.is_verified.Given as goal

abbrev pub invariant-loop-k : goal.invariant-loop-k
invariant-loop-k g l = record {
  calm : (k : ℕ) → k < l.k → IsCalm ((g.M.Machine.seen l.machine).part k) (reported (g.M.Machine.seen l.machine) k);
  white : (k : ℕ) → k < l.k → ((g.M.Machine.seen l.machine).part k).view.black ≡ false;
  so_far : l.noted ≡ notes_of (g.M.Machine.seen l.machine).part l.k;
}
