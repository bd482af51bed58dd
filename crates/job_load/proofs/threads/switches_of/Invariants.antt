use Rattle.std.proofs.Common.{◌≡◌, ◌++◌, drop, map}
use Rattle.job_load.proofs.threads.switches_of.Given as goal

abbrev pub invariant-loop-seat : goal.invariant-loop-seat
invariant-loop-seat l = l.switches.items ++ map (λ s. s.switch) (drop l.seat-index l.seats) ≡ map (λ s. s.switch) l.seats
