use Rattle.std.proofs.Common.{◌≡◌, drop, take}
use Rattle.tn_router.specs.Rest.{first_full}
use Rattle.tn_router.proofs.places.first_full.Given as goal

abbrev pub invariant-loop-i : goal.invariant-loop-i
invariant-loop-i l = first_full l.i (drop l.i (take l.end l.beats)) ≡ first_full l.from (drop l.from (take l.end l.beats))
