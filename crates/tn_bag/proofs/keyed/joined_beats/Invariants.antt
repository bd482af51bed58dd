use Rattle.std.proofs.Common.{◌≡◌, ◌++◌, drop, take}
use Rattle.tn_keys.specs.Tables.{joined}
use Rattle.tn_bag.proofs.keyed.joined_beats.Given as goal

abbrev pub invariant-loop-i : goal.invariant-loop-i
invariant-loop-i l = l.all.items ++ joined (drop l.i (take l.end l.router.plan.beats)) ≡ joined (drop l.from (take l.end l.router.plan.beats))
