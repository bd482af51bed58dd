use Rattle.std.proofs.Common.{◌≡◌, take}
use Rattle.tn_router.proofs.plan.copy_beats.Given as goal

abbrev pub invariant-loop-beat : goal.invariant-loop-beat
invariant-loop-beat l = l.all.items ≡ take l.beat-index l.beats.items
