use Rattle.std.proofs.Common.{◌≡◌, ◌++◌, map, drop}
use Rattle.tn_follow.specs.declared.sighting.Sighting.TheVariants as sighting
use Rattle.tn_follow.proofs.follow.push_handed.Given as goal

abbrev pub invariant-loop-receiver : goal.invariant-loop-receiver
invariant-loop-receiver l = l.all.items ++ map (λ r. sighting.Handed l.event r) (drop l.receiver-index l.receivers) ≡ l.initial.all.items ++ map (λ r. sighting.Handed l.event r) l.receivers
