use Rattle.std.proofs.Common.{◌≡◌, ◌++◌, map, drop}
use Rattle.tn_follow.specs.declared.sighting.Sighting.TheVariants as sighting
use Rattle.tn_follow.specs.declared.spots.Spot.{Spot}
use Rattle.tn_follow.proofs.follow.push_spots.Given as goal

abbrev pub invariant-loop-spot : goal.invariant-loop-spot
invariant-loop-spot l = l.all.items ++ map (λ (s : Spot). sighting.At l.event s.place s.receiver) (drop l.spot-index l.spots) ≡ l.initial.all.items ++ map (λ (s : Spot). sighting.At l.event s.place s.receiver) l.spots
