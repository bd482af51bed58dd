use Rattle.std.proofs.Common.{◌≡◌, ◌++◌, take, flat_map}
use Rattle.tn_follow.specs.Printed.{sighting_text}
use Rattle.tn_follow.proofs.print.push_sightings.Given as goal

abbrev pub invariant-loop-sighting : goal.invariant-loop-sighting
invariant-loop-sighting l = l.text.items ≡ l.initial.text.items ++ flat_map sighting_text (take l.sighting-index l.sightings)
