use Rattle.std.proofs.Common.{◌≡◌, ◌++◌, drop}
use Rattle.std.specs.List.{flat_map}
use Rattle.tn_letters.specs.Standing.{transit_by}
use Rattle.tn_letters.specs.Tiles.{reach_of}
use Rattle.tn_bag.proofs.places.push_transit.Given as goal

abbrev pub invariant-loop-way : goal.invariant-loop-way
invariant-loop-way g l =
    l.all.items ++ flat_map (transit_by (reach_of l.world) l.p l.tile) (drop l.way-index l.ways)
    ≡ l.initial.all.items ++ flat_map (transit_by (reach_of l.world) l.p l.tile) l.ways
