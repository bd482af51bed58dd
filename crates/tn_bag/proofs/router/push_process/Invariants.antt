use Rattle.std.proofs.Common.{◌≡◌, ◌++◌, drop}
use Rattle.std.specs.List.{flat_map}
use Rattle.tn_letters.specs.Standing.{work_by}
use Rattle.tn_letters.specs.Tiles.{reach_of}
use Rattle.tn_bag.proofs.router.push_process.Given as goal

abbrev pub invariant-loop-side : goal.invariant-loop-side
invariant-loop-side g l =
    l.all.items ++ flat_map (work_by (reach_of l.world) l.p l.router) (drop l.side-index l.sides)
    ≡ l.initial.all.items ++ flat_map (work_by (reach_of l.world) l.p l.router) l.sides
