use Rattle.std.proofs.Common.{◌≡◌, ◌++◌, length}
use Rattle.tn_letters.specs.Standing.{link_standing}
use Rattle.tn_letters.specs.Tiles.{reach_of}
use Rattle.tn_bag.proofs.Loops.{from_on}
use Rattle.tn_bag.proofs.Spelled.{crossings}
use Rattle.tn_bag.proofs.places.push_link.Given as goal

abbrev pub invariant-loop-i : goal.invariant-loop-i
invariant-loop-i g l = l.all.items ++ from_on (crossings l.world.shape (reach_of l.world) l.p (g.L.Link.content l.link)) l.i (length (g.L.Link.content l.link).packets) ≡ l.initial.all.items ++ link_standing l.world.shape (reach_of l.world) l.p (g.L.Link.content l.link)
