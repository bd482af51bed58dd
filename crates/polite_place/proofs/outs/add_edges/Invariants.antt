use Rattle.std.proofs.Common.{◌≡◌, length, take}
use Rattle.polite_place.specs.Outs.{out_lists}
use Rattle.polite_place.proofs.outs.add_edges.Given as goal

abbrev pub invariant-loop-edge : goal.invariant-loop-edge
invariant-loop-edge l = l.lists ≡ out_lists (length l.fn.lists) (take l.edge-index l.edges)
