use Rattle.std.proofs.Common.{true, ◌≡◌}
use Rattle.std.specs.List.{list_all}
use Rattle.polite_routes.specs.Pack.{is_alone}
use Rattle.polite_routes.specs.Tree.{mrms}
use Rattle.polite_routes.proofs.tree.tree_records.Given as goal

abbrev pub invariant-loop-tile : goal.invariant-loop-tile
invariant-loop-tile l = record {
  added : l.records.items ≡ mrms l.spots l.fn.board l.tile;
  alone : list_all is_alone l.records.items ≡ true;
}
