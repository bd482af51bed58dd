use Rattle.std.proofs.Common.{true, ◌≡◌, ◌++◌, drop}
use Rattle.std.specs.List.{list_all}
use Rattle.polite_routes.specs.Pack.{is_alone}
use Rattle.polite_routes.specs.Tree.{rrs}
use Rattle.polite_routes.proofs.tree.push_children.Given as goal

abbrev pub invariant-loop-child : goal.invariant-loop-child
invariant-loop-child l = record {
  added : l.records.items ++ rrs (drop l.child-index l.children) ≡ l.fn.records.items ++ rrs l.children;
  alone : list_all is_alone l.records.items ≡ true;
}
