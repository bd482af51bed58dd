use Rattle.std.proofs.Common.{◌≡◌, [], map}
use Rattle.std.specs.Prelude.{replicate}
use Rattle.polite_routes.proofs.in_edges.InLists.empty.Given as goal

abbrev pub invariant-loop-local : goal.invariant-loop-local
invariant-loop-local l = map (λ v. v.items) l.lists.items ≡ replicate l._local []
