use Rattle.std.proofs.Common.{◌≡◌}
use Rattle.tn_part.specs.Sites.{sites_to}
use Rattle.tn_part.proofs.site.sites_of.Given as goal

abbrev pub invariant-loop-p : goal.invariant-loop-p
invariant-loop-p l = l.all.items ≡ sites_to l.shape l.p
