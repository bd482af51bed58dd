use Rattle.std.proofs.Common.{subst}
use Rattle.tn_rows.proofs.Ways.{Behind}
use Rattle.tn_stamped.proofs.Joined.{joined}
use Rattle.tn_stamped.proofs.doing.do_two.Goals as goal

pub two-requires-clause-joined : goal.two-requires-clause-joined
two-requires-clause-joined g c = joined c.args.sites.now c.args.e.now c.in-Some.at c.args.low.now.present c.args.high.now.present (subst Behind c.shape.ensures c.law_links.ensures) c.in-Some.ensures c.requires.fits
