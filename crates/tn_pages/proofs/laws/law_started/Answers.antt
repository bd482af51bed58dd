use Rattle.tn_pages.proofs.Start.{started_few}
use Rattle.tn_pages.proofs.laws.law_started.Goals as goal

pub returns : goal.returns
returns c = started_few c.args.size c.args.image.now
