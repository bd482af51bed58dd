use Rattle.std.proofs.Common.{◌∙◌}
use Rattle.polite_log.proofs.Logs.{sends_counted}
use Rattle.polite_log.proofs.log.sends_of.Goals as goal

pub returns : goal.returns
returns c = c.sends.ensures ∙ sends_counted c.args.vertex c.args.deeds.now
