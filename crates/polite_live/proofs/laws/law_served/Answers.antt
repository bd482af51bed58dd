use Rattle.polite_live.proofs.Served.{full_tiles_step}
use Rattle.polite_live.proofs.laws.law_served.Goals as goal

pub returns : goal.returns
returns c = full_tiles_step
