use Rattle.polite_flow.proofs.Unjammed.{each_moment}
use Rattle.polite_flow.proofs.moving.law_unjammed.Goals as goal

pub returns : goal.returns
returns c = each_moment
