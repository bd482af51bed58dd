use Rattle.tn_tile.proofs.Handlers.{handlers_private}
use Rattle.tn_tile.proofs.laws.law_handlers.Goals as goal

pub returns : goal.returns
returns c = handlers_private
