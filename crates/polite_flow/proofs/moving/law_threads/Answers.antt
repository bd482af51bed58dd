use Rattle.polite_flow.proofs.Threading.{tiles_move}
use Rattle.polite_flow.proofs.moving.law_threads.Goals as goal

pub returns : goal.returns
returns c = tiles_move
