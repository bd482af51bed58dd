use Rattle.tn_tile.proofs.Turns.{shorter_turn}
use Rattle.tn_tile.proofs.laws.law_turns.Goals as goal

pub returns : goal.returns
returns c = λ n m some low high. shorter_turn c.args.tile.now.plan c.args.t.0 n m c.args.tile.now.now some low high
