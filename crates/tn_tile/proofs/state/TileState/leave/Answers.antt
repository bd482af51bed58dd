use Rattle.std.proofs.Common.{◌≡◌, ◌∙◌, arith, length}
use Rattle.tn_slots.specs.Pool.{queue_at}
use Rattle.tn_tile.proofs.Made.{few_letters}
use Rattle.tn_tile.proofs.state.TileState.leave.Goals as goal

pub returns-clause-count : goal.returns-clause-count
returns-clause-count c =
    let gone : c.from.result ≡ length (queue_at c.args.self.now.pool c.args.place) = c.from.ensures ∙ c.leave.ensures.length in
    let letters = few_letters c.args.self.now.pool c.args.place c.kept.ensures c.requires.place in
    omega arith
