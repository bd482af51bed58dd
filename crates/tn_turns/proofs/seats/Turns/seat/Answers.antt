use Rattle.std.proofs.Common.{rules}
use Rattle.tn_turns.proofs.Kept.{splits}
use Rattle.tn_turns.proofs.seats.Turns.seat.Goals as goal

pub split_seat-seat-requires : goal.split_seat-seat-requires
split_seat-seat-requires g c = (search rules, search rules, splits g.T.Item.start g.T.Item.journal _ _ _ _ c.args.self.now.held)
