use Rattle.std.proofs.Common.{rules}
use Rattle.tn_turns.specs.Rule.{seat_of}
use Rattle.tn_turns.proofs.Kept.{lifts}
use Rattle.tn_turns.proofs.seats.TurnBoard.put.Goals as goal

pub load-requires : goal.load-requires
load-requires g c = let r = c.requires in (search rules, search rules, lifts g.T.Item.start g.T.Item.journal _ _ _ _ _ (seat_of c.args.seat.now.me.0) r.out.0 _ r.held.0 r.held.1 r.out.1)
