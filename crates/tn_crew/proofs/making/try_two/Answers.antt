use Rattle.tn_crew.proofs.Rooms.{room_together}
use Rattle.tn_crew.proofs.making.try_two.Goals as goal

pub returns-in-Ok-Nothing-clause-grow : goal.returns-in-Ok-Nothing-clause-grow
returns-in-Ok-Nothing-clause-grow c =
    room_together c.args.low.now c.args.high.now c.has_room.new.part c.has_room-2.new.part c.two.new.self c.two.new.high c.has_room.ensures.same c.has_room.ensures.stays c.has_room-2.ensures.same c.has_room-2.ensures.stays c.two.ensures.grow
