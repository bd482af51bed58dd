use Rattle.std.proofs.Common.{rules, ◌∙◌, ◌≡◌, ◌++◌, Bor, List, Option, ap, subst, true}
use Rattle.std.specs.Prelude.{OnOk, option_copied}
use Rattle.tn_base.specs.declared.message.Letter.{Letter}
use Rattle.tn_base.specs.declared.message.Packet.{Packet}
use Rattle.tn_base.specs.Message.{has_packet}
use Rattle.tn_letters.specs.declared.place.Place.{Place}
use Rattle.tn_letters.specs.Tiles.{reach_of}
use Rattle.tn_bag.proofs.Waits.{crossing_letters}
use Rattle.tn_bag.proofs.places.push_crossing.Goals as goal

pub returns : goal.returns
returns g c =
    let fits : has_packet c.shape-shape.result.now c.in-Some.packet.now ≡ true = search rules in
    subst (λ (ys : List (Place × Letter)). OnOk c.push_letters.result (c.push_letters.new.all.items ≡ c.args.all.now.items ++ ys))
    (crossing_letters c.args.world.now.shape c.shape-shape.result.now (reach_of c.args.world.now) c.args.p c.args.i c.in-Some.packet.now (option_copied c.args.packet) c.link_board.result c.deref.result.now
    c.shape-shape.ensures (ap (λ (o : Option (Bor Packet)). option_copied o) c.in-Some.is) fits c.link_board.ensures.value (c.deref.ensures.value ∙ c.in_ok-letters.ensures)) c.push_letters.ensures
