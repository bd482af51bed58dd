use Rattle.std.proofs.Common.{◌∙◌, ◌≡◌, ◌++◌, Bor, List, Option, ap, subst, sym}
use Rattle.std.specs.Prelude.{OnOk, option_copied}
use Rattle.tn_base.specs.declared.message.Letter.{Letter}
use Rattle.tn_base.specs.declared.message.Packet.{Packet}
use Rattle.tn_node.specs.PortRows.{at}
use Rattle.tn_letters.specs.declared.place.Place.{Place}
use Rattle.tn_letters.specs.Tiles.{reach_of}
use Rattle.tn_bag.proofs.Waits.{leaving_letters}
use Rattle.tn_bag.proofs.router.push_leaving.Goals as goal

pub returns : goal.returns
returns g c =
    subst (λ (ys : List (Place × Letter)). OnOk c.push_letters.result (c.push_letters.new.all.items ≡ c.args.all.now.items ++ ys))
    (leaving_letters (reach_of c.args.world.now) c.args.p c.args.router.now c.args.way c.in-Some.packet.now (at c.args.way c.args.router.now.now.node.out) c.deref.result.now
    (sym c.buffer.ensures ∙ ap (λ (o : Option (Bor Packet)). option_copied o) c.in-Some.is) (c.deref.ensures.value ∙ c.in_ok-letters.ensures)) c.push_letters.ensures
