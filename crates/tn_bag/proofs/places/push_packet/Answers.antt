use Rattle.std.proofs.Common.{◌∙◌, ◌≡◌, ◌++◌, Bor, List, Option, ap, map, subst, sym}
use Rattle.std.specs.Prelude.{OnOk, option_copied}
use Rattle.tn_base.specs.declared.message.Letter.{Letter}
use Rattle.tn_base.specs.declared.message.Packet.{Packet}
use Rattle.tn_letters.specs.declared.place.Place.{Place}
use Rattle.tn_letters.specs.Letters.{board_of, letters_from}
use Rattle.tn_letters.specs.Standing.{waiting}
use Rattle.tn_letters.specs.Tiles.{reach_of}
use Rattle.tn_bag.proofs.places.push_packet.Goals as goal

pub returns : goal.returns
returns g c =
    let p = c.in-Some.packet.now in
    let on = reach_of c.args.world.now in
    subst (λ (ys : List (Place × Letter)). OnOk c.push_letters.result (c.push_letters.new.all.items ≡ c.args.all.now.items ++ ys))
    (ap (λ (xs : List Letter). map (λ l. (c.args.place, l)) xs) (c.deref.ensures.value ∙ (c.in_ok-letters.ensures
    ∙ (ap (λ b. letters_from b c.shape.result on p.origin p.number p.dest p.bytes) c.board_of-board.ensures.value
    ∙ ap (λ n. letters_from (board_of p.origin) n on p.origin p.number p.dest p.bytes) c.shape.ensures)))
    ∙ ap (λ (o : Option (Bor Packet)). waiting c.args.tile.now.plan.shape on c.args.place (option_copied o)) (sym c.in-Some.is))
    c.push_letters.ensures
