use Rattle.std.proofs.Common.{◌∙◌, ◌++◌, ap, map}
use Rattle.tn_keys.specs.Reach.{reach_by}
use Rattle.tn_letters.specs.Letters.{letter_for}
use Rattle.tn_letters.specs.Tiles.{tables_of}
use Rattle.tn_bag.proofs.Copying.{key_letters}
use Rattle.tn_bag.proofs.keyed.letters_at.Goals as goal

pub returns-in_ok-push_key-in-Key : goal.returns-in_ok-push_key-in-Key
returns-in_ok-push_key-in-Key g c =
    key_letters c.args.board c.args.shape.now c.args.world.now c.args.packet.now.origin c.args.packet.now.number c.args.packet.now.bytes c.args.packet.now.dest c.in-Key.key c.push_key.new.all.items c.in-Key.is
    (c.in_ok-push_key-in-Key.ensures ∙ ap (λ xs. xs ++ map (letter_for c.args.packet.now.origin c.args.packet.now.number) (reach_by 65 c.args.world.now.shape (tables_of c.args.world.now) c.args.packet.now.bytes c.args.board c.in-Key.key)) c.new-all.ensures.items)
