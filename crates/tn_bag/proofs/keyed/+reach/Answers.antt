use Rattle.std.proofs.Common.{rules, ◌∙◌, ◌≡◌, ◌++◌, map, subst}
use Rattle.std.specs.Prelude.{OnOk}
use Rattle.tn_letters.specs.Letters.{letter_for}
use Rattle.tn_letters.specs.Tiles.{tables_of}
use Rattle.tn_bag.proofs.Copying.{no_keys, one_key}
use Rattle.tn_bag.proofs.keyed.+reach.Goals as goal

pub push_key-returns-then-keys-eq0 : goal.push_key-returns-then-keys-eq0
push_key-returns-then-keys-eq0 g t c =
    no_keys c.args.all.now.items (letter_for c.args.packet.now.origin c.args.packet.now.number) c.args.keys c.args.world.now.shape (tables_of c.args.world.now) c.args.packet.now.bytes c.args.board c.args.key.0 (search rules)

pub push_key-returns : goal.push_key-returns
push_key-returns g t c =
    subst (λ xs. OnOk c.push_records.result (c.push_records.new.all.items ≡ c.args.all.now.items ++ map (letter_for c.args.packet.now.origin c.args.packet.now.number) xs))
    (one_key c.args.keys c.args.world.now.shape c.shape.result.now (tables_of c.args.world.now) c.args.packet.now.bytes c.args.board c.args.key.0 c.deref.result.now c.shape.ensures (search rules) (c.deref.ensures.value ∙ c.in_ok-records.ensures)) c.push_records.ensures
