use Rattle.std.proofs.Common.{rules, ◌∙◌, ◌≡◌, ap, false, refl, sym}
use Rattle.tn_keys.specs.Copies.{led, onto}
use Rattle.tn_router.specs.Kept.{is_keyed}
use Rattle.tn_router.specs.Left.{board_on, reached}
use Rattle.tn_letters.specs.Letters.{letter_for}
use Rattle.tn_letters.specs.Tiles.{reach_of}
use Rattle.tn_bag.proofs.Waits.{from_none, led_off, led_on}
use Rattle.tn_bag.proofs.router.letters_out.Goals as goal
use Rattle.tn_bag.proofs.router.letters_out.Goals.{in-Key+in-Some+in_ok-push_key-in-Key, in-Key+in_default, in-Thread+in_ok-push_whole-in-Thread}

pub returns : goal.returns
returns g c =
    let v = c.args.router.now in
    let p = c.args.packet.now in
    elim c.match-packet.branch [
      | in-Key+in-Some+in_ok-push_key-in-Key w ↦
          ap (λ x. x.items) w.all-is ∙ from_none w.push_key.new.all.items c.new-all.result.items _ _ c.new-all.ensures.items w.in_ok-push_key-in-Key.ensures
          (led_on (letter_for p.origin p.number) c.args.world.now v.plan.shape v.plan.board w.in-Some.next c.args.way p w.in-Key.key w.in-Key.is (sym w.board_on.ensures.value ∙ w.in-Some.is))
      | in-Key+in_default w ↦
          ap (λ x. x.items) w.all-is ∙ (c.new-all.ensures.items
          ∙ led_off (letter_for p.origin p.number) c.args.world.now v.plan.shape v.plan.board c.args.way p w.in-Key.key w.in-Key.is (sym w.board_on.ensures.value ∙ w.in_default.is))
      | in-Thread+in_ok-push_whole-in-Thread w ↦
          let plain : is_keyed p.dest ≡ false = search rules in
          ap (λ x. x.items) w.all-is ∙ from_none w.push_whole.new.all.items c.new-all.result.items _ _ c.new-all.ensures.items
          (w.in_ok-push_whole-in-Thread.ensures (λ key. led (reached (reach_of c.args.world.now) p.bytes) (onto key (board_on v.plan.shape v.plan.board c.args.way))) plain) refl
    ]
