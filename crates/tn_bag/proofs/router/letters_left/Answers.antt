use Rattle.std.proofs.Common.{rules, ◌∙◌, ◌≡◌, ap, false, refl}
use Rattle.tn_keys.specs.Reach.{walk}
use Rattle.tn_router.specs.declared.work.Work.{Work}
use Rattle.tn_router.specs.Kept.{is_keyed}
use Rattle.tn_router.specs.Left.{reached}
use Rattle.tn_router.specs.Rest.{rest_of}
use Rattle.tn_letters.specs.Letters.{letter_for}
use Rattle.tn_letters.specs.Tiles.{reach_of}
use Rattle.tn_bag.proofs.Waits.{from_none, walked}
use Rattle.tn_bag.proofs.router.letters_left.Goals as goal
use Rattle.tn_bag.proofs.router.letters_left.Goals.{in-Key+in_ok-rest-in-Key+in_ok-push_records-in-Key, in-Thread+in_ok-push_whole-in-Thread}

pub returns : goal.returns
returns g c =
    let v = c.args.router.now in
    let work : Work = record { packet = c.args.packet.now; beat = c.args.beat; at = c.args.at } in
    elim c.match-packet.branch [
      | in-Key+in_ok-rest-in-Key+in_ok-push_records-in-Key w ↦
          ap (λ x. x.items) w.all-is ∙ from_none w.push_records.new.all.items c.new-all.result.items _ _ c.new-all.ensures.items w.in_ok-push_records-in-Key.ensures
          (walked (letter_for c.args.packet.now.origin c.args.packet.now.number) c.args.world.now v.plan.shape c.shape-shape.result v.plan.board w.board-board.result v.plan.beats work w.in-Key.key w.deref.result.now
          w.in-Key.is c.shape-shape.ensures w.board-board.ensures (w.deref.ensures.value ∙ w.in_ok-rest-in-Key.ensures))
      | in-Thread+in_ok-push_whole-in-Thread w ↦
          let plain : is_keyed c.args.packet.now.dest ≡ false = search rules in
          ap (λ x. x.items) w.all-is ∙ from_none w.push_whole.new.all.items c.new-all.result.items _ _ c.new-all.ensures.items
          (w.in_ok-push_whole-in-Thread.ensures (λ key. walk (reached (reach_of c.args.world.now) c.args.packet.now.bytes) v.plan.shape v.plan.board c.args.packet.now.bytes (rest_of v.plan.beats work)) plain) refl
    ]
