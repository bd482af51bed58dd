use Rattle.std.proofs.Common.{rules, get_or, ◌≡◌, ◌∙◌, ◌++◌, ◌∷◌, ◌==◌, ◌≤◌, ◌<◌, [], length, refl, ap, sym}
use Rattle.std.specs.Int.{bit_at}
use Rattle.std.proofs.lemmas.List.{append-nil, get_or_default}
use Rattle.tn_base.specs.Address.{in_tile, tile_threads}
use Rattle.tn_slots.specs.declared.slot.Slot.{Slot}
use Rattle.tn_slots.specs.Pool.{slot_at}
use Rattle.tn_slots.specs.Slot.{empty_slot}
use Rattle.tn_letters.specs.declared.place.Place.TheVariants as place
use Rattle.tn_letters.specs.Standing.{owed_to}
use Rattle.tn_letters.specs.Tiles.{letter_in}
use Rattle.tn_bag.proofs.Loops.{at_end, bit_is, bit_not, more_no, more_yes}
use Rattle.tn_bag.proofs.Made.{none_owed, owed_made}
use Rattle.tn_bag.proofs.places.push_owed.Goals as goal
use Rattle.tn_bag.proofs.places.push_owed.Goals.{then-has+in_ok-push, else-has}

pub returns-in_default : goal.returns-in_default
returns-in_default c = sym (ap (λ xs. c.args.all.now.items ++ xs) (none_owed c.args.tile.now c.args.slot (sym c.sender.ensures ∙ c.in_default.is)) ∙ append-nil c.args.all.now.items)

pub loop-place-preserved : goal.loop-place-preserved
loop-place-preserved c =
    let v = c.args.tile.now in
    let k = c.loop-place.place in
    let s = c.args.slot in
    let h : k < tile_threads v.plan.shape = search rules in
    let slots : c.slots.result.now ≡ v.now.pool.slots = c.slots.ensures ∙ ap (λ p. p.slots) c.pool.ensures in
    let within : s < length c.slots.result.now = rw slots c.requires in
    let found : c.index-slots-slot.result ≡ slot_at v.now.pool s = c.index-slots-slot.is ∙ (get_or_default c.slots.result.now s _ empty_slot within ∙ ap (λ xs. get_or xs s empty_slot) slots) in
    let bit = ap (λ (x : Slot). bit_at x.owed k == 1) found in
    elim c.if-has.branch [
      | then-has+in_ok-push w ↦
          more_yes (owed_to v s) k (tile_threads v.plan.shape) c.loop-place.all.items c.if-has.all.items (bit_at (slot_at v.now.pool s).owed k == 1) (place.Slot (record { 0 = v.plan.tile }) s (record { 0 = in_tile v.plan.shape v.plan.tile k }), letter_in v k s) h
          (ap (λ x. x.items) w.all-is ∙ (w.in_ok-push.ensures.items ∙ ap (λ x. c.loop-place.all.items ++ x ∷ [])
          (owed_made v s k w.name-then-has.result.0 w.thread_in_tile-thread.result.0 c.in-Some.origin c.in-Some.number w.copy.result (sym c.sender.ensures ∙ c.in-Some.is) (w.copy.ensures ∙ ap (λ (x : Slot). x.bytes) found) w.name-then-has.ensures
          (w.thread_in_tile-thread.ensures.address ∙ (ap (λ n. in_tile n w.name.result.0 k) w.shape-then-has.ensures ∙ ap (λ t. in_tile v.plan.shape t k) w.name.ensures)))))
          refl (sym bit ∙ bit_is c.has.result (bit_at c.index-slots-slot.result.owed k) c.has.ensures w.if-has.true)
          ∙ c.loop-place.invariant
      | else-has w ↦
          more_no (owed_to v s) k (tile_threads v.plan.shape) c.loop-place.all.items c.if-has.all.items (bit_at (slot_at v.now.pool s).owed k == 1) (place.Slot (record { 0 = v.plan.tile }) s (record { 0 = in_tile v.plan.shape v.plan.tile k }), letter_in v k s) h
          (ap (λ x. x.items) w.all-is)
          refl (sym bit ∙ bit_not c.has.result (bit_at c.index-slots-slot.result.owed k) c.has.ensures w.if-has.false)
          ∙ c.loop-place.invariant
    ]

pub returns : goal.returns
returns c =
    let h : tile_threads c.args.tile.now.plan.shape ≤ c.loop-place.place = search rules in
    at_end (owed_to c.args.tile.now c.args.slot) c.loop-place.place (tile_threads c.args.tile.now.plan.shape) c.loop-place.all.items _ h c.loop-place.invariant
