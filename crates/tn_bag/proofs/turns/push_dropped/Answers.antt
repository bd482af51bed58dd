use Rattle.std.proofs.Common.{rules, ◌≡◌, ◌<◌, ◌∙◌, ap, sym, subst, length, is_some, get_or, Some}
use Rattle.tn_base.specs.Address.{place_in_tile}
use Rattle.tn_slots.specs.Pool.{message_at, queue_at, taken}
use Rattle.tn_slots.specs.Queues.{first_of}
use Rattle.tn_slots.specs.WellKept.{WellKept}
use Rattle.tn_letters.specs.Tiles.{letter_in}
use Rattle.tn_bag.proofs.Spelled.{first_left, next_left, one_dropped, place_in, queued_used, taken_queue, same_some}
use Rattle.tn_bag.proofs.turns.push_dropped.Goals as goal

pub unwrap-slot-requires : goal.unwrap-slot-requires
unwrap-slot-requires c =
    let v = c.args.tile.now in
    let place : c.place_in_tile-place.result ≡ place_in_tile v.plan.shape c.args.t.0 = c.place_in_tile-place.ensures.value ∙ ap (λ n. place_in_tile n c.args.t.0) c.shape.ensures in
    let pool : c.in_ok-pool.pool ≡ v.now.pool = c.in_ok-pool.ensures ∙ c.pool-2.ensures in
    let count : c.queue_len-count.result ≡ length (queue_at v.now.pool (place_in_tile v.plan.shape c.args.t.0)) = c.queue_len-count.ensures ∙ (ap (λ p. length (queue_at p c.place_in_tile-place.result)) pool ∙ ap (λ k. length (queue_at v.now.pool k)) place) in
    ap is_some (first_left v.now.pool c.loop-taken.pool _ c.place_in_tile-place.result c.loop-taken._taken c.queue_len-count.result c.take.result c.loop-taken.invariant.0 place (search rules) count c.take.ensures.first)

pub letter_in-letter-requires-clause-used : goal.letter_in-letter-requires-clause-used
letter_in-letter-requires-clause-used c =
    let v = c.args.tile.now in
    let k = place_in_tile v.plan.shape c.args.t.0 in
    let place : c.place_in_tile-place.result ≡ k = c.place_in_tile-place.ensures.value ∙ ap (λ n. place_in_tile n c.args.t.0) c.shape.ensures in
    let pool : c.in_ok-pool.pool ≡ v.now.pool = c.in_ok-pool.ensures ∙ c.pool-2.ensures in
    let count : c.queue_len-count.result ≡ length (queue_at v.now.pool k) = c.queue_len-count.ensures ∙ (ap (λ p. length (queue_at p c.place_in_tile-place.result)) pool ∙ ap (λ k. length (queue_at v.now.pool k)) place) in
    let less : c.loop-taken._taken < c.queue_len-count.result = search rules in
    let first = first_left v.now.pool c.loop-taken.pool k c.place_in_tile-place.result c.loop-taken._taken c.queue_len-count.result c.take.result c.loop-taken.invariant.0 place less count c.take.ensures.first in
    let slot : c.unwrap-slot.result ≡ get_or (queue_at v.now.pool k) c.loop-taken._taken 0 = same_some _ _ (sym c.unwrap-slot.ensures ∙ first) in
    ap (λ s. is_some (message_at v.now.pool s)) slot
    ∙ queued_used v.now.pool k c.loop-taken._taken 0 (subst WellKept c.pool.ensures c.kept-2.ensures) (place_in v c.args.t.0 c.kept.ensures c.requires) (subst (λ n. c.loop-taken._taken < n) count less)

pub loop-taken-preserved : goal.loop-taken-preserved
loop-taken-preserved c =
    let v = c.args.tile.now in
    let k = place_in_tile v.plan.shape c.args.t.0 in
    let place : c.place_in_tile-place.result ≡ k = c.place_in_tile-place.ensures.value ∙ ap (λ n. place_in_tile n c.args.t.0) c.shape.ensures in
    let pool : c.in_ok-pool.pool ≡ v.now.pool = c.in_ok-pool.ensures ∙ c.pool-2.ensures in
    let count : c.queue_len-count.result ≡ length (queue_at v.now.pool k) = c.queue_len-count.ensures ∙ (ap (λ p. length (queue_at p c.place_in_tile-place.result)) pool ∙ ap (λ k. length (queue_at v.now.pool k)) place) in
    let less : c.loop-taken._taken < c.queue_len-count.result = search rules in
    let within : c.loop-taken._taken < length (queue_at v.now.pool k) = subst (λ n. c.loop-taken._taken < n) count less in
    let after : c.take.new.self ≡ taken k c.loop-taken.pool = c.take.ensures.after ∙ ap (λ j. taken j c.loop-taken.pool) place in
    let below = place_in v c.args.t.0 c.kept.ensures c.requires in
    let here : k < length c.loop-taken.pool.queues = subst (λ n. k < n) (sym c.loop-taken.invariant.0.threads) below in
    let first : first_of (queue_at c.loop-taken.pool k) ≡ Some c.unwrap-slot.result = sym (c.take.ensures.first ∙ ap (λ j. first_of (queue_at c.loop-taken.pool j)) place) ∙ c.unwrap-slot.ensures in (
      next_left v.now.pool c.loop-taken.pool c.take.new.self k c.loop-taken._taken c.loop-taken.invariant.0 below within after,
      one_dropped (letter_in v k) (queue_at c.loop-taken.pool k) (queue_at c.take.new.self k) c.unwrap-slot.result c.letter_in-letter.result c.loop-taken.all.items c.push.new.self.items
          (taken_queue c.loop-taken.pool c.take.new.self k c.unwrap-slot.result here first after) c.in_ok-push.ensures.items c.letter_in-letter.ensures
          ∙ c.loop-taken.invariant.1,
    )
