-- A step of a thread keeps the order.
use Rattle.std.proofs.Common.{ℕ, ◌≡◌, ◌≢◌, ◌<◌, Bool, true, refl, sym, ◌∙◌, ap, subst, inl, inr, List, [], ◌∷◌, ◌++◌, map, get_or, set, length, append-nil, ◌-◌, cond, arith, IsTrue, Option, Some, None, is_some, unwrap_or}
use Rattle.std.specs.Prelude.{is_none}
use Rattle.std.specs.List.{flat_map}
use Rattle.std.proofs.lemmas.Bool.{cases_Bool, cases_eq, ne_eqb}
use Rattle.std.proofs.lemmas.Bool.Decides.{nat_tests}
use Rattle.std.proofs.lemmas.List.{get_or-set_other, get_or-set_same}
use Rattle.tn_base.specs.declared.ids.ThreadId.{ThreadId}
use Rattle.tn_base.specs.declared.message.Dest.{Dest}
use Rattle.tn_base.specs.declared.message.Dest.TheVariants as dest
use Rattle.tn_base.specs.declared.message.Packet.{Packet}
use Rattle.tn_base.specs.declared.op.Op.{Op}
use Rattle.tn_base.specs.declared.op.Op.TheVariants as op
use Rattle.tn_base.specs.declared.shape.ShapeNumbers.{ShapeNumbers}
use Rattle.tn_base.specs.Address.{has_thread, place_in_tile, tile_of, tile_place}
use Rattle.tn_base.specs.Parts.{part_count, tile_part}
use Rattle.tn_node.specs.declared.node.Node.{Node}
use Rattle.tn_node.specs.PortRows.{at}
use Rattle.tn_rows.specs.Events.{with_part}
use Rattle.tn_rows.specs.PartView.{TileV}
use Rattle.tn_rows.specs.WorldView.{WorldView}
use Rattle.tn_slots.specs.Pool.{queue_at, taken, taken_from}
use Rattle.tn_slots.specs.PoolModel.{PoolModel}
use Rattle.tn_slots.specs.Queues.{first_of}
use Rattle.tn_tile.specs.declared.state.TileState.{TileState}
use Rattle.tn_tile.specs.Step.{acted, can_step, packet_of, pending_at, step_at_place, thread_at, with_thread}
use Rattle.tn_tile.specs.TileView.{TileView, with_now}
use Rattle.tn_letters.specs.declared.steps.BagStep.TheVariants as bag
use Rattle.tn_letters.specs.Letters.{host_address}
use Rattle.tn_letters.specs.Steps.{after_step, dropped_by, first_letter, queued, seen_at, step_by}
use Rattle.tn_letters.specs.Tiles.{letter_in, sender_at}
use Rattle.tn_letters.proofs.Lift.{GoodTile, OnPart, other_place, part_is, tile_on}
use Rattle.tn_letters.proofs.Simulate.{Place, address_is, op_fits, sizes}
use Rattle.tn_order.specs.Acting.{SendFits}
use Rattle.tn_order.specs.Acts.{Act, Sent, Handed, Dropped, sent_with}
use Rattle.tn_order.specs.History.{behind, gone_of, receiver_of, sent_of, step_acts, step_ends}
use Rattle.tn_order.specs.Kept.{IsFor, Kept}
use Rattle.tn_order.specs.Moving.{IsReceiver}
use Rattle.tn_order.specs.Net.{In, IsNet}
use Rattle.tn_order.specs.Spots.{Crosses, Item, Pending, Queue, Spot, Waits, Works, begins, items_of, numbers, queue_items, queue_part, slot_item, spot_part, standing_at, stands_in, way_of}
use Rattle.tn_order.specs.Views.{Takes}
use Rattle.tn_order.proofs.Acting.{dropped_in, gone_adds, gone_later, gone_stays, gone_step, more_gone, sent_adds, sent_stays}
use Rattle.tn_order.proofs.PartViews.{tile_pending, tile_queue}
use Rattle.tn_order.proofs.Passing.{begin, clear, part_with, stay}
use Rattle.tn_order.proofs.Stamps.{stamps}
use Rattle.tn_order.proofs.Steps.{Gets, Gives, gets_puts, gives_takes}
use Rattle.tn_order.proofs.Tiles.{lift_same_on}
use Rattle.tn_order.proofs.Views.{OthersOn, at_part, lift_takes}

-- the order is kept, by what was done
abbrev pub Sits : ℕ → Dest → (ℕ → ℕ → Bool) → List Act → WorldView → WorldView → Type 0
Sits s goal mine past at w = Kept at.shape (way_of at.shape s goal) goal mine (standing_at goal w) (sent_of mine past) (gone_of mine (receiver_of goal) past)

-- the same queues and senders have the same items
pub queue_kept : (goal : Dest) (v : TileView) (s : TileState) → s.pool.queues ≡ v.now.pool.queues → s.senders ≡ v.now.senders → queue_items goal (with_now v s) ≡ queue_items goal v
queue_kept (dest.Thread t) v s queues senders = λ i. stamps (dest.Thread t) (senders i) (get_or (queues i) (place_in_tile v.plan.shape t.0) [])
queue_kept dest.Host v s queues senders = refl
queue_kept (dest.Mask tile mask) v s queues senders = refl
queue_kept (dest.Key key) v s queues senders = refl

-- spots of a tile of which only the queue may change
record Beside (goal : Dest) (w : WorldView) (p : ℕ) (v : TileView) (s : TileState) : Type 0 where
  pub pending : s.pending ≡ v.now.pending
  pub node : s.node ≡ v.now.node
  pub queue : queue_part w.shape goal ≡ p → queue_items goal (with_now v s) ≡ queue_items goal v

beside_same : (goal : Dest) (w : WorldView) (p : ℕ) (v : TileView) (s : TileState) → Beside goal w p v s → (r : Spot) → spot_part w.shape goal r ≡ p → stands_in goal (TileV (with_now v s)) r ≡ stands_in goal (TileV v) r
beside_same goal w p v s b (Pending q j) here = ap (λ ps. items_of (get_or ps j None)) b.pending
beside_same goal w p v s b (Waits q u) here = ap (λ n. items_of (at u n.out)) b.node
beside_same goal w p v s b (Works q side) here = refl
beside_same goal w p v s b (Crosses l) here = refl
beside_same goal w p v s b Queue here = b.queue here

stays_so : (s : ℕ) (goal : Dest) (mine : ℕ → ℕ → Bool) (past : List Act) (w : WorldView) (p : ℕ) (v : TileView) (new : TileState) → IsNet (way_of w.shape s goal) → OnPart w p (TileV v) → Beside goal w p v new → Sits s goal mine past w w → Sits s goal mine past w (with_part w p (TileV (with_now v new)))
stays_so s goal mine past w p v new is on b kept =
    stay w.shape (way_of w.shape s goal) goal mine (standing_at goal w) (standing_at goal (with_part w p (TileV (with_now v new)))) (sent_of mine past) (gone_of mine (receiver_of goal) past) is
    (lift_same_on goal w p (TileV v) (TileV (with_now v new)) on (beside_same goal w p v new b)) kept

-- the state after a step that asks for this
abbrev pub next : TileView → ℕ → Op → TileState
next v k o = acted k (thread_at v.now k) o (with_thread k (step_at_place v.plan.code k v.now).thread v.now)

-- ---- a send

none_there : {A : Type 0} (o : Option A) → is_none o ≡ true → o ≡ None
none_there None e = refl
none_there (Some x) e = cc e

no_host : {A : Type 0} (n : ShapeNumbers) (a : ℕ) → IsTrue (has_thread n a) → a ≡ host_address → A
no_host n a h e = let low : a < 16384 = grind (arith, nat_tests) in absurd (omega arith)

begins_at : (w : WorldView) (p a k : ℕ) (v : TileView) → Place w p v a k → begins w.shape a ≡ Pending p k
begins_at w p a k v c =
    let part = part_is w p a k v c.good c.on c.stands in
    ap (λ b. cond b (Crosses (part_count w.shape - 2)) (Pending (tile_part (tile_place w.shape (tile_of a))) (place_in_tile w.shape a))) (ne_eqb a host_address (no_host w.shape a c.stands.there))
    ∙ (λ i. Pending (part i) (c.stands.place i))

sends_so : (s : ℕ) (goal : Dest) (mine : ℕ → ℕ → Bool) (past : List Act) (w : WorldView) (p a k : ℕ) (v : TileView) (to : Dest) (bytes : List ℕ) → IsNet (way_of w.shape s goal) → ((t n : ℕ) → mine t n ≡ true → t ≡ s) → Place w p v a k → can_step v.plan.shape.fuel k v.now ≡ true → (step_at_place v.plan.code k v.now).op ≡ op.Send to bytes →
    (mine a (thread_at v.now k).sends ≡ true → IsFor w.shape goal to) → (mine a (thread_at v.now k).sends ≡ true → (m : ℕ) → In m (sent_of mine past) → m < (thread_at v.now k).sends) → Sits s goal mine past w w →
    Sits s goal mine (Sent a (thread_at v.now k).sends to ∷ past) w (with_part w p (TileV (with_now v (next v k (op.Send to bytes)))))
sends_so s goal mine past w p a k v to bytes is own c can e right above kept =
    let t : GoodTile w.shape p v = tile_on w p v c.good c.on in
    let z = sizes w p a k v c in
    let none : pending_at v.now k ≡ None = none_there (pending_at v.now k) (op_fits v k (op.Send to bytes) can e).0 in
    let from : (thread_at v.now k).id.0 ≡ a = ap (λ (i : ThreadId). i.0) (t.shaped.fits.threads.each k z.below).id ∙ address_is w p a k v c in
    let packet : Packet = packet_of (thread_at v.now k) to bytes in
    let item : Item = record { origin = a; number = (thread_at v.now k).sends; to = to } in
    let new : TileState = next v k (op.Send to bytes) in
    let put : Gets goal w p (TileV v) (TileV (with_now v new)) (Pending p k) item = record {
      here = refl;
      last = ap items_of (get_or-set_same v.now.pending k (Some packet) None z.pending) ∙ (ap (λ o. record { origin = o; number = (thread_at v.now k).sends; to = to } ∷ []) from ∙ sym (ap (λ o. items_of o ++ item ∷ []) none));
      others = tile_pending goal w p v new k (record { pending = λ j ne. get_or-set_other v.now.pending k j (Some packet) None ne; out = λ way. refl; queue = queue_kept goal v new refl refl });
    } in
    begin w.shape (way_of w.shape s goal) goal mine (Pending p k) item (standing_at goal w) (standing_at goal (with_part w p (TileV (with_now v new)))) (sent_of mine past) (sent_of mine (Sent a (thread_at v.now k).sends to ∷ past)) (gone_of mine (receiver_of goal) past) is
    (gets_puts goal w p (TileV v) (TileV (with_now v new)) (Pending p k) item c.on put)
    (λ meant. sym (begins_at w p a k v c) ∙ ap (begins w.shape) (own a (thread_at v.now k).sends meant))
    right (sent_adds mine a (thread_at v.now k).sends to past) (sent_stays mine a (thread_at v.now k).sends to past) above kept

-- ---- a letter is handed

-- the receiver is the thread of the step, or its queue is another one
data Whose (goal : Dest) (w : WorldView) (p a k : ℕ) (v : TileView) : Type 0 where
  Own : (t : ThreadId) (is : goal ≡ dest.Thread t) (at : t.0 ≡ a) (part : queue_part w.shape goal ≡ p) (place : place_in_tile v.plan.shape t.0 ≡ k) → Whose goal w p a k v
  Another : (apart : queue_part w.shape goal ≡ p → (q : List ℕ) (s : TileState) → s.pool.queues ≡ set v.now.pool.queues k q → s.senders ≡ v.now.senders → queue_items goal (with_now v s) ≡ queue_items goal v) → Whose goal w p a k v

whose : (goal : Dest) (w : WorldView) (p a k : ℕ) (v : TileView) → Place w p v a k → IsReceiver w.shape goal → Whose goal w p a k v
whose dest.Host w p a k v c there = Another (λ e q s queues senders. refl)
whose (dest.Mask tile mask) w p a k v c there = absurd there
whose (dest.Key key) w p a k v c there = absurd there
whose (dest.Thread t) w p a k v c there =
    let good : GoodTile w.shape p v = tile_on w p v c.good c.on in
    elim (cases_eq t.0 a) [
      | inl e ↦
          Own t refl e (ap (λ x. tile_part (tile_place w.shape (tile_of x))) e ∙ part_is w p a k v c.good c.on c.stands) (ap (λ n. place_in_tile n t.0) good.shape ∙ (ap (place_in_tile w.shape) e ∙ c.stands.place))
      | inr ne ↦ Another (λ e q s queues senders.
          let other : place_in_tile w.shape t.0 ≢ k = other_place w p a k t.0 v c.good c.on c.stands there e ne in
          let place : place_in_tile v.plan.shape t.0 ≢ k = λ f. other (ap (λ n. place_in_tile n t.0) (sym good.shape) ∙ f) in
          (λ i. stamps (dest.Thread t) (senders i) (get_or (queues i) (place_in_tile v.plan.shape t.0) []))
          ∙ ap (stamps (dest.Thread t) v.now.senders) (get_or-set_other v.now.pool.queues k (place_in_tile v.plan.shape t.0) q [] place))
    ]

own_now : (goal : Dest) (v : TileView) (t : ThreadId) → goal ≡ dest.Thread t → queue_items goal v ≡ stamps goal v.now.senders (queue_at v.now.pool (place_in_tile v.plan.shape t.0))
own_now goal v t is = subst (λ g. queue_items g v ≡ stamps g v.now.senders (queue_at v.now.pool (place_in_tile v.plan.shape t.0))) (sym is) refl

-- the queue of the receiver after a step that changes it
own_then : (goal : Dest) (v : TileView) (new : TileState) (t : ThreadId) (k : ℕ) (q : List ℕ) → goal ≡ dest.Thread t → place_in_tile v.plan.shape t.0 ≡ k → k < length v.now.pool.queues → new.pool.queues ≡ set v.now.pool.queues k q → new.senders ≡ v.now.senders → queue_items goal (with_now v new) ≡ stamps goal v.now.senders q
own_then goal v new t k q is place within queues senders =
    own_now goal (with_now v new) t is
    ∙ ((λ j. stamps goal (senders j) (get_or (queues j) (place j) [])) ∙ ap (stamps goal v.now.senders) (get_or-set_same v.now.pool.queues k q [] within))

pub own_was : (goal : Dest) (v : TileView) (t : ThreadId) (k : ℕ) → goal ≡ dest.Thread t → place_in_tile v.plan.shape t.0 ≡ k → queue_items goal v ≡ stamps goal v.now.senders (queue_at v.now.pool k)
own_was goal v t k is place = own_now goal v t is ∙ ap (λ j. stamps goal v.now.senders (queue_at v.now.pool j)) place

-- only the queue of the receiver changes
queue_gives : (goal : Dest) (w : WorldView) (p : ℕ) (v : TileView) (new : TileState) → new.pending ≡ v.now.pending → new.node ≡ v.now.node → OthersOn goal w p (TileV v) (TileV (with_now v new)) Queue
queue_gives goal w p v new pending node = tile_queue goal w p v new (record { pending = λ j. ap (λ ps. get_or ps j None) pending; out = λ way. ap (λ (x : Node). at way x.out) node })

abbrev handed_act : TileView → ℕ → ℕ → Act
handed_act v k slot = Handed (sender_at v slot).origin (sender_at v slot).number (letter_in v k slot).receiver

-- the first letter of a queue is handed
hands_by : (s : ℕ) (goal : Dest) (mine : ℕ → ℕ → Bool) (past : List Act) (w : WorldView) (p a k : ℕ) (v : TileView) (new : TileState) (slot : ℕ) (rest : List ℕ) → IsNet (way_of w.shape s goal) → Place w p v a k → queue_at v.now.pool k ≡ slot ∷ rest →
    new.pending ≡ v.now.pending → new.node ≡ v.now.node → new.pool.queues ≡ set v.now.pool.queues k rest → new.senders ≡ v.now.senders → Whose goal w p a k v → Sits s goal mine past w w →
    Sits s goal mine (handed_act v k slot ∷ past) w (with_part w p (TileV (with_now v new)))
hands_by s goal mine past w p a k v new slot rest is c queue pending node queues senders (Another apart) kept =
    more_gone w.shape (way_of w.shape s goal) goal mine (standing_at goal (with_part w p (TileV (with_now v new)))) (sent_of mine past) (gone_of mine (receiver_of goal) past) (gone_of mine (receiver_of goal) (handed_act v k slot ∷ past))
    (λ m i. gone_step mine (receiver_of goal) m (handed_act v k slot) past i)
    (stays_so s goal mine past w p v new is c.on (record { pending = pending; node = node; queue = λ e. apart e rest new queues senders }) kept)
hands_by s goal mine past w p a k v new slot rest is c queue pending node queues senders (Own t goal_is who part place) kept =
    let z = sizes w p a k v c in
    let i : Item = slot_item goal (sender_at v slot) in
    let to : (letter_in v k slot).receiver ≡ receiver_of goal = address_is w p a k v c ∙ (sym who ∙ sym (ap receiver_of goal_is)) in
    let now = own_then goal v new t k rest goal_is place z.queues queues senders in
    let was : queue_items goal v ≡ i ∷ stamps goal v.now.senders rest = own_was goal v t k goal_is place ∙ ap (stamps goal v.now.senders) queue in
    let gives : Gives goal w p (TileV v) (TileV (with_now v new)) Queue i = record { here = part; first = was ∙ ap (λ l. i ∷ l) (sym now); others = queue_gives goal w p v new pending node } in
    part_with w.shape (way_of w.shape s goal) goal mine Queue i (standing_at goal w) (standing_at goal (with_part w p (TileV (with_now v new)))) (sent_of mine past) (gone_of mine (receiver_of goal) past) (gone_of mine (receiver_of goal) (handed_act v k slot ∷ past)) is
    (gives_takes goal w p (TileV v) (TileV (with_now v new)) Queue i c.on gives)
    (λ meant. gone_adds mine (receiver_of goal) (sender_at v slot).origin (sender_at v slot).number (letter_in v k slot).receiver past meant to)
    (λ other. gone_stays mine (receiver_of goal) (sender_at v slot).origin (sender_at v slot).number (letter_in v k slot).receiver past other) kept

-- a hand finds a first letter
pub record HandsFirst (v : TileView) (k : ℕ) : Type 0 where
  pub slot : ℕ
  pub rest : List ℕ
  pub is : queue_at v.now.pool k ≡ slot ∷ rest

pub hands_first : (v : TileView) (k : ℕ) (q : List ℕ) → queue_at v.now.pool k ≡ q → is_some (first_of q) ≡ true → HandsFirst v k
hands_first v k [] e some = cc some
hands_first v k (slot ∷ rest) e some = record { slot = slot; rest = rest; is = e }

-- ---- a thread ends

-- each item of the queue is dropped
all_dropped : (goal : Dest) (mine : ℕ → ℕ → Bool) (v : TileView) (k m : ℕ) (q : List ℕ) (past : List Act) → ((slot : ℕ) → (letter_in v k slot).receiver ≡ receiver_of goal) → In m (numbers mine (stamps goal v.now.senders q)) → In m (gone_of mine (receiver_of goal) (behind (flat_map step_ends (map bag.Discard (map (letter_in v k) q))) past))
all_dropped goal mine v k m [] past to i = absurd i
all_dropped goal mine v k m (slot ∷ q) past to i =
    let x : Act = Dropped (sender_at v slot).origin (sender_at v slot).number (letter_in v k slot).receiver in
    let rest : List Act = flat_map step_ends (map bag.Discard (map (letter_in v k) q)) in
    elim (cases_Bool (mine (sender_at v slot).origin (sender_at v slot).number)) [
      | inr other ↦ all_dropped goal mine v k m q (x ∷ past) to (subst (λ l. In m l) (ap (λ b. cond b ((sender_at v slot).number ∷ numbers mine (stamps goal v.now.senders q)) (numbers mine (stamps goal v.now.senders q))) other) i)
      | inl meant ↦ elim (subst (λ l. In m l) (ap (λ b. cond b ((sender_at v slot).number ∷ numbers mine (stamps goal v.now.senders q)) (numbers mine (stamps goal v.now.senders q))) meant) i) [
        | inr j ↦ all_dropped goal mine v k m q (x ∷ past) to j
        | inl e ↦ gone_later mine (receiver_of goal) m rest (x ∷ past) (subst (λ z. In z (gone_of mine (receiver_of goal) (x ∷ past))) (sym e) (dropped_in mine (receiver_of goal) (sender_at v slot).origin (sender_at v slot).number (letter_in v k slot).receiver past meant (to slot)))
      ]
    ]

-- a drop is no send
drops_send : (mine : ℕ → ℕ → Bool) (v : TileView) (k : ℕ) (q : List ℕ) (past : List Act) → sent_of mine (behind (flat_map step_ends (map bag.Discard (map (letter_in v k) q))) past) ≡ sent_of mine past
drops_send mine v k [] past = refl
drops_send mine v k (slot ∷ q) past = drops_send mine v k q (Dropped (sender_at v slot).origin (sender_at v slot).number (letter_in v k slot).receiver ∷ past)

kills_by : (s : ℕ) (goal : Dest) (mine : ℕ → ℕ → Bool) (past : List Act) (w : WorldView) (p a k : ℕ) (v : TileView) (new : TileState) → IsNet (way_of w.shape s goal) → Place w p v a k →
    new.pending ≡ v.now.pending → new.node ≡ v.now.node → new.pool.queues ≡ set v.now.pool.queues k [] → new.senders ≡ v.now.senders → Whose goal w p a k v → Sits s goal mine past w w →
    Sits s goal mine (behind (flat_map step_ends (map bag.Discard (queued v k))) past) w (with_part w p (TileV (with_now v new)))
kills_by s goal mine past w p a k v new is c pending node queues senders (Another apart) kept =
    let acts : List Act = flat_map step_ends (map bag.Discard (queued v k)) in
    subst (λ sent. Kept w.shape (way_of w.shape s goal) goal mine (standing_at goal (with_part w p (TileV (with_now v new)))) sent (gone_of mine (receiver_of goal) (behind acts past))) (sym (drops_send mine v k (queue_at v.now.pool k) past))
    (more_gone w.shape (way_of w.shape s goal) goal mine (standing_at goal (with_part w p (TileV (with_now v new)))) (sent_of mine past) (gone_of mine (receiver_of goal) past) (gone_of mine (receiver_of goal) (behind acts past))
    (λ m i. gone_later mine (receiver_of goal) m acts past i)
    (stays_so s goal mine past w p v new is c.on (record { pending = pending; node = node; queue = λ e. apart e [] new queues senders }) kept))
kills_by s goal mine past w p a k v new is c pending node queues senders (Own t goal_is who part place) kept =
    let z = sizes w p a k v c in
    let acts : List Act = flat_map step_ends (map bag.Discard (queued v k)) in
    let all : List Item = stamps goal v.now.senders (queue_at v.now.pool k) in
    let now : queue_items goal (with_now v new) ≡ [] = own_then goal v new t k [] goal_is place z.queues queues senders in
    let was = own_was goal v t k goal_is place in
    let takes : Takes Queue all (standing_at goal w) (standing_at goal (with_part w p (TileV (with_now v new)))) =
    lift_takes goal w p (TileV v) (TileV (with_now v new)) Queue all c.on.within c.on.is part (was ∙ (sym (append-nil all) ∙ ap (λ l. all ++ l) (sym now))) (queue_gives goal w p v new pending node) in
    let after = at_part goal w p (TileV (with_now v new)) Queue c.on.within part ∙ now in
    subst (λ sent. Kept w.shape (way_of w.shape s goal) goal mine (standing_at goal (with_part w p (TileV (with_now v new)))) sent (gone_of mine (receiver_of goal) (behind acts past))) (sym (drops_send mine v k (queue_at v.now.pool k) past))
    (clear w.shape (way_of w.shape s goal) goal mine Queue all (standing_at goal w) (standing_at goal (with_part w p (TileV (with_now v new)))) (sent_of mine past) (gone_of mine (receiver_of goal) past) (gone_of mine (receiver_of goal) (behind acts past)) is takes after
    (λ m i. all_dropped goal mine v k m (queue_at v.now.pool k) past (λ slot. address_is w p a k v c ∙ (sym who ∙ sym (ap receiver_of goal_is))) i)
    (λ m i. gone_later mine (receiver_of goal) m acts past i) kept)

-- ---- any step

-- what a step needs that sends
pub record SendsRight (s : ℕ) (goal : Dest) (mine : ℕ → ℕ → Bool) (past : List Act) (w : WorldView) (a number : ℕ) (o : Op) : Type 0 where
  pub own : (t n : ℕ) → mine t n ≡ true → t ≡ s
  pub right : (to : Dest) (bytes : List ℕ) → o ≡ op.Send to bytes → mine a number ≡ true → SendFits w.shape goal mine past number to

abbrev pub acts_by : ℕ → ℕ → TileView → Op → List Act
acts_by a k v o = sent_with a (thread_at v.now k).sends o ++ flat_map step_ends (step_by a (seen_at v k) (first_letter v k) o ∷ dropped_by (queued v k) o)

taken_queues : (k : ℕ) (pool : PoolModel) (slot : ℕ) (rest : List ℕ) → queue_at pool k ≡ slot ∷ rest → (taken k pool).queues ≡ set pool.queues k rest
taken_queues k pool slot rest e = ap (λ q. (taken_from k q pool).queues) e

step_by_op : (s : ℕ) (goal : Dest) (mine : ℕ → ℕ → Bool) (past : List Act) (w : WorldView) (p a k : ℕ) (v : TileView) (o : Op) → IsNet (way_of w.shape s goal) → IsReceiver w.shape goal → Place w p v a k → can_step v.plan.shape.fuel k v.now ≡ true → (step_at_place v.plan.code k v.now).op ≡ o →
    SendsRight s goal mine past w a (thread_at v.now k).sends o → Sits s goal mine past w w → Sits s goal mine (behind (acts_by a k v o) past) w (with_part w p (TileV (with_now v (next v k o))))
step_by_op s goal mine past w p a k v op.None is there c can e sends kept = stays_so s goal mine past w p v (next v k op.None) is c.on (record { pending = refl; node = refl; queue = λ z. queue_kept goal v (next v k op.None) refl refl }) kept
step_by_op s goal mine past w p a k v (op.Free slot) is there c can e sends kept = stays_so s goal mine past w p v (next v k (op.Free slot)) is c.on (record { pending = refl; node = refl; queue = λ z. queue_kept goal v (next v k (op.Free slot)) refl refl }) kept
step_by_op s goal mine past w p a k v (op.Idle vote) is there c can e sends kept = stays_so s goal mine past w p v (next v k (op.Idle vote)) is c.on (record { pending = refl; node = refl; queue = λ z. queue_kept goal v (next v k (op.Idle vote)) refl refl }) kept
step_by_op s goal mine past w p a k v (op.Trap why) is there c can e sends kept = stays_so s goal mine past w p v (next v k (op.Trap why)) is c.on (record { pending = refl; node = refl; queue = λ z. queue_kept goal v (next v k (op.Trap why)) refl refl }) kept
step_by_op s goal mine past w p a k v (op.Send to bytes) is there c can e sends kept = sends_so s goal mine past w p a k v to bytes is sends.own c can e (λ meant. (sends.right to bytes refl meant).for) (λ meant. (sends.right to bytes refl meant).above) kept
step_by_op s goal mine past w p a k v op.Hand is there c can e sends kept =
    let f = hands_first v k (queue_at v.now.pool k) refl (op_fits v k op.Hand can e) in
    let same : first_letter v k ≡ letter_in v k f.slot = ap (λ q. letter_in v k (unwrap_or (first_of q) 0)) f.is in
    subst (λ l. Sits s goal mine (Handed l.origin l.number l.receiver ∷ past) w (with_part w p (TileV (with_now v (next v k op.Hand))))) (sym same)
    (hands_by s goal mine past w p a k v (next v k op.Hand) f.slot f.rest is c f.is refl refl (taken_queues k v.now.pool f.slot f.rest f.is) refl (whose goal w p a k v c there) kept)
step_by_op s goal mine past w p a k v (op.Kill value) is there c can e sends kept = kills_by s goal mine past w p a k v (next v k (op.Kill value)) is c refl refl refl refl (whose goal w p a k v c there) kept

pub step_keeps : (s : ℕ) (goal : Dest) (mine : ℕ → ℕ → Bool) (past : List Act) (w : WorldView) (p a k : ℕ) (v : TileView) → IsNet (way_of w.shape s goal) → IsReceiver w.shape goal → Place w p v a k → can_step v.plan.shape.fuel k v.now ≡ true →
    SendsRight s goal mine past w a (thread_at v.now k).sends (step_at_place v.plan.code k v.now).op → Sits s goal mine past w w → Sits s goal mine (behind (step_acts a k v) past) w (with_part w p (TileV (after_step k v)))
step_keeps s goal mine past w p a k v is there c can sends kept = step_by_op s goal mine past w p a k v (step_at_place v.plan.code k v.now).op is there c can refl sends kept
