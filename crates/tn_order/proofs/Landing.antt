-- A packet that comes to a tile goes on, stands last in the receiver's queue, or is dropped for a receiver that ended.
use Rattle.std.proofs.Common.{ℕ, ◌+◌, ◌<◌, ◌≡◌, ◌==◌, Bool, true, false, cond, refl, sym, ◌∙◌, ap, subst, inl, inr, arith, List, [], ◌∷◌, ◌++◌, length, set, IsTrue, Option, Some, None, unwrap_or}
use Rattle.std.specs.Prelude.{is_none, ◌⊎◌}
use Rattle.std.specs.Int.{bit_at}
use Rattle.std.proofs.lemmas.Bool.{cases_eq, eqb-true}
use Rattle.std.proofs.lemmas.Nat.{mul-le}
use Rattle.std.proofs.lemmas.Nat.Bits.{bit_at-zero}
use Rattle.tn_base.specs.declared.message.Dest.{Dest}
use Rattle.tn_base.specs.declared.message.Dest.TheVariants as dest
use Rattle.tn_base.specs.declared.message.Packet.{Packet}
use Rattle.tn_base.specs.declared.part.Kind.TheVariants as kind
use Rattle.tn_base.specs.declared.port.Port.{Port}
use Rattle.tn_base.specs.declared.port.Port.TheVariants as port
use Rattle.tn_base.specs.declared.shape.ShapeNumbers.{ShapeNumbers}
use Rattle.tn_base.specs.Address.{has_thread, place_in_tile, tile_place, tile_threads}
use Rattle.tn_base.specs.Parts.{tile_part}
use Rattle.tn_base.specs.Shape.{WithinLimits}
use Rattle.tn_base.specs.Ports.{tile_port}
use Rattle.tn_base.proofs.TilePlaces.{place_below}
use Rattle.tn_node.specs.declared.node.Node.{Node}
use Rattle.tn_node.specs.NodeRows.{waits}
use Rattle.tn_node.specs.PortRows.{at, with_at}
use Rattle.tn_rows.specs.PartView.{TileV}
use Rattle.tn_rows.specs.WorldView.{WorldView}
use Rattle.tn_rows.proofs.Meeting.{mapped}
use Rattle.tn_slots.specs.Pool.{first_free, put_at, queue_at}
use Rattle.tn_slots.specs.WellKept.{WellKept, times}
use Rattle.tn_slots.proofs.Lists.{bit_cases}
use Rattle.tn_slots.proofs.Owed.{appended_no, appended_yes}
use Rattle.tn_slots.proofs.Unused.{first_unused}
use Rattle.tn_tile.specs.declared.state.TileState.{TileState}
use Rattle.tn_tile.specs.declared.sender.Sender.{Sender}
use Rattle.tn_tile.specs.Receivers.{alive_of, receivers}
use Rattle.tn_tile.specs.Rows.{passed, passed_by, received, sent_on, stored, stored_at, with_node}
use Rattle.tn_tile.specs.TileView.{TileView, with_now}
use Rattle.tn_tile.proofs.Steps.{taken}
use Rattle.tn_letters.proofs.Lift.{GoodTile}
use Rattle.tn_letters.proofs.Receivers.{router_away, thread_here}
use Rattle.tn_order.specs.Kept.{IsFor}
use Rattle.tn_order.specs.Moving.{IsReceiver}
use Rattle.tn_order.specs.Spots.{Crosses, Item, Pending, Queue, Spot, Waits, Works, item_of, items_of, onward, queue_items, queue_part, slot_item, spot_part, stands_in}
use Rattle.tn_order.proofs.Crossing.{put_there}
use Rattle.tn_order.proofs.PartViews.{ButQueue, ports_others, tile_out, tile_queue}
use Rattle.tn_order.proofs.Stamps.{keeps_others, puts_last, stamps}
use Rattle.tn_order.proofs.Steps.{Gets, OfOne}

-- the receiver ended, if it is a thread: it is not among those of the packet that are alive
abbrev pub IsLost : TileView → Dest → Dest → Type 0
IsLost v (dest.Thread t) d =
    (tile_port v.plan.tile d ≡ port.Here) × (bit_at (alive_of v.now.threads (receivers v.plan.shape d)) (place_in_tile v.plan.shape t.0) ≡ 0) × (bit_at (receivers v.plan.shape d) (place_in_tile v.plan.shape t.0) ≡ 1) × (tile_port v.plan.tile (dest.Thread t) ≡ port.Here)
IsLost v dest.Host d = ⊥
IsLost v (dest.Mask tile mask) d = ⊥
IsLost v (dest.Key key) d = ⊥

-- what becomes of a packet that comes to the tile of part p
pub data Landing (goal : Dest) (w : WorldView) (p : ℕ) (v : TileView) (s : TileState) (k : Packet) : Type 0 where
  Stands : (y : Spot) (j : Item) (gets : Gets goal w p (TileV v) (TileV (with_now v s)) y j) (one : OfOne j (item_of k)) (way : y ≡ onward p (tile_port v.plan.tile k.dest)) (to : (j.to ≡ k.dest) ⊎ (j.to ≡ goal)) → Landing goal w p v s k
  Lost : (same : (r : Spot) → spot_part w.shape goal r ≡ p → stands_in goal (TileV (with_now v s)) r ≡ stands_in goal (TileV v) r) (lost : IsFor w.shape goal k.dest → IsLost v goal k.dest) → Landing goal w p v s k

-- ---- it goes on

none_there : {A : Type 0} (o : Option A) → is_none o ≡ true → o ≡ None
none_there None e = refl
none_there (Some x) e = cc e

same_queue : (goal : Dest) (v : TileView) (node : Node) → queue_items goal (with_now v (with_node v.now node)) ≡ queue_items goal v
same_queue (dest.Thread t) v node = refl
same_queue dest.Host v node = refl
same_queue (dest.Mask tile mask) v node = refl
same_queue (dest.Key key) v node = refl

goes_on : (goal : Dest) (w : WorldView) (p : ℕ) (v : TileView) (s : TileState) (k : Packet) (way : Port) → (way ≡ port.Here → ⊥) → Waits p way ≡ onward p (tile_port v.plan.tile k.dest) → sent_on way k v.now ≡ Some s → Landing goal w p v s k
goes_on goal w p v s k way else to row =
    let m = mapped (with_node v.now) (waits way k v.now.node) s row in
    let yes = taken (is_none (at way v.now.node.out)) (Some (record v.now.node { out = with_at way (Some k) v.now.node.out })) m.0 m.1 in
    let node : record v.now.node { out = with_at way (Some k) v.now.node.out } ≡ m.0 = ap (λ (o : Option Node). unwrap_or o m.0) yes.1 in
    let none : at way v.now.node.out ≡ None = none_there (at way v.now.node.out) yes.0 in
    subst (λ x. Landing goal w p v x k) (ap (with_node v.now) node ∙ m.2)
    (Stands (Waits p way) (item_of k)
    (record {
      here = refl;
      last = ap items_of (put_there way (Some k) v.now.node.out else) ∙ sym (ap (λ o. items_of o ++ item_of k ∷ []) none);
      others = tile_out goal w p v (with_node v.now (record v.now.node { out = with_at way (Some k) v.now.node.out })) way (record { pending = λ j. refl; out = ports_others way (Some k) v.now.node.out; queue = same_queue goal v _ });
    })
    (record { origin = refl; number = refl }) to (inl refl))

-- ---- it is for threads here

-- the queue of the thread at a place of the tile
abbrev place_items : Dest → TileView → TileState → ℕ → List Item
place_items goal v s k = stamps goal s.senders (queue_at s.pool k)

record Stored (goal : Dest) (v : TileView) (set_of k : ℕ) (p : Packet) (s : TileState) : Type 0 where
  pub but : ButQueue v s
  pub yes_in : bit_at set_of k ≡ 1 → place_items goal v s k ≡ place_items goal v v.now k ++ slot_item goal (record { origin = p.origin; number = p.number }) ∷ []
  pub not_in : bit_at set_of k ≡ 0 → place_items goal v s k ≡ place_items goal v v.now k

stored_in_slot : (goal : Dest) (v : TileView) (set_of k : ℕ) (p : Packet) (o : Option ℕ) (s : TileState) → WellKept v.now.pool → length v.now.senders ≡ length v.now.pool.slots → k < length v.now.pool.queues → first_free v.now.pool ≡ o → stored_at o set_of p v.now ≡ Some s → Stored goal v set_of k p s
stored_in_slot goal v set_of k p None s kept size within free row = cc row
stored_in_slot goal v set_of k p (Some slot) s kept size within free row =
    let u = first_unused v.now.pool (Some slot) kept free in
    let none : times slot (queue_at v.now.pool k) ≡ 0 = kept.each k slot within ∙ u.1.not_owed k within in
    let there : slot < length v.now.senders = let a = u.0 in omega arith in
    let from : Sender = record { origin = p.origin; number = p.number } in
    let new : TileState = record v.now { pool = put_at slot p.bytes set_of v.now.pool; senders = set v.now.senders slot from } in
    let is : new ≡ s = ap (λ (o : Option TileState). unwrap_or o s) row in
    subst (Stored goal v set_of k p) is (record {
      but = record { pending = λ j. refl; out = λ way. refl };
      yes_in = λ b. ap (stamps goal (set v.now.senders slot from)) (appended_yes set_of slot v.now.pool.queues k within b) ∙ puts_last goal v.now.senders (queue_at v.now.pool k) slot from there none;
      not_in = λ b. ap (stamps goal (set v.now.senders slot from)) (appended_no set_of slot v.now.pool.queues k within b) ∙ keeps_others goal v.now.senders (queue_at v.now.pool k) slot from none;
    })

stored_by : (goal : Dest) (v : TileView) (set_of k : ℕ) (p : Packet) (b : Bool) (s : TileState) → (set_of == 0) ≡ b → WellKept v.now.pool → length v.now.senders ≡ length v.now.pool.slots → k < length v.now.pool.queues → cond b (Some v.now) (stored_at (first_free v.now.pool) set_of p v.now) ≡ Some s → Stored goal v set_of k p s
stored_by goal v set_of k p false s test kept size within row = stored_in_slot goal v set_of k p (first_free v.now.pool) s kept size within refl row
stored_by goal v set_of k p true s test kept size within row =
    let is : v.now ≡ s = ap (λ (o : Option TileState). unwrap_or o s) row in
    let zero_set = eqb-true set_of 0 test in
    subst (Stored goal v set_of k p) is (record {
      but = record { pending = λ j. refl; out = λ way. refl };
      yes_in = λ b. let z = ap (λ m. bit_at m k) zero_set ∙ bit_at-zero k in absurd (omega arith);
      not_in = λ b. refl;
    })

-- more letters are counted as dropped
dropping : (goal : Dest) (v : TileView) (set_of k n : ℕ) (p : Packet) (s : TileState) → Stored goal v set_of k p s → Stored goal v set_of k p (record s { dropped = s.dropped + n })
dropping goal v set_of k n p s st = record { but = record { pending = st.but.pending; out = st.but.out }; yes_in = st.yes_in; not_in = st.not_in }

received_so : (goal : Dest) (v : TileView) (k : ℕ) (p : Packet) (s : TileState) → WellKept v.now.pool → length v.now.senders ≡ length v.now.pool.slots → k < length v.now.pool.queues → received v.plan p v.now ≡ Some s → Stored goal v (alive_of v.now.threads (receivers v.plan.shape p.dest)) k p s
received_so goal v k p s kept size within row =
    let set_of : ℕ = alive_of v.now.threads (receivers v.plan.shape p.dest) in
    let m = mapped (λ (x : TileState). record x { dropped = x.dropped + _ }) (stored set_of p v.now) s row in
    subst (Stored goal v set_of k p) m.2 (dropping goal v set_of k _ p m.0 (stored_by goal v set_of k p (set_of == 0) m.0 refl kept size within m.1))

-- the spots of the tile but for the queue
lost_spots : (goal : Dest) (w : WorldView) (p : ℕ) (v : TileView) (s : TileState) → ButQueue v s → (queue_part w.shape goal ≡ p → queue_items goal (with_now v s) ≡ queue_items goal v) → (r : Spot) → spot_part w.shape goal r ≡ p → stands_in goal (TileV (with_now v s)) r ≡ stands_in goal (TileV v) r
lost_spots goal w p v s b queue (Pending q j) here = ap items_of (b.pending j)
lost_spots goal w p v s b queue (Waits q u) here = ap items_of (b.out u)
lost_spots goal w p v s b queue (Works q side) here = refl
lost_spots goal w p v s b queue (Crosses l) here = refl
lost_spots goal w p v s b queue Queue here = queue here

stays_here : (goal : Dest) (w : WorldView) (p : ℕ) (v : TileView) (s : TileState) (k : Packet) → WithinLimits w.shape → GoodTile w.shape p v → IsReceiver w.shape goal → tile_port v.plan.tile k.dest ≡ port.Here → received v.plan k v.now ≡ Some s → Landing goal w p v s k
stays_here dest.Host w p v s k limits good there here row =
    let st = received_so dest.Host v 0 k s good.kept (good.shaped.fits.pool.senders ∙ sym good.shaped.fits.pool.slots) (some_thread v.plan.shape (subst WithinLimits (sym good.shape) limits) good.shaped.fits.pool.queues) row in
    Lost (lost_spots dest.Host w p v s st.but (λ e. refl)) (λ for. router_away v.plan.tile (sym (for.port (kind.Tile (record { 0 = v.plan.tile }))) ∙ here))
  where
    some_thread : (n : ShapeNumbers) → WithinLimits n → {m : ℕ} → m ≡ tile_threads n → 0 < m
    some_thread n l e = let a = l.cores.0 in let b = l.threads.0 in let c = mul-le 1 1 n.cores n.threads a b in omega arith
stays_here (dest.Mask tile mask) w p v s k limits good there here row = absurd there
stays_here (dest.Key key) w p v s k limits good there here row = absurd there
stays_here (dest.Thread t) w p v s k limits good there here row =
    let goal : Dest = dest.Thread t in
    let n : ShapeNumbers = w.shape in
    let place : ℕ = place_in_tile v.plan.shape t.0 in
    let low : place < length v.now.pool.queues = subst (λ m. place < m) (sym good.shaped.fits.pool.queues) (place_below v.plan.shape t.0 (subst (λ m. IsTrue (has_thread m t.0)) (sym good.shape) there)) in
    let st = received_so goal v place k s good.kept (good.shaped.fits.pool.senders ∙ sym good.shaped.fits.pool.slots) low row in
    let alive : ℕ = alive_of v.now.threads (receivers v.plan.shape k.dest) in
    elim (cases_eq (queue_part n goal) p) [
      | inr ne ↦ Lost (lost_spots goal w p v s st.but (λ e. absurd (ne e)))
          (λ for.
          let ends : tile_port v.plan.tile goal ≡ port.Here = sym (for.port (kind.Tile (record { 0 = v.plan.tile }))) ∙ here in
          let on = thread_here v.plan.shape v.plan.tile t.0 good.shaped.tile (subst (λ m. IsTrue (has_thread m t.0)) (sym good.shape) there) ends in
          absurd (ne (ap (λ x. tile_part (tile_place n x)) on ∙ good.part)))
      | inl e ↦ elim (bit_cases alive place) [
        | inl b ↦ Stands Queue (slot_item goal (record { origin = k.origin; number = k.number })) (record { here = e; last = st.yes_in b; others = tile_queue goal w p v s st.but }) (record { origin = refl; number = refl }) (sym (ap (onward p) here)) (inr refl)
        | inr b ↦ Lost (lost_spots goal w p v s st.but (λ z. st.not_in b)) (λ for. (here, b, subst (λ m. bit_at (receivers m k.dest) (place_in_tile m t.0) ≡ 1) (sym good.shape) for.receiver, sym (for.port (kind.Tile (record { 0 = v.plan.tile }))) ∙ here))
      ]
    ]

-- ---- it comes to the tile

comes_by : (goal : Dest) (w : WorldView) (p : ℕ) (v : TileView) (s : TileState) (k : Packet) (way : Port) → WithinLimits w.shape → GoodTile w.shape p v → IsReceiver w.shape goal → tile_port v.plan.tile k.dest ≡ way → passed_by v.plan way k v.now ≡ Some s → Landing goal w p v s k
comes_by goal w p v s k port.Here limits good there is row = stays_here goal w p v s k limits good there is row
comes_by goal w p v s k port.East limits good there is row = goes_on goal w p v s k port.East (λ e. cc e) (sym (ap (onward p) is)) row
comes_by goal w p v s k port.West limits good there is row = goes_on goal w p v s k port.West (λ e. cc e) (sym (ap (onward p) is)) row
comes_by goal w p v s k port.South limits good there is row = goes_on goal w p v s k port.South (λ e. cc e) (sym (ap (onward p) is)) row
comes_by goal w p v s k port.North limits good there is row = goes_on goal w p v s k port.North (λ e. cc e) (sym (ap (onward p) is)) row
comes_by goal w p v s k port.Up limits good there is row = goes_on goal w p v s k port.Up (λ e. cc e) (sym (ap (onward p) is)) row
comes_by goal w p v s k port.Down limits good there is row = cc row
comes_by goal w p v s k port.HostPort limits good there is row = cc row

pub lands : (goal : Dest) (w : WorldView) (p : ℕ) (v : TileView) (s : TileState) (k : Packet) → WithinLimits w.shape → GoodTile w.shape p v → IsReceiver w.shape goal → passed v.plan k v.now ≡ Some s → Landing goal w p v s k
lands goal w p v s k limits good there row = comes_by goal w p v s k (tile_port v.plan.tile k.dest) limits good there refl row
