-- Arrivals at tiles and deliveries keep the order, or a letter is dropped for the receiver.
use Rattle.std.proofs.Common.{ℕ, ◌≡◌, ◌<◌, ◌&&◌, Bool, true, cond, refl, sym, ◌∙◌, ap, subst, inl, inr, List, [], ◌∷◌, length, set, Option, Some, None, option_map}
use Rattle.std.specs.Prelude.{IsTrue, MatchOption, ◌⊎◌}
use Rattle.std.proofs.lemmas.Bool.{cases_Bool, cases_eq}
use Rattle.std.proofs.lemmas.List.{get_or-set_other, get_or-set_same}
use Rattle.tn_base.specs.declared.event.Event.TheVariants as event
use Rattle.tn_base.specs.declared.ids.PartId.{PartId}
use Rattle.tn_base.specs.declared.ids.TileId.{TileId}
use Rattle.tn_base.specs.declared.message.Dest.{Dest}
use Rattle.tn_base.specs.declared.message.Dest.TheVariants as dest
use Rattle.tn_base.specs.declared.message.Packet.{Packet}
use Rattle.tn_base.specs.declared.part.Kind.TheVariants as kind
use Rattle.tn_base.specs.declared.shape.ShapeNumbers.{ShapeNumbers}
use Rattle.tn_base.specs.Message.{has_packet}
use Rattle.tn_base.specs.Parts.{kind_of}
use Rattle.tn_base.specs.Ports.{port_from, port_of, tile_port}
use Rattle.tn_link.specs.LinkRows.{front_of, take_from}
use Rattle.tn_link.specs.LinkView.{LinkView}
use Rattle.tn_node.specs.NodeRows.{can_arrive}
use Rattle.tn_node.specs.SamePacket.{is_packet}
use Rattle.tn_rows.specs.Events.{Met, after, crossing_of, meets, with_both, with_part}
use Rattle.tn_rows.specs.PartView.{PartView, TileV, LinkV}
use Rattle.tn_rows.specs.WorldView.{WorldView}
use Rattle.tn_rows.proofs.Meeting.{mapped}
use Rattle.tn_stamp.specs.declared.entry.Crossing.TheVariants as crossing
use Rattle.tn_tile.specs.declared.state.TileState.{TileState}
use Rattle.tn_tile.specs.Kept.{IsPacket}
use Rattle.tn_tile.specs.Rows.{accept_row, accepted, came, can_count, delivered_from, passed}
use Rattle.tn_tile.specs.Step.{pending_at}
use Rattle.tn_tile.specs.TileView.{TileView, now_by, with_now}
use Rattle.tn_tile.proofs.Steps.{taken}
use Rattle.tn_letters.specs.Letters.{board_of}
use Rattle.tn_letters.proofs.Crossings.{take_is}
use Rattle.tn_letters.proofs.Fitting.{pending_fit}
use Rattle.tn_letters.proofs.Homes.{home_sent}
use Rattle.tn_letters.proofs.Lift.{Good, GoodTile, OnPart, good_now, tile_on}
use Rattle.tn_letters.proofs.Links.{two_parts}
use Rattle.tn_letters.proofs.Simulate.{Place, sizes}
use Rattle.tn_order.specs.Kept.{IsFor, Kept}
use Rattle.tn_order.specs.Moving.{IsReceiver}
use Rattle.tn_order.specs.Net.{Net, IsNet}
use Rattle.tn_order.specs.Spots.{Crosses, Item, NextBehind, NextInto, NextSpot, Pending, Queue, Spot, Waits, Works, item_of, items_of, onward, queue_items, spot_part, standing_at, stands_in, way_of}
use Rattle.tn_order.specs.Views.{Takes}
use Rattle.tn_order.proofs.Crossing.{crossed}
use Rattle.tn_order.proofs.Landing.{IsLost, Landing, Lost, Stands, lands}
use Rattle.tn_order.proofs.PartViews.{tile_pending}
use Rattle.tn_order.proofs.Passing.{first_for, part_with, stay}
use Rattle.tn_order.proofs.SpotNet.{not_pending}
use Rattle.tn_order.proofs.Steps.{Gets, Gives, back, gives_takes, link_gives, on_mid, within_part}
use Rattle.tn_order.proofs.Views.{at_part, beside, was_part}

-- the order is kept, and what is gone is the same; or the letter for the receiver is dropped, and is gone
abbrev pub Outcome : ShapeNumbers → Net Spot → Dest → (ℕ → ℕ → Bool) → (Spot → List Item) → List ℕ → List ℕ → Packet → Type 0 → Type 0
Outcome n net goal mine f sent gone k lost = Kept n net goal mine f sent gone ⊎ ((mine k.origin k.number ≡ true) × lost × Kept n net goal mine f sent (k.number ∷ gone))

-- no spot of part p changes
pub lift_same_on : (goal : Dest) (w : WorldView) (p : ℕ) (a b : PartView) → OnPart w p a → ((r : Spot) → spot_part w.shape goal r ≡ p → stands_in goal b r ≡ stands_in goal a r) → (r : Spot) → standing_at goal (with_part w p b) r ≡ standing_at goal w r
lift_same_on goal w p a b on same r = elim (cases_eq (spot_part w.shape goal r) p) [
  | inr ne ↦ beside goal w p b r ne
  | inl here ↦ at_part goal w p b r on.within here ∙ (same r here ∙ sym (was_part goal w p a r on.is here))
]

-- a packet is lost at a spot
loses : (n : ShapeNumbers) (net : Net Spot) (goal : Dest) (mine : ℕ → ℕ → Bool) (x : Spot) (k : Packet) (f g : Spot → List Item) (sent gone : List ℕ) (lost : Type 0) → IsNet net → Takes x (item_of k ∷ []) f g → (mine k.origin k.number ≡ true → lost) → Kept n net goal mine f sent gone → Outcome n net goal mine g sent gone k lost
loses n net goal mine x k f g sent gone lost is t for kept = elim (cases_Bool (mine k.origin k.number)) [
  | inl meant ↦ inr (meant, for meant, part_with n net goal mine x (item_of k) f g sent gone (k.number ∷ gone) is t (λ e. refl) (λ other. let z = sym meant ∙ other in cc z) kept)
  | inr other ↦ inl (part_with n net goal mine x (item_of k) f g sent gone gone is t (λ meant. let z = sym meant ∙ other in cc z) (λ e. refl) kept)
]

-- the way of the receiver's packets from the tile of part p
tile_way : (n : ShapeNumbers) (goal d : Dest) (p tile : ℕ) (t : TileId) (y : Spot) → kind_of n p ≡ kind.Tile t → tile ≡ t.0 → IsFor n goal d → y ≡ onward p (tile_port tile d) → y ≡ onward p (port_of n p goal)
tile_way n goal d p tile t y is at for e =
    e ∙ ap (onward p) (ap (λ z. tile_port z d) at ∙ (for.port (kind.Tile t) ∙ ap (λ k. port_from k goal) (sym is)))

into_tile : (n : ShapeNumbers) (goal : Dest) (p q : ℕ) (from onto : PartId) (t : TileId) (y : Spot) → kind_of n q ≡ kind.Link from onto → onto.0 ≡ p → kind_of n p ≡ kind.Tile t → y ≡ onward p (port_of n p goal) → NextSpot n goal (Crosses q) y
into_tile n goal p q from onto t y link at_part tile e =
    subst (λ k. NextBehind n goal q k y) (sym link) (subst (λ k. NextInto n goal q onto.0 k y) (sym (ap (kind_of n) at_part ∙ tile)) (subst (λ i. y ≡ onward i (port_of n i goal)) (sym at_part) e))

-- what an arrival notes on the node is at no spot
came_same : (goal : Dest) (v : TileView) (s : TileState) (r : Spot) → stands_in goal (TileV (with_now v (came s))) r ≡ stands_in goal (TileV (with_now v s)) r
came_same goal v s (Pending q j) = refl
came_same goal v s (Waits q u) = refl
came_same goal v s (Works q side) = refl
came_same goal v s (Crosses l) = refl
came_same (dest.Thread t) v s Queue = refl
came_same dest.Host v s Queue = refl
came_same (dest.Mask tile mask) v s Queue = refl
came_same (dest.Key key) v s Queue = refl

came_gets : (goal : Dest) (w : WorldView) (p : ℕ) (v : TileView) (s : TileState) (y : Spot) (j : Item) → Gets goal w p (TileV v) (TileV (with_now v s)) y j → Gets goal w p (TileV v) (TileV (with_now v (came s))) y j
came_gets goal w p v s y j g = record {
  here = g.here;
  last = came_same goal v s y ∙ g.last;
  others = λ r h. elim (g.others r h) [ inl e ↦ inl e | inr e ↦ inr (came_same goal v s r ∙ e) ];
}

-- the item is for the receiver too
item_for : (n : ShapeNumbers) (goal d e : Dest) → IsFor n goal goal → (e ≡ d) ⊎ (e ≡ goal) → IsFor n goal d → IsFor n goal e
item_for n goal d e self (inl same) for = subst (IsFor n goal) (sym same) for
item_for n goal d e self (inr same) for = subst (IsFor n goal) (sym same) self

-- ---- an arrival

arrives_by : (s : ℕ) (goal : Dest) (mine : ℕ → ℕ → Bool) (w : WorldView) (p q : ℕ) (v : TileView) (x y : LinkView) (new : TileState) (k : Packet) (t : TileId) (from onto : PartId) (sent gone : List ℕ) → IsNet (way_of w.shape s goal) → IsFor w.shape goal goal → OnPart w p (TileV v) → OnPart w q (LinkV x) →
    kind_of w.shape q ≡ kind.Link from onto → onto.0 ≡ p → kind_of w.shape p ≡ kind.Tile t → v.plan.tile ≡ t.0 → x.packets ≡ k ∷ y.packets → Landing goal w p v new k → Kept w.shape (way_of w.shape s goal) goal mine (standing_at goal w) sent gone →
    Outcome w.shape (way_of w.shape s goal) goal mine (standing_at goal (with_part (with_part w p (TileV (with_now v (came new)))) q (LinkV y))) sent gone k (IsLost v goal k.dest)
arrives_by s goal mine w p q v x y new k t from onto sent gone is self on off link at_part tile at front (Stands z j gets one way to) kept =
    inl (back w.shape (way_of w.shape s goal) goal mine w p q (TileV v) (TileV (with_now v (came new))) (LinkV x) (LinkV y) (Crosses q) z (item_of k) j sent gone is (two_parts w p q (TileV v) (LinkV x) on off (λ e. cc e)) on off
    (link_gives goal w q x y k front) (came_gets goal w p v new z j gets) one
    (λ meant for. into_tile w.shape goal p q from onto t z link at_part tile (tile_way w.shape goal k.dest p v.plan.tile t z tile at for way))
    (λ meant for. item_for w.shape goal k.dest j.to self to for) kept)
arrives_by s goal mine w p q v x y new k t from onto sent gone is self on off link at_part tile at front (Lost same lost) kept =
    let b : PartView = TileV (with_now v (came new)) in
    let mid : WorldView = with_part w p b in
    let apart = two_parts w p q (TileV v) (LinkV x) on off (λ e. cc e) in
    let still : (r : Spot) → standing_at goal mid r ≡ standing_at goal w r = lift_same_on goal w p (TileV v) b on (λ r h. came_same goal v new r ∙ same r h) in
    let first = link_gives goal w q x y k front in
    let t' = gives_takes goal mid q (LinkV x) (LinkV y) (Crosses q) (item_of k) (on_mid w p q (TileV v) b (LinkV x) on off apart) (record { here = first.here; first = first.first; others = first.others }) in
    let was = gives_takes goal w q (LinkV x) (LinkV y) (Crosses q) (item_of k) off first in
    loses w.shape (way_of w.shape s goal) goal mine (Crosses q) k (standing_at goal mid) (standing_at goal (with_part mid q (LinkV y))) sent gone (IsLost v goal k.dest) is t'
    (λ meant. lost (first_for w.shape goal mine (Crosses q) (item_of k) (standing_at goal w) (standing_at goal (with_part w q (LinkV y))) was kept.all meant))
    (stay w.shape (way_of w.shape s goal) goal mine (standing_at goal w) (standing_at goal mid) sent gone is still kept)

-- what the tile takes is a packet that it passes on
accepted_so : (v : TileView) (k : Packet) (new : TileState) → accept_row v.plan k v.now ≡ Some new → (mid : TileState) × (passed v.plan k v.now ≡ Some mid) × (came mid ≡ new) × IsTrue (has_packet v.plan.shape k)
accepted_so v k new row =
    let yes = taken (can_count v.now && can_arrive v.now.node) (option_map came (accepted v.plan k v.now)) new row in
    let m = mapped came (accepted v.plan k v.now) new yes.1 in
    let has = taken (has_packet v.plan.shape k) (passed v.plan k v.now) m.0 m.1 in
    (m.0, has.1, m.2, has.0)

pub record Arrived (s : ℕ) (goal : Dest) (mine : ℕ → ℕ → Bool) (w new : WorldView) (v : TileView) (x : LinkView) (sent gone : List ℕ) : Type 0 where
  pub packet : Packet
  pub front : front_of x ≡ Some packet
  pub fits : IsTrue (has_packet v.plan.shape packet)
  pub outcome : Outcome w.shape (way_of w.shape s goal) goal mine (standing_at goal new) sent gone packet (IsLost v goal packet.dest)

pub tile_arrives : (s : ℕ) (goal : Dest) (mine : ℕ → ℕ → Bool) (w : WorldView) (p q : ℕ) (v : TileView) (x : LinkView) (m : Met) (there here from onto : PartId) (t : TileId) (sent gone : List ℕ) → IsNet (way_of w.shape s goal) → IsFor w.shape goal goal → IsReceiver w.shape goal → Good w → OnPart w p (TileV v) → OnPart w q (LinkV x) →
    kind_of w.shape q ≡ kind.Link from onto → onto.0 ≡ p → kind_of w.shape p ≡ kind.Tile t → v.plan.tile ≡ t.0 → meets (event.Arrive there here) (TileV v) (LinkV x) ≡ Some m → Kept w.shape (way_of w.shape s goal) goal mine (standing_at goal w) sent gone →
    Arrived s goal mine w (with_both w p q m) v x sent gone
tile_arrives s goal mine w p q v x m there here from onto t sent gone is self receiver good on off link at_part tile at row kept =
    let c = crossed (event.Arrive there here) (TileV v) (LinkV x) (crossing_of (event.Arrive there here) (TileV v) (LinkV x)) m row in
    let k = mapped crossing.Packet (front_of x) c.0 c.1 in
    let low : after (event.Arrive there here) (crossing.Packet k.0) (TileV v) ≡ Some m.low = ap (λ d. after (event.Arrive there here) d (TileV v)) k.2 ∙ c.2 in
    let high : after (event.Arrive there here) (crossing.Packet k.0) (LinkV x) ≡ Some m.high = ap (λ d. after (event.Arrive there here) d (LinkV x)) k.2 ∙ c.3 in
    let a = mapped TileV (now_by v (accept_row v.plan k.0 v.now)) m.low low in
    let b = mapped (with_now v) (accept_row v.plan k.0 v.now) a.0 a.1 in
    let y = mapped LinkV (cond (is_packet k.0 (front_of x)) (take_from x) None) m.high high in
    let took = taken (is_packet k.0 (front_of x)) (take_from x) y.0 y.1 in
    let so = accepted_so v k.0 b.0 b.1 in
    let new : with_part (with_part w p (TileV (with_now v (came so.0)))) q (LinkV y.0) ≡ with_both w p q m =
    ap (λ z. with_part (with_part w p z) q (LinkV y.0)) (ap (λ z. TileV (with_now v z)) so.2 ∙ (ap TileV b.2 ∙ a.2)) ∙ ap (λ z. with_part (with_part w p m.low) q z) y.2 in
    record {
      packet = k.0;
      front = k.1;
      fits = so.3;
      outcome = subst (λ (u : WorldView). Outcome w.shape (way_of w.shape s goal) goal mine (standing_at goal u) sent gone k.0 (IsLost v goal k.0.dest)) new
          (arrives_by s goal mine w p q v x y.0 so.0 k.0 t from onto sent gone is self on off link at_part tile at (take_is k.0 x y.0 k.1 took.1) (lands goal w p v so.0 k.0 good.limits (tile_on w p v good on) receiver so.1) kept);
    }

-- ---- a delivery

-- the tile after its thread's packet is taken up
abbrev pub taken_up : TileView → ℕ → TileView
taken_up v k = with_now v (record v.now { pending = set v.now.pending k None })

up_queue : (goal : Dest) (v : TileView) (k : ℕ) → queue_items goal (taken_up v k) ≡ queue_items goal v
up_queue (dest.Thread t) v k = refl
up_queue dest.Host v k = refl
up_queue (dest.Mask tile mask) v k = refl
up_queue (dest.Key key) v k = refl

up_gives : (goal : Dest) (w : WorldView) (p : ℕ) (v : TileView) (k : ℕ) (packet : Packet) → k < length v.now.pending → pending_at v.now k ≡ Some packet → Gives goal w p (TileV v) (TileV (taken_up v k)) (Pending p k) (item_of packet)
up_gives goal w p v k packet within is = record {
  here = refl;
  first = ap items_of is ∙ ap (λ l. item_of packet ∷ l) (sym (ap items_of (get_or-set_same v.now.pending k None None within)));
  others = tile_pending goal w p v (record v.now { pending = set v.now.pending k None }) k (record { pending = λ j ne. get_or-set_other v.now.pending k j None None ne; out = λ way. refl; queue = up_queue goal v k });
}

delivers_by : (s : ℕ) (goal : Dest) (mine : ℕ → ℕ → Bool) (w : WorldView) (p k : ℕ) (v : TileView) (new : TileState) (packet : Packet) (t : TileId) (sent gone : List ℕ) → IsNet (way_of w.shape s goal) → IsFor w.shape goal goal → OnPart w p (TileV v) → kind_of w.shape p ≡ kind.Tile t → v.plan.tile ≡ t.0 →
    k < length v.now.pending → pending_at v.now k ≡ Some packet → Landing goal w p (taken_up v k) new packet → Kept w.shape (way_of w.shape s goal) goal mine (standing_at goal w) sent gone →
    Outcome w.shape (way_of w.shape s goal) goal mine (standing_at goal (with_part w p (TileV (with_now v new)))) sent gone packet (IsLost (taken_up v k) goal packet.dest)
delivers_by s goal mine w p k v new packet t sent gone is self on tile at within there (Stands z j gets one way to) kept =
    inl (within_part w.shape (way_of w.shape s goal) goal mine w p (TileV v) (TileV (taken_up v k)) (TileV (with_now v new)) (Pending p k) z (item_of packet) j sent gone is (λ e. not_pending p (tile_port v.plan.tile packet.dest) p k (sym way ∙ sym e)) on
    (up_gives goal w p v k packet within there) gets one
    (λ meant for. tile_way w.shape goal packet.dest p v.plan.tile t z tile at for way) (λ meant for. item_for w.shape goal packet.dest j.to self to for) kept)
delivers_by s goal mine w p k v new packet t sent gone is self on tile at within there (Lost same lost) kept =
    let a = up_gives goal w p v k packet within there in
    let first = gives_takes goal w p (TileV v) (TileV (taken_up v k)) (Pending p k) (item_of packet) on a in
    let up : (r : Spot) → standing_at goal (with_part w p (TileV (with_now v new))) r ≡ standing_at goal (with_part w p (TileV (taken_up v k))) r = λ r. elim (cases_eq (spot_part w.shape goal r) p) [
      | inr ne ↦ beside goal w p (TileV (with_now v new)) r ne ∙ sym (beside goal w p (TileV (taken_up v k)) r ne)
      | inl here ↦ at_part goal w p (TileV (with_now v new)) r on.within here ∙ (same r here ∙ sym (at_part goal w p (TileV (taken_up v k)) r on.within here))
    ] in
    let then_ = loses w.shape (way_of w.shape s goal) goal mine (Pending p k) packet (standing_at goal w) (standing_at goal (with_part w p (TileV (taken_up v k)))) sent gone (IsLost (taken_up v k) goal packet.dest) is first
    (λ meant. lost (first_for w.shape goal mine (Pending p k) (item_of packet) (standing_at goal w) (standing_at goal (with_part w p (TileV (taken_up v k)))) first kept.all meant)) kept in
    elim then_ [
      | inl x ↦ inl (stay w.shape (way_of w.shape s goal) goal mine (standing_at goal (with_part w p (TileV (taken_up v k)))) (standing_at goal (with_part w p (TileV (with_now v new)))) sent gone is up x)
      | inr x ↦ inr (x.0, x.1, stay w.shape (way_of w.shape s goal) goal mine (standing_at goal (with_part w p (TileV (taken_up v k)))) (standing_at goal (with_part w p (TileV (with_now v new)))) sent (packet.number ∷ gone) is up x.2)
    ]

pub record Delivered (s : ℕ) (goal : Dest) (mine : ℕ → ℕ → Bool) (w new : WorldView) (v : TileView) (k : ℕ) (sent gone : List ℕ) : Type 0 where
  pub packet : Packet
  pub there : pending_at v.now k ≡ Some packet
  pub fits : IsTrue (has_packet v.plan.shape packet)
  pub outcome : Outcome w.shape (way_of w.shape s goal) goal mine (standing_at goal new) sent gone packet (IsLost (taken_up v k) goal packet.dest)

delivers_from : (s : ℕ) (goal : Dest) (mine : ℕ → ℕ → Bool) (w : WorldView) (p a k : ℕ) (v : TileView) (new : TileState) (t : TileId) (o : Option Packet) (sent gone : List ℕ) → IsNet (way_of w.shape s goal) → IsFor w.shape goal goal → IsReceiver w.shape goal → Place w p v a k → kind_of w.shape p ≡ kind.Tile t → v.plan.tile ≡ t.0 →
    pending_at v.now k ≡ o → delivered_from v.plan k o v.now ≡ Some new → Kept w.shape (way_of w.shape s goal) goal mine (standing_at goal w) sent gone → Delivered s goal mine w (with_part w p (TileV (with_now v new))) v k sent gone
delivers_from s goal mine w p a k v new t None sent gone is self receiver c tile at there row kept = cc row
delivers_from s goal mine w p a k v new t (Some packet) sent gone is self receiver c tile at there row kept =
    let good : GoodTile w.shape p v = tile_on w p v c.good c.on in
    let z = sizes w p a k v c in
    let up : GoodTile w.shape p (taken_up v k) = good_now w.shape p v (record v.now { pending = set v.now.pending k None }) good (pending_fit v.plan v.now k None tt good.shaped.fits) good.kept (home_sent (board_of v.plan.tile) v.now.pending v.now.node.out k None z.pending tt good.home) in
    record {
      packet = packet;
      there = there;
      fits = subst (λ (x : Option Packet). MatchOption x (Unit {0}) (IsPacket v.plan.shape)) there (good.shaped.fits.pending.each k);
      outcome = delivers_by s goal mine w p k v new packet t sent gone is self c.on tile at z.pending there (lands goal w p (taken_up v k) new packet c.good.limits up receiver row) kept;
    }

pub tile_delivers : (s : ℕ) (goal : Dest) (mine : ℕ → ℕ → Bool) (w : WorldView) (p a k : ℕ) (v : TileView) (new : TileState) (t : TileId) (sent gone : List ℕ) → IsNet (way_of w.shape s goal) → IsFor w.shape goal goal → IsReceiver w.shape goal → Place w p v a k → kind_of w.shape p ≡ kind.Tile t → v.plan.tile ≡ t.0 →
    delivered_from v.plan k (pending_at v.now k) v.now ≡ Some new → Kept w.shape (way_of w.shape s goal) goal mine (standing_at goal w) sent gone → Delivered s goal mine w (with_part w p (TileV (with_now v new))) v k sent gone
tile_delivers s goal mine w p a k v new t sent gone is self receiver c tile at row kept = delivers_from s goal mine w p a k v new t (pending_at v.now k) sent gone is self receiver c tile at refl row kept
