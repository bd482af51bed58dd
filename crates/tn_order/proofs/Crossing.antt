-- Departures and arrivals keep the order.
use Rattle.std.proofs.Common.{ℕ, ◌≡◌, ◌≢◌, Bool, true, false, cond, refl, sym, ◌∙◌, ap, subst, inl, inr, List, [], ◌∷◌, ◌++◌, length, Option, Some, None, option_map, is_some, IsTrue, unwrap_or}
use Rattle.std.specs.Prelude.{is_none}
use Rattle.std.proofs.lemmas.Bool.{cond_both}
use Rattle.tn_base.specs.declared.event.Event.{Event}
use Rattle.tn_base.specs.declared.event.Event.TheVariants as event
use Rattle.tn_base.specs.declared.ids.Board.{Board}
use Rattle.tn_base.specs.declared.ids.PartId.{PartId}
use Rattle.tn_base.specs.declared.message.Dest.{Dest}
use Rattle.tn_base.specs.declared.message.Dest.TheVariants as dest
use Rattle.tn_base.specs.declared.message.Packet.{Packet}
use Rattle.tn_base.specs.declared.part.Kind.TheVariants as kind
use Rattle.tn_base.specs.declared.port.Port.{Port}
use Rattle.tn_base.specs.declared.port.Port.TheVariants as port
use Rattle.tn_base.specs.declared.shape.ShapeNumbers.{ShapeNumbers}
use Rattle.tn_base.specs.Parts.{kind_of}
use Rattle.tn_keys.specs.Tables.{Table, is_bad_key}
use Rattle.tn_link.specs.LinkRows.{front_of, put_in, take_from}
use Rattle.tn_link.specs.LinkView.{LinkView}
use Rattle.tn_node.specs.declared.node.Node.{Node}
use Rattle.tn_node.specs.declared.ports.Ports.{Ports}
use Rattle.tn_node.specs.NodeRows.{depart_row, departed, give_row, offered}
use Rattle.tn_node.specs.PortRows.{at, with_at}
use Rattle.tn_node.specs.SamePacket.{is_packet}
use Rattle.tn_node.proofs.Changed.{departs}
use Rattle.tn_node.proofs.Given.{given}
use Rattle.tn_router.specs.declared.state.RouterState.{RouterState}
use Rattle.tn_router.specs.declared.work.Work.{Work}
use Rattle.tn_keys.specs.Key.{key_first}
use Rattle.tn_router.specs.Places.{has_side}
use Rattle.tn_router.specs.Rest.{at_beat, from_beat, or_zero, started, started_by, started_to}
use Rattle.tn_router.specs.RouterView.{RouterView, now_by as router_now_by, with_now as router_with_now}
use Rattle.tn_router.specs.Rows.{accept_row, with_node as router_with_node}
use Rattle.tn_router.proofs.Deeds.{accept_deed}
use Rattle.tn_router.proofs.Shaped.{accepts}
use Rattle.tn_rows.specs.Events.{Met, after, crossing_of, given_to, meets, met_with, with_both, with_part}
use Rattle.tn_rows.specs.PartView.{PartView, TileV, RouterV, LinkV}
use Rattle.tn_rows.specs.Places.{leads_from, link_side, link_way}
use Rattle.tn_rows.specs.WorldView.{WorldView}
use Rattle.tn_rows.proofs.Meeting.{mapped, met_rows}
use Rattle.tn_stamp.specs.declared.entry.Crossing.{Crossing}
use Rattle.tn_stamp.specs.declared.entry.Crossing.TheVariants as crossing
use Rattle.tn_tile.specs.Rows.{with_node}
use Rattle.tn_tile.specs.TileView.{TileView, now_by, with_now}
use Rattle.tn_tile.proofs.Steps.{taken}
use Rattle.tn_ways.specs.Ways.{LeadsBy}
use Rattle.tn_letters.proofs.Crossings.{put_is, take_is}
use Rattle.tn_letters.proofs.Lift.{OnPart}
use Rattle.tn_letters.proofs.Links.{two_parts}
use Rattle.tn_order.specs.Kept.{Kept}
use Rattle.tn_order.specs.Net.{IsNet}
use Rattle.tn_order.specs.Spots.{Crosses, NextBehind, NextInto, NextSpot, Waits, Works, item_of, items_of, packet_in, queue_items, standing_at, way_of}
use Rattle.tn_order.proofs.PartViews.{ports_others, router_out, router_works, tile_out}
use Rattle.tn_order.proofs.Steps.{Gets, Gives, across, back, link_gets, link_gives}

-- ---- ports

pub taken_away : {X : Type 0} (way : Port) (s : Ports X) → at way (with_at way None s) ≡ None
taken_away port.East s = refl
taken_away port.West s = refl
taken_away port.South s = refl
taken_away port.North s = refl
taken_away port.Up s = refl
taken_away port.Down s = refl
taken_away port.HostPort s = refl
taken_away port.Here s = refl

pub put_there : {X : Type 0} (way : Port) (o : Option X) (s : Ports X) → (way ≡ port.Here → ⊥) → at way (with_at way o s) ≡ o
put_there port.East o s h = refl
put_there port.West o s h = refl
put_there port.South o s h = refl
put_there port.North o s h = refl
put_there port.Up o s h = refl
put_there port.Down o s h = refl
put_there port.HostPort o s h = refl
put_there port.Here o s h = absurd (h refl)

-- ---- rows

pub crossed : (e : Event) (low high : PartView) (o : Option Crossing) (m : Met) → met_with e low high o ≡ Some m → (c : Crossing) × (o ≡ Some c) × (after e c low ≡ Some m.low) × (after e c high ≡ Some m.high)
crossed e low high None m is = cc is
crossed e low high (Some c) m is = let rows = met_rows (after e c low) (after e c high) m is in (c, refl, rows.0, rows.1)

not_held : (held : Bool) (o : Option Packet) (k : Packet) → cond held None o ≡ Some k → o ≡ Some k
not_held true o k e = cc e
not_held false o k e = e

-- what a node gives waited for its way, and is gone
pub record Gave (way : Port) (k : Packet) (old new : Node) : Type 0 where
  pub waited : at way old.out ≡ Some k
  pub is : new ≡ departed way old

pub node_gives : (way : Port) (k : Packet) (n new : Node) → offered way n ≡ Some k → give_row way k n ≡ Some new → Gave way k n new
node_gives way k n new offer row =
    let dep : depart_row way n ≡ Some new = sym (given way k n offer) ∙ row in
    let d = departs way n (ap (λ (o : Option Node). is_some o) dep) in
    record { waited = not_held n.held (at way n.out) k offer; is = ap (λ (o : Option Node). unwrap_or o new) (sym dep ∙ d.row) }

-- ---- a departure

-- what crosses is the packet that waits for the way of the link
pub record Leaves_by (way : Port) (n : Node) (k : Packet) (node : Node) : Type 0 where
  pub gave : Gave way k n node

tile_gives : (goal : Dest) (w : WorldView) (p : ℕ) (v : TileView) (way : Port) (k : Packet) (node : Node) → Gave way k v.now.node node → Gives goal w p (TileV v) (TileV (with_now v (with_node v.now node))) (Waits p way) (item_of k)
tile_gives goal w p v way k node g =
    let out : node.out ≡ with_at way None v.now.node.out = ap (λ (x : Node). x.out) g.is in
    record {
      here = refl;
      first = ap items_of g.waited ∙ ap (λ l. item_of k ∷ l) (sym (ap (λ o. items_of (at way o)) out ∙ ap items_of (taken_away way v.now.node.out)));
      others = tile_out goal w p v (with_node v.now node) way (record {
        pending = λ j. refl;
        out = λ u. elim (ports_others way None v.now.node.out u) [ inl e ↦ inl e | inr e ↦ inr (ap (at u) out ∙ e) ];
        queue = same_queue goal v node;
      });
    }
  where
    same_queue : (goal : Dest) (v : TileView) (node : Node) → queue_items goal (with_now v (with_node v.now node)) ≡ queue_items goal v
    same_queue (dest.Thread t) v node = refl
    same_queue dest.Host v node = refl
    same_queue (dest.Mask tile mask) v node = refl
    same_queue (dest.Key key) v node = refl

router_gives : (goal : Dest) (w : WorldView) (p : ℕ) (v : RouterView) (way : Port) (k : Packet) (node : Node) → Gave way k v.now.node node → Gives goal w p (RouterV v) (RouterV (router_with_now v (router_with_node v.now node))) (Waits p way) (item_of k)
router_gives goal w p v way k node g =
    let out : node.out ≡ with_at way None v.now.node.out = ap (λ (x : Node). x.out) g.is in
    record {
      here = refl;
      first = ap items_of g.waited ∙ ap (λ l. item_of k ∷ l) (sym (ap (λ o. items_of (at way o)) out ∙ ap items_of (taken_away way v.now.node.out)));
      others = router_out goal w p v (router_with_node v.now node) way (λ side. refl) (λ u. elim (ports_others way None v.now.node.out u) [ inl e ↦ inl e | inr e ↦ inr (ap (at u) out ∙ e) ]);
    }

-- a part gives the packet that waits for the way of link q, and the link takes the packet
departs_by : (s : ℕ) (goal : Dest) (mine : ℕ → ℕ → Bool) (w : WorldView) (p q : ℕ) (a b : PartView) (x y : LinkView) (way : Port) (k : Packet) (sent gone : List ℕ) → IsNet (way_of w.shape s goal) → q ≢ p → OnPart w p a → OnPart w q (LinkV x) → Gives goal w p a b (Waits p way) (item_of k) → put_in k x ≡ Some y → LeadsBy w.shape p way q →
    Kept w.shape (way_of w.shape s goal) goal mine (standing_at goal w) sent gone → Kept w.shape (way_of w.shape s goal) goal mine (standing_at goal (with_part (with_part w p b) q (LinkV y))) sent gone
departs_by s goal mine w p q a b x y way k sent gone is apart on off gives put leads kept =
    across w.shape (way_of w.shape s goal) goal mine w p q a b (LinkV x) (LinkV y) (Waits p way) (Crosses q) (item_of k) (item_of k) sent gone is apart on off gives (link_gets goal w q x y k (put_is k x y put)) (record { origin = refl; number = refl })
    (λ meant for. (q, leads, refl)) (λ meant for. for) kept

-- what crossed is a packet
packet_given : (o : Option Packet) (c : Crossing) → option_map crossing.Packet o ≡ Some c → (k : Packet) × (o ≡ Some k) × (crossing.Packet k ≡ c)
packet_given o c e = mapped crossing.Packet o c e

pub tile_departs : (s : ℕ) (goal : Dest) (mine : ℕ → ℕ → Bool) (w : WorldView) (p q : ℕ) (v : TileView) (x : LinkView) (m : Met) (here there : PartId) (sent gone : List ℕ) → IsNet (way_of w.shape s goal) → OnPart w p (TileV v) → OnPart w q (LinkV x) → v.plan.shape ≡ w.shape → there.0 ≡ q → IsTrue (leads_from p (kind_of w.shape q)) →
    meets (event.Depart here there) (TileV v) (LinkV x) ≡ Some m → Kept w.shape (way_of w.shape s goal) goal mine (standing_at goal w) sent gone → Kept w.shape (way_of w.shape s goal) goal mine (standing_at goal (with_both w p q m)) sent gone
tile_departs s goal mine w p q v x m here there sent gone is on off shape at_link from row kept =
    let way : Port = link_way v.plan.shape there.0 in
    let c = crossed (event.Depart here there) (TileV v) (LinkV x) (crossing_of (event.Depart here there) (TileV v) (LinkV x)) m row in
    let k = packet_given (given_to there.0 (TileV v)) c.0 c.1 in
    let low : after (event.Depart here there) (crossing.Packet k.0) (TileV v) ≡ Some m.low = ap (λ d. after (event.Depart here there) d (TileV v)) k.2 ∙ c.2 in
    let high : after (event.Depart here there) (crossing.Packet k.0) (LinkV x) ≡ Some m.high = ap (λ d. after (event.Depart here there) d (LinkV x)) k.2 ∙ c.3 in
    let t = mapped TileV (now_by v (option_map (with_node v.now) (give_row way k.0 v.now.node))) m.low low in
    let u = mapped (with_now v) (option_map (with_node v.now) (give_row way k.0 v.now.node)) t.0 t.1 in
    let o = mapped (with_node v.now) (give_row way k.0 v.now.node) u.0 u.1 in
    let y = mapped LinkV (put_in k.0 x) m.high high in
    let gave = node_gives way k.0 v.now.node o.0 k.1 o.1 in
    let b : PartView = TileV (with_now v (with_node v.now o.0)) in
    let new : with_part (with_part w p b) q (LinkV y.0) ≡ with_both w p q m = ap (λ z. with_part (with_part w p z) q (LinkV y.0)) (ap (λ z. TileV (with_now v z)) o.2 ∙ (ap TileV u.2 ∙ t.2)) ∙ ap (λ z. with_part (with_part w p m.low) q z) y.2 in
    subst (λ (u : WorldView). Kept w.shape (way_of w.shape s goal) goal mine (standing_at goal u) sent gone) new
    (departs_by s goal mine w p q (TileV v) b x y.0 way k.0 sent gone is (two_parts w p q (TileV v) (LinkV x) on off (λ e. cc e)) on off (tile_gives goal w p v way k.0 o.0 gave) y.1
    (record { from = from; by = ap (λ l. link_way w.shape l) (sym at_link) ∙ ap (λ z. link_way z there.0) (sym shape) }) kept)

pub router_departs : (s : ℕ) (goal : Dest) (mine : ℕ → ℕ → Bool) (w : WorldView) (p q : ℕ) (v : RouterView) (x : LinkView) (m : Met) (here there : PartId) (sent gone : List ℕ) → IsNet (way_of w.shape s goal) → OnPart w p (RouterV v) → OnPart w q (LinkV x) → v.plan.shape ≡ w.shape → there.0 ≡ q → IsTrue (leads_from p (kind_of w.shape q)) →
    meets (event.Depart here there) (RouterV v) (LinkV x) ≡ Some m → Kept w.shape (way_of w.shape s goal) goal mine (standing_at goal w) sent gone → Kept w.shape (way_of w.shape s goal) goal mine (standing_at goal (with_both w p q m)) sent gone
router_departs s goal mine w p q v x m here there sent gone is on off shape at_link from row kept =
    let way : Port = link_way v.plan.shape there.0 in
    let c = crossed (event.Depart here there) (RouterV v) (LinkV x) (crossing_of (event.Depart here there) (RouterV v) (LinkV x)) m row in
    let k = packet_given (given_to there.0 (RouterV v)) c.0 c.1 in
    let low : after (event.Depart here there) (crossing.Packet k.0) (RouterV v) ≡ Some m.low = ap (λ d. after (event.Depart here there) d (RouterV v)) k.2 ∙ c.2 in
    let high : after (event.Depart here there) (crossing.Packet k.0) (LinkV x) ≡ Some m.high = ap (λ d. after (event.Depart here there) d (LinkV x)) k.2 ∙ c.3 in
    let t = mapped RouterV (router_now_by v (option_map (router_with_node v.now) (give_row way k.0 v.now.node))) m.low low in
    let u = mapped (router_with_now v) (option_map (router_with_node v.now) (give_row way k.0 v.now.node)) t.0 t.1 in
    let o = mapped (router_with_node v.now) (give_row way k.0 v.now.node) u.0 u.1 in
    let y = mapped LinkV (put_in k.0 x) m.high high in
    let gave = node_gives way k.0 v.now.node o.0 k.1 o.1 in
    let b : PartView = RouterV (router_with_now v (router_with_node v.now o.0)) in
    let new : with_part (with_part w p b) q (LinkV y.0) ≡ with_both w p q m = ap (λ z. with_part (with_part w p z) q (LinkV y.0)) (ap (λ z. RouterV (router_with_now v z)) o.2 ∙ (ap RouterV u.2 ∙ t.2)) ∙ ap (λ z. with_part (with_part w p m.low) q z) y.2 in
    subst (λ (u : WorldView). Kept w.shape (way_of w.shape s goal) goal mine (standing_at goal u) sent gone) new
    (departs_by s goal mine w p q (RouterV v) b x y.0 way k.0 sent gone is (two_parts w p q (RouterV v) (LinkV x) on off (λ e. cc e)) on off (router_gives goal w p v way k.0 o.0 gave) y.1
    (record { from = from; by = ap (λ l. link_way w.shape l) (sym at_link) ∙ ap (λ z. link_way z there.0) (sym shape) }) kept)

-- ---- an arrival at a router

-- a packet that comes into process stays the packet that it is
zero_packet : (p : Packet) (o : Option Work) → ((w : Work) → o ≡ Some w → w.packet ≡ p) → (or_zero p o).packet ≡ p
zero_packet p None h = refl
zero_packet p (Some w) h = h w refl

by_packet : (table : Table) (p : Packet) (key : ℕ) → (started_by table p key).packet ≡ p
by_packet table p key = cond_both (is_bad_key (length table) key) _ _ (λ (w : Work). w.packet ≡ p) (λ e. refl) (λ e. zero_packet p (from_beat table key (key_first key) p) (λ w h. let m = mapped (at_beat p) _ w h in ap (λ (x : Work). x.packet) (sym m.2)))

to_packet : (table : Table) (p : Packet) (d : Dest) → (started_to table p d).packet ≡ p
to_packet table p (dest.Thread t) = refl
to_packet table p dest.Host = refl
to_packet table p (dest.Mask tile mask) = refl
to_packet table p (dest.Key key) = by_packet table p key

pub started_packet : (table : Table) (p : Packet) → (started table p).packet ≡ p
started_packet table p = to_packet table p p.dest

none_there : {A : Type 0} (o : Option A) → is_none o ≡ true → o ≡ None
none_there None e = refl
none_there (Some x) e = cc e

side_there : (side : Port) (n : ShapeNumbers) (b : Board) → has_side n b side ≡ true → side ≡ port.Here → ⊥
side_there side n b e here = let no_side : false ≡ true = sym (ap (has_side n b) here) ∙ e in cc no_side

router_gets : (goal : Dest) (w : WorldView) (p : ℕ) (v : RouterView) (side : Port) (k : Packet) (new : RouterState) → accept_row v.plan side k v.now ≡ Some new → Gets goal w p (RouterV v) (RouterV (router_with_now v new)) (Works p side) (item_of k)
router_gets goal w p v side k new row =
    let a = accepts v.plan side k v.now (ap (λ (o : Option RouterState). is_some o) row) in
    let d = accept_deed v.plan side k v.now new row in
    let now : at side new.inputs ≡ Some (started v.plan.beats k) = ap (at side) d.inputs ∙ put_there side (Some (started v.plan.beats k)) v.now.inputs (side_there side v.plan.shape v.plan.board a.there) in
    let was : at side v.now.inputs ≡ None = none_there (at side v.now.inputs) a.free in
    record {
      here = refl;
      last = ap (λ o. items_of (packet_in o)) now ∙ (ap (λ q. item_of q ∷ []) (started_packet v.plan.beats k) ∙ sym (ap (λ o. items_of (packet_in o) ++ item_of k ∷ []) was));
      others = router_works goal w p v new side (λ u. elim (ports_others side (Some (started v.plan.beats k)) v.now.inputs u) [ inl e ↦ inl e | inr e ↦ inr (ap (at u) d.inputs ∙ e) ]) (λ way. ap (at way) d.out);
    }

-- the link leads to a router
into_router : (n : ShapeNumbers) (goal : Dest) (p q : ℕ) (from onto : PartId) (b : Board) → kind_of n q ≡ kind.Link from onto → onto.0 ≡ p → kind_of n p ≡ kind.Router b → NextSpot n goal (Crosses q) (Works p (link_side n q))
into_router n goal p q from onto b link at_part router =
    subst (λ k. NextBehind n goal q k (Works p (link_side n q))) (sym link) (subst (λ k. NextInto n goal q onto.0 k (Works p (link_side n q))) (sym (ap (kind_of n) at_part ∙ router)) (ap (λ i. Works i (link_side n q)) (sym at_part)))

pub router_arrives : (s : ℕ) (goal : Dest) (mine : ℕ → ℕ → Bool) (w : WorldView) (p q : ℕ) (v : RouterView) (x : LinkView) (m : Met) (there here from onto : PartId) (sent gone : List ℕ) → IsNet (way_of w.shape s goal) → OnPart w p (RouterV v) → OnPart w q (LinkV x) → v.plan.shape ≡ w.shape → there.0 ≡ q →
    kind_of w.shape q ≡ kind.Link from onto → onto.0 ≡ p → kind_of w.shape p ≡ kind.Router v.plan.board → meets (event.Arrive there here) (RouterV v) (LinkV x) ≡ Some m → Kept w.shape (way_of w.shape s goal) goal mine (standing_at goal w) sent gone →
    Kept w.shape (way_of w.shape s goal) goal mine (standing_at goal (with_both w p q m)) sent gone
router_arrives s goal mine w p q v x m there here from onto sent gone is on off shape at_link link at_part router row kept =
    let side : Port = link_side v.plan.shape there.0 in
    let c = crossed (event.Arrive there here) (RouterV v) (LinkV x) (crossing_of (event.Arrive there here) (RouterV v) (LinkV x)) m row in
    let k = packet_given (front_of x) c.0 c.1 in
    let low : after (event.Arrive there here) (crossing.Packet k.0) (RouterV v) ≡ Some m.low = ap (λ d. after (event.Arrive there here) d (RouterV v)) k.2 ∙ c.2 in
    let high : after (event.Arrive there here) (crossing.Packet k.0) (LinkV x) ≡ Some m.high = ap (λ d. after (event.Arrive there here) d (LinkV x)) k.2 ∙ c.3 in
    let t = mapped RouterV (router_now_by v (accept_row v.plan side k.0 v.now)) m.low low in
    let u = mapped (router_with_now v) (accept_row v.plan side k.0 v.now) t.0 t.1 in
    let y = mapped LinkV (cond (is_packet k.0 (front_of x)) (take_from x) None) m.high high in
    let took = taken (is_packet k.0 (front_of x)) (take_from x) y.0 y.1 in
    let b : PartView = RouterV (router_with_now v u.0) in
    let same : side ≡ link_side w.shape q = ap (λ l. link_side v.plan.shape l) at_link ∙ ap (λ z. link_side z q) shape in
    let new : with_part (with_part w p b) q (LinkV y.0) ≡ with_both w p q m = ap (λ z. with_part (with_part w p z) q (LinkV y.0)) (ap RouterV u.2 ∙ t.2) ∙ ap (λ z. with_part (with_part w p m.low) q z) y.2 in
    subst (λ (u : WorldView). Kept w.shape (way_of w.shape s goal) goal mine (standing_at goal u) sent gone) new
    (back w.shape (way_of w.shape s goal) goal mine w p q (RouterV v) b (LinkV x) (LinkV y.0) (Crosses q) (Works p side) (item_of k.0) (item_of k.0) sent gone is (two_parts w p q (RouterV v) (LinkV x) on off (λ e. cc e)) on off
    (link_gives goal w q x y.0 k.0 (take_is k.0 x y.0 k.1 took.1)) (router_gets goal w p v side k.0 u.0 u.1) (record { origin = refl; number = refl })
    (λ meant for. subst (λ z. NextSpot w.shape goal (Crosses q) (Works p z)) (sym same) (into_router w.shape goal p q from onto v.plan.board link at_part router)) (λ meant for. for) kept)
