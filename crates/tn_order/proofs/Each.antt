-- Each event keeps the order, by what the event does.
use Rattle.std.proofs.Common.{ℕ, ◌≡◌, ◌&&◌, Bool, true, false, refl, sym, ◌∙◌, ap, subst, inl, inr, List, [], ◌∷◌, slice_get, IsTrue, Option, Some, None}
use Rattle.std.specs.Prelude.{option_and_then}
use Rattle.std.specs.List.{filter, flat_map}
use Rattle.std.proofs.lemmas.Bool.{and_parts}
use Rattle.tn_base.specs.declared.event.Event.{Event}
use Rattle.tn_base.specs.declared.event.Event.TheVariants as event
use Rattle.tn_base.specs.declared.ids.PartId.{PartId}
use Rattle.tn_base.specs.declared.ids.ThreadId.{ThreadId}
use Rattle.tn_base.specs.declared.message.Dest.{Dest}
use Rattle.tn_base.specs.declared.message.Dest.TheVariants as dest
use Rattle.tn_base.specs.declared.message.Packet.{Packet}
use Rattle.tn_base.specs.declared.part.Kind.TheVariants as kind
use Rattle.tn_base.specs.declared.port.Port.{Port}
use Rattle.tn_base.specs.declared.port.Port.TheVariants as port
use Rattle.tn_base.specs.Address.{place_in_tile}
use Rattle.tn_base.specs.Message.{has_packet}
use Rattle.tn_base.specs.Parts.{kind_of}
use Rattle.tn_base.specs.Ports.{tile_port}
use Rattle.tn_base.specs.Shape.{WithinLimits}
use Rattle.tn_keys.specs.Reach.{Reach}
use Rattle.tn_link.specs.LinkRows.{front_of}
use Rattle.tn_link.specs.LinkView.{LinkView}
use Rattle.tn_quiet.specs.Law.{IsQuietWorld}
use Rattle.tn_quiet.proofs.Machines.{by_test, by_tests, by_thread}
use Rattle.tn_quiet.proofs.Runs.{walk_quiet}
use Rattle.tn_rows.specs.Events.{Met, after, carried, crossing_of, happened, meets, with_both, with_part}
use Rattle.tn_rows.specs.PartView.{PartView, TileV, RouterV, LinkV, HostV, DetectorV, AbsentV}
use Rattle.tn_rows.specs.Places.{at_part, is_router, leads_from, leads_to, one_if, part_of, two_if}
use Rattle.tn_rows.specs.WorldView.{WorldView}
use Rattle.tn_router.specs.RouterView.{RouterView}
use Rattle.tn_rows.proofs.Meeting.{mapped}
use Rattle.tn_stamp.specs.declared.entry.Crossing.TheVariants as crossing
use Rattle.tn_tile.specs.Kept.{WellShaped}
use Rattle.tn_tile.specs.Rows.{can_count, deliver_row, delivered_from, is_here}
use Rattle.tn_tile.specs.Step.{pending_at}
use Rattle.tn_tile.specs.TileView.{TileView, now_by, with_now}
use Rattle.tn_tile.proofs.Steps.{taken}
use Rattle.tn_letters.specs.Letters.{packet_letters}
use Rattle.tn_letters.specs.Steps.{arrival_steps, delivery_steps, dropped_at, is_for_dead, meeting_steps, part_steps, steps_at}
use Rattle.tn_letters.specs.Tiles.{reach_of, tables_of}
use Rattle.tn_letters.proofs.Calm.{quiet_start}
use Rattle.tn_letters.proofs.GoodParts.{walk_good}
use Rattle.tn_letters.proofs.Lift.{Good, GoodRouter, OnPart, part_on, stands_on, tile_on}
use Rattle.tn_letters.proofs.Starts.{good_start}
use Rattle.tn_letters.proofs.Walks.{on_read}
use Rattle.tn_order.specs.Acting.{ActsFit}
use Rattle.tn_order.specs.Acts.{Act}
use Rattle.tn_order.specs.Each.{EachEventKeeps}
use Rattle.tn_order.specs.History.{behind, event_acts, gone_of, receiver_of, sent_of, step_ends}
use Rattle.tn_order.specs.Kept.{Kept}
use Rattle.tn_order.specs.Moving.{IsReceiver}
use Rattle.tn_order.specs.Net.{In}
use Rattle.tn_order.specs.Spots.{standing_at, way_of}
use Rattle.tn_order.proofs.Acting.{gone_later, more_gone}
use Rattle.tn_order.proofs.Crossing.{crossed, router_arrives}
use Rattle.tn_order.proofs.Dropping.{drop_is_act, drops_sent}
use Rattle.tn_order.proofs.Landing.{IsLost}
use Rattle.tn_order.proofs.Moving.{departs_part, from_link, here_is, no_link, routes_part, stands_link, stands_router, stands_tile, to_link}
use Rattle.tn_order.proofs.Naming.{self_for}
use Rattle.tn_order.proofs.OtherEvents.{acting_keeps}
use Rattle.tn_order.proofs.SpotNet.{spot_net}
use Rattle.tn_order.proofs.Tiles.{Outcome, taken_up, tile_arrives, tile_delivers}
use Rattle.tn_order.proofs.Turning.{Sits}

-- ---- what is dropped of a packet that comes to a tile

abbrev tile_acts : Port → Reach → Packet → TileView → List Act
tile_acts way reach k v = flat_map step_ends (dropped_at way reach k v)

acts_sent : (way : Port) (mine : ℕ → ℕ → Bool) (reach : Reach) (k : Packet) (v : TileView) (past : List Act) → sent_of mine (behind (tile_acts way reach k v) past) ≡ sent_of mine past
acts_sent port.Here mine reach k v past = drops_sent mine (filter (is_for_dead v) (packet_letters v.plan.shape reach k)) past
acts_sent port.East mine reach k v past = refl
acts_sent port.West mine reach k v past = refl
acts_sent port.South mine reach k v past = refl
acts_sent port.North mine reach k v past = refl
acts_sent port.Up mine reach k v past = refl
acts_sent port.Down mine reach k v past = refl
acts_sent port.HostPort mine reach k v past = refl

-- a letter that is lost is among those that are dropped
lost_acts : (goal : Dest) (mine : ℕ → ℕ → Bool) (reach : Reach) (v : TileView) (k : Packet) (past : List Act) → WithinLimits v.plan.shape → WellShaped v → IsTrue (has_packet v.plan.shape k) → IsReceiver v.plan.shape goal → IsLost v goal k.dest → mine k.origin k.number ≡ true →
    In k.number (gone_of mine (receiver_of goal) (behind (tile_acts (tile_port v.plan.tile k.dest) reach k v) past))
lost_acts (dest.Thread t) mine reach v k past limits shaped fits there lost meant =
    subst (λ way. In k.number (gone_of mine t.0 (behind (tile_acts way reach k v) past))) (sym lost.0)
    (drop_is_act v.plan.shape (dest.Thread t) mine reach v k t past limits shaped (and_parts _ _ fits).0 there lost.3 lost.2 lost meant)
lost_acts dest.Host mine reach v k past limits shaped fits there lost meant = absurd lost
lost_acts (dest.Mask tile mask) mine reach v k past limits shaped fits there lost meant = absurd lost
lost_acts (dest.Key key) mine reach v k past limits shaped fits there lost meant = absurd lost

outcome_sits : (s : ℕ) (goal : Dest) (mine : ℕ → ℕ → Bool) (past : List Act) (w new : WorldView) (reach : Reach) (v : TileView) (k : Packet) → WithinLimits v.plan.shape → WellShaped v → IsTrue (has_packet v.plan.shape k) → IsReceiver v.plan.shape goal →
    Outcome w.shape (way_of w.shape s goal) goal mine (standing_at goal new) (sent_of mine past) (gone_of mine (receiver_of goal) past) k (IsLost v goal k.dest) → Sits s goal mine (behind (tile_acts (tile_port v.plan.tile k.dest) reach k v) past) w new
outcome_sits s goal mine past w new reach v k limits shaped fits there (inl kept) =
    let acts : List Act = tile_acts (tile_port v.plan.tile k.dest) reach k v in
    subst (λ sent. Kept w.shape (way_of w.shape s goal) goal mine (standing_at goal new) sent (gone_of mine (receiver_of goal) (behind acts past))) (sym (acts_sent (tile_port v.plan.tile k.dest) mine reach k v past))
    (more_gone w.shape (way_of w.shape s goal) goal mine (standing_at goal new) (sent_of mine past) (gone_of mine (receiver_of goal) past) (gone_of mine (receiver_of goal) (behind acts past)) (λ m i. gone_later mine (receiver_of goal) m acts past i) kept)
outcome_sits s goal mine past w new reach v k limits shaped fits there (inr x) =
    let acts : List Act = tile_acts (tile_port v.plan.tile k.dest) reach k v in
    subst (λ sent. Kept w.shape (way_of w.shape s goal) goal mine (standing_at goal new) sent (gone_of mine (receiver_of goal) (behind acts past))) (sym (acts_sent (tile_port v.plan.tile k.dest) mine reach k v past))
    (more_gone w.shape (way_of w.shape s goal) goal mine (standing_at goal new) (sent_of mine past) (k.number ∷ gone_of mine (receiver_of goal) past) (gone_of mine (receiver_of goal) (behind acts past))
    (λ m i. elim i [
      | inl e ↦ subst (λ z. In z (gone_of mine (receiver_of goal) (behind acts past))) (sym e) (lost_acts goal mine reach v k past limits shaped fits there x.1 x.0)
      | inr j ↦ gone_later mine (receiver_of goal) m acts past j
    ]) x.2)

-- ---- events that do nothing

pub nothing_two : (e : Event) (w : WorldView) (b : Bool) (p q : ℕ) → ((low high : Option PartView) → meeting_steps (reach_of w) e low high ≡ []) → flat_map step_ends (steps_at e w (two_if b p q)) ≡ []
nothing_two e w true p q none = ap (flat_map step_ends) (none _ _)
nothing_two e w false p q none = refl

route_part : (reach : Reach) (q : PartId) (o : Option PartView) → part_steps reach (event.Route q) o ≡ []
route_part reach q None = refl
route_part reach q (Some (TileV v)) = refl
route_part reach q (Some (RouterV v)) = refl
route_part reach q (Some (LinkV v)) = refl
route_part reach q (Some (HostV h)) = refl
route_part reach q (Some (DetectorV v)) = refl
route_part reach q (Some AbsentV) = refl

pub nothing_route : (q : PartId) (w : WorldView) (b : Bool) → flat_map step_ends (steps_at (event.Route q) w (one_if b q.0)) ≡ []
nothing_route q w true = ap (flat_map step_ends) (route_part (reach_of w) q (slice_get w.parts q.0))
nothing_route q w false = refl

silent_acts : (s : ℕ) (goal : Dest) (mine : ℕ → ℕ → Bool) (past acts : List Act) (w new : WorldView) → acts ≡ [] → Sits s goal mine past w new → Sits s goal mine (behind acts past) w new
silent_acts s goal mine past acts w new e kept = subst (λ l. Sits s goal mine (behind l past) w new) (sym e) kept

-- ---- a departure and a Route

depart_sits : (s : ℕ) (goal : Dest) (mine : ℕ → ℕ → Bool) (past : List Act) (w new : WorldView) (here there : PartId) → Good w → happened (event.Depart here there) w ≡ Some new → Sits s goal mine past w w → Sits s goal mine (behind (event_acts (event.Depart here there) w) past) w new
depart_sits s goal mine past w new here there good h kept =
    let a = by_tests (event.Depart here there) w new (leads_from here.0 (kind_of w.shape there.0)) here.0 there.0 h in
    let link = from_link here.0 (kind_of w.shape there.0) a.0 in
    let on = on_read w here.0 a.1.low good a.1.low_was in
    let off = on_read w there.0 a.1.high good a.1.high_was in
    let x = stands_link (kind_of w.shape there.0) link.0 link.1 a.1.high link.2 (stands_on w there.0 a.1.high good off) in
    silent_acts s goal mine past (event_acts (event.Depart here there) w) w new (nothing_two (event.Depart here there) w (leads_from here.0 (kind_of w.shape there.0)) here.0 there.0 (λ low high. refl))
    (subst (λ (u : WorldView). Sits s goal mine past w u) (sym a.1.is)
    (departs_part s goal mine w here.0 there.0 a.1.low x.0 a.1.met here there (sent_of mine past) (gone_of mine (receiver_of goal) past) (spot_net w.shape s goal good.limits) good on (subst (OnPart w there.0) x.1 off) refl a.0
    (subst (λ y. meets (event.Depart here there) a.1.low y ≡ Some a.1.met) x.1 a.1.row) kept))

route_sits : (s : ℕ) (goal : Dest) (mine : ℕ → ℕ → Bool) (past : List Act) (w new : WorldView) (q : PartId) → Good w → happened (event.Route q) w ≡ Some new → Sits s goal mine past w w → Sits s goal mine (behind (event_acts (event.Route q) w) past) w new
route_sits s goal mine past w new q good h kept =
    let a = (by_test (event.Route q) w new (is_router (kind_of w.shape q.0)) q.0 h).1 in
    silent_acts s goal mine past (event_acts (event.Route q) w) w new (nothing_route q w (is_router (kind_of w.shape q.0)))
    (subst (λ (u : WorldView). Sits s goal mine past w u) (sym a.is)
    (routes_part s goal mine w q.0 a.before a.behind q (sent_of mine past) (gone_of mine (receiver_of goal) past) (spot_net w.shape s goal good.limits) good (on_read w q.0 a.before good a.was) a.row kept))

-- ---- an arrival

abbrev arrival_acts : WorldView → PartView → LinkView → List Act
arrival_acts w low x = flat_map step_ends (arrival_steps (reach_of w) (front_of x) (Some low))

router_steps : (reach : Reach) (o : Option Packet) (v : RouterView) → arrival_steps reach o (Some (RouterV v)) ≡ []
router_steps reach o v = refl

arrival_sits : (s : ℕ) (goal : Dest) (mine : ℕ → ℕ → Bool) (past : List Act) (w : WorldView) (p q : ℕ) (low : PartView) (x : LinkView) (m : Met) (there here from onto : PartId) → Good w → IsReceiver w.shape goal → OnPart w p low → OnPart w q (LinkV x) → there.0 ≡ q → kind_of w.shape q ≡ kind.Link from onto → onto.0 ≡ p →
    meets (event.Arrive there here) low (LinkV x) ≡ Some m → Sits s goal mine past w w → Sits s goal mine (behind (arrival_acts w low x) past) w (with_both w p q m)
arrival_sits s goal mine past w p q (TileV v) x m there here from onto good receiver on off at link to row kept =
    let t = stands_tile (kind_of w.shape p) v (stands_on w p (TileV v) good on) in
    let tile = tile_on w p v good on in
    let a = tile_arrives s goal mine w p q v x m there here from onto t.0 (sent_of mine past) (gone_of mine (receiver_of goal) past) (spot_net w.shape s goal good.limits) (self_for w.shape goal receiver) receiver good on off link to t.1 t.2 row kept in
    subst (λ o. Sits s goal mine (behind (flat_map step_ends (delivery_steps (reach_of w) o v)) past) w (with_both w p q m)) (sym a.front)
    (outcome_sits s goal mine past w (with_both w p q m) (reach_of w) v a.packet (subst WithinLimits (sym tile.shape) good.limits) tile.shaped a.fits (subst (λ n. IsReceiver n goal) (sym tile.shape) receiver) a.outcome)
arrival_sits s goal mine past w p q (RouterV v) x m there here from onto good receiver on off at link to row kept =
    let r : GoodRouter w.shape (tables_of w) v = part_on w p (RouterV v) good on in
    subst (λ l. Sits s goal mine (behind (flat_map step_ends l) past) w (with_both w p q m)) (sym (router_steps (reach_of w) (front_of x) v))
    (router_arrives s goal mine w p q v x m there here from onto (sent_of mine past) (gone_of mine (receiver_of goal) past) (spot_net w.shape s goal good.limits) on off r.shape at link to (stands_router (kind_of w.shape p) v (stands_on w p (RouterV v) good on)) row kept)
arrival_sits s goal mine past w p q (LinkV y) x m there here from onto good receiver on off at link to row kept = no_link w p q y from onto good on link to
arrival_sits s goal mine past w p q (HostV h) x m there here from onto good receiver on off at link to row kept =
    let c = crossed (event.Arrive there here) (HostV h) (LinkV x) (crossing_of (event.Arrive there here) (HostV h) (LinkV x)) m row in
    let k = mapped crossing.Packet (front_of x) c.0 c.1 in
    let low : after (event.Arrive there here) (crossing.Packet k.0) (HostV h) ≡ Some m.low = ap (λ d. after (event.Arrive there here) d (HostV h)) k.2 ∙ c.2 in
    cc low
arrival_sits s goal mine past w p q (DetectorV v) x m there here from onto good receiver on off at link to row kept =
    let c = crossed (event.Arrive there here) (DetectorV v) (LinkV x) (crossing_of (event.Arrive there here) (DetectorV v) (LinkV x)) m row in
    let k = mapped crossing.Packet (front_of x) c.0 c.1 in
    let low : after (event.Arrive there here) (crossing.Packet k.0) (DetectorV v) ≡ Some m.low = ap (λ d. after (event.Arrive there here) d (DetectorV v)) k.2 ∙ c.2 in
    cc low
arrival_sits s goal mine past w p q AbsentV x m there here from onto good receiver on off at link to row kept =
    let c = crossed (event.Arrive there here) AbsentV (LinkV x) (crossing_of (event.Arrive there here) AbsentV (LinkV x)) m row in
    cc c.2

arrive_sits : (s : ℕ) (goal : Dest) (mine : ℕ → ℕ → Bool) (past : List Act) (w new : WorldView) (there here : PartId) → Good w → IsReceiver w.shape goal → happened (event.Arrive there here) w ≡ Some new → Sits s goal mine past w w → Sits s goal mine (behind (event_acts (event.Arrive there here) w) past) w new
arrive_sits s goal mine past w new there here good receiver h kept =
    let a = by_tests (event.Arrive there here) w new (leads_to here.0 (kind_of w.shape there.0)) here.0 there.0 h in
    let link = to_link here.0 (kind_of w.shape there.0) a.0 in
    let on = on_read w here.0 a.1.low good a.1.low_was in
    let off = on_read w there.0 a.1.high good a.1.high_was in
    let x = stands_link (kind_of w.shape there.0) link.0 link.1 a.1.high link.2 (stands_on w there.0 a.1.high good off) in
    let acts : event_acts (event.Arrive there here) w ≡ arrival_acts w a.1.low x.0 =
    ap (λ b. flat_map step_ends (steps_at (event.Arrive there here) w (two_if b here.0 there.0))) a.0
    ∙ (ap (λ o. flat_map step_ends (arrival_steps (reach_of w) (option_and_then carried o) (slice_get w.parts here.0))) (a.1.high_was ∙ ap Some x.1) ∙ ap (λ o. flat_map step_ends (arrival_steps (reach_of w) (front_of x.0) o)) a.1.low_was) in
    subst (λ (u : WorldView). Sits s goal mine (behind (event_acts (event.Arrive there here) w) past) w u) (sym a.1.is)
    (subst (λ l. Sits s goal mine (behind l past) w (with_both w here.0 there.0 a.1.met)) (sym acts)
    (arrival_sits s goal mine past w here.0 there.0 a.1.low x.0 a.1.met there here link.0 link.1 good receiver on (subst (OnPart w there.0) x.1 off) refl link.2 link.3
    (subst (λ y. meets (event.Arrive there here) a.1.low y ≡ Some a.1.met) x.1 a.1.row) kept))

-- ---- a delivery

-- the packet that is taken up does not change who ended
up_lost : (goal d : Dest) (v : TileView) (k : ℕ) → IsLost (taken_up v k) goal d → IsLost v goal d
up_lost (dest.Thread t) d v k lost = lost
up_lost dest.Host d v k lost = lost
up_lost (dest.Mask tile mask) d v k lost = lost
up_lost (dest.Key key) d v k lost = lost

up_outcome : (s : ℕ) (goal : Dest) (mine : ℕ → ℕ → Bool) (past : List Act) (w new : WorldView) (v : TileView) (k : ℕ) (packet : Packet) → Outcome w.shape (way_of w.shape s goal) goal mine (standing_at goal new) (sent_of mine past) (gone_of mine (receiver_of goal) past) packet (IsLost (taken_up v k) goal packet.dest) →
    Outcome w.shape (way_of w.shape s goal) goal mine (standing_at goal new) (sent_of mine past) (gone_of mine (receiver_of goal) past) packet (IsLost v goal packet.dest)
up_outcome s goal mine past w new v k packet (inl z) = inl z
up_outcome s goal mine past w new v k packet (inr z) = inr (z.0, up_lost goal packet.dest v k z.1, z.2)

delivery_sits : (s : ℕ) (goal : Dest) (mine : ℕ → ℕ → Bool) (past : List Act) (w : WorldView) (p : ℕ) (part after_it : PartView) (a : ThreadId) → Good w → IsReceiver w.shape goal → OnPart w p part → after (event.Deliver a) crossing.None part ≡ Some after_it →
    Sits s goal mine past w w → Sits s goal mine (behind (flat_map step_ends (part_steps (reach_of w) (event.Deliver a) (Some part))) past) w (with_part w p after_it)
delivery_sits s goal mine past w p (TileV v) after_it a good receiver on row kept =
    let x = mapped TileV (now_by v (deliver_row v.plan a.0 v.now)) after_it row in
    let y = mapped (with_now v) (deliver_row v.plan a.0 v.now) x.0 x.1 in
    let k : ℕ = place_in_tile v.plan.shape a.0 in
    let tests = taken (is_here v.plan a.0 && can_count v.now) (delivered_from v.plan k (pending_at v.now k) v.now) y.0 y.1 in
    let t = stands_tile (kind_of w.shape p) v (stands_on w p (TileV v) good on) in
    let tile = tile_on w p v good on in
    let d = tile_delivers s goal mine w p a.0 k v y.0 t.0 (sent_of mine past) (gone_of mine (receiver_of goal) past) (spot_net w.shape s goal good.limits) (self_for w.shape goal receiver) receiver (here_is w p a.0 v good on (and_parts _ _ tests.0).0) t.1 t.2 tests.1 kept in
    subst (λ (z : PartView). Sits s goal mine (behind (flat_map step_ends (delivery_steps (reach_of w) (pending_at v.now k) v)) past) w (with_part w p z)) (ap TileV y.2 ∙ x.2)
    (subst (λ o. Sits s goal mine (behind (flat_map step_ends (delivery_steps (reach_of w) o v)) past) w (with_part w p (TileV (with_now v y.0)))) (sym d.there)
    (outcome_sits s goal mine past w (with_part w p (TileV (with_now v y.0))) (reach_of w) v d.packet (subst WithinLimits (sym tile.shape) good.limits) tile.shaped d.fits (subst (λ n. IsReceiver n goal) (sym tile.shape) receiver) (up_outcome s goal mine past w (with_part w p (TileV (with_now v y.0))) v k d.packet d.outcome)))
delivery_sits s goal mine past w p (RouterV v) after_it a good receiver on row kept = cc row
delivery_sits s goal mine past w p (LinkV y) after_it a good receiver on row kept = cc row
delivery_sits s goal mine past w p (HostV h) after_it a good receiver on row kept = cc row
delivery_sits s goal mine past w p (DetectorV v) after_it a good receiver on row kept = cc row
delivery_sits s goal mine past w p AbsentV after_it a good receiver on row kept = cc row

deliver_sits : (s : ℕ) (goal : Dest) (mine : ℕ → ℕ → Bool) (past : List Act) (w new : WorldView) (a : ThreadId) → Good w → IsReceiver w.shape goal → happened (event.Deliver a) w ≡ Some new → Sits s goal mine past w w → Sits s goal mine (behind (event_acts (event.Deliver a) w) past) w new
deliver_sits s goal mine past w new a good receiver h kept =
    let x = by_thread (event.Deliver a) w new (part_of w.shape a) h in
    let acts : event_acts (event.Deliver a) w ≡ flat_map step_ends (part_steps (reach_of w) (event.Deliver a) (Some x.2.before)) =
    ap (λ o. flat_map step_ends (steps_at (event.Deliver a) w (at_part o))) x.1 ∙ ap (λ o. flat_map step_ends (part_steps (reach_of w) (event.Deliver a) o)) x.2.was in
    subst (λ (u : WorldView). Sits s goal mine (behind (event_acts (event.Deliver a) w) past) w u) (sym x.2.is)
    (subst (λ l. Sits s goal mine (behind l past) w (with_part w x.0 x.2.behind)) (sym acts)
    (delivery_sits s goal mine past w x.0 x.2.before x.2.behind a good receiver (on_read w x.0 x.2.before good x.2.was) x.2.row kept))

-- ---- each event

pub event_keeps : (e : Event) (s : ℕ) (goal : Dest) (mine : ℕ → ℕ → Bool) (past : List Act) (w new : WorldView) → Good w → IsQuietWorld w → happened e w ≡ Some new → IsReceiver w.shape goal → ((t k : ℕ) → mine t k ≡ true → t ≡ s) → ActsFit w.shape goal mine past (event_acts e w) →
    Sits s goal mine past w w → Sits s goal mine (behind (event_acts e w) past) w new
event_keeps (event.Deliver a) s goal mine past w new good quiet h there own fits kept = deliver_sits s goal mine past w new a good there h kept
event_keeps (event.Depart here to) s goal mine past w new good quiet h there own fits kept = depart_sits s goal mine past w new here to good h kept
event_keeps (event.Arrive from here) s goal mine past w new good quiet h there own fits kept = arrive_sits s goal mine past w new from here good there h kept
event_keeps (event.Route q) s goal mine past w new good quiet h there own fits kept = route_sits s goal mine past w new q good h kept
event_keeps (event.Turn t n) s goal mine past w new good quiet h there own fits kept = acting_keeps (event.Turn t n) s goal mine past w new good quiet h (λ x. x) there own fits kept
event_keeps event.HostPut s goal mine past w new good quiet h there own fits kept = acting_keeps event.HostPut s goal mine past w new good quiet h (λ x. x) there own fits kept
event_keeps event.HostTake s goal mine past w new good quiet h there own fits kept = acting_keeps event.HostTake s goal mine past w new good quiet h (λ x. x) there own fits kept
event_keeps (event.Report p) s goal mine past w new good quiet h there own fits kept = acting_keeps (event.Report p) s goal mine past w new good quiet h (λ x. x) there own fits kept
event_keeps event.Begin s goal mine past w new good quiet h there own fits kept = acting_keeps event.Begin s goal mine past w new good quiet h (λ x. x) there own fits kept
event_keeps (event.Confirm p) s goal mine past w new good quiet h there own fits kept = acting_keeps (event.Confirm p) s goal mine past w new good quiet h (λ x. x) there own fits kept
event_keeps event.Announce s goal mine past w new good quiet h there own fits kept = acting_keeps event.Announce s goal mine past w new good quiet h (λ x. x) there own fits kept
event_keeps (event.Release p) s goal mine past w new good quiet h there own fits kept = acting_keeps (event.Release p) s goal mine past w new good quiet h (λ x. x) there own fits kept
event_keeps (event.Go p) s goal mine past w new good quiet h there own fits kept = acting_keeps (event.Go p) s goal mine past w new good quiet h (λ x. x) there own fits kept

pub each_event_keeps : EachEventKeeps
each_event_keeps start w new history e s goal mine past begin walk h there own fits kept =
    let g = good_start start begin in
    let q = quiet_start start begin g in
    event_keeps e s goal mine past w new (walk_good history start w g q walk) (walk_quiet history start w g.limits q walk).0 h there own fits kept
