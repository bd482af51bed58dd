-- The events that move packets keep the order.
use Rattle.std.proofs.Common.{ℕ, ◌≡◌, ◌&&◌, Bool, true, refl, sym, ◌∙◌, ap, subst, inl, inr, arith, List, IsTrue, Some}
use Rattle.std.specs.Prelude.{◌⊎◌}
use Rattle.std.proofs.lemmas.Bool.{and_parts, eqb-true}
use Rattle.tn_base.specs.declared.event.Event.{Event}
use Rattle.tn_base.specs.declared.event.Event.TheVariants as event
use Rattle.tn_base.specs.declared.ids.PartId.{PartId}
use Rattle.tn_base.specs.declared.ids.ThreadId.{ThreadId}
use Rattle.tn_base.specs.declared.ids.TileId.{TileId}
use Rattle.tn_base.specs.declared.message.Dest.{Dest}
use Rattle.tn_base.specs.declared.message.Packet.{Packet}
use Rattle.tn_base.specs.declared.part.Kind.{Kind}
use Rattle.tn_base.specs.declared.part.Kind.TheVariants as kind
use Rattle.tn_base.specs.Address.{has_thread, place_in_tile}
use Rattle.tn_base.specs.Parts.{kind_of}
use Rattle.tn_link.specs.LinkRows.{front_of}
use Rattle.tn_link.specs.LinkView.{LinkView}
use Rattle.tn_quiet.proofs.Machines.{by_test, by_tests, by_thread}
use Rattle.tn_router.specs.RouterView.{RouterView, now_by as router_now_by, with_now as router_with_now}
use Rattle.tn_router.specs.Rows.{route_row}
use Rattle.tn_rows.specs.Events.{Met, after, crossing_of, happened, meets, with_both, with_part}
use Rattle.tn_rows.specs.PartView.{PartView, TileV, RouterV, LinkV, HostV, DetectorV, AbsentV}
use Rattle.tn_rows.specs.Places.{is_router, leads_from, leads_to, part_of}
use Rattle.tn_rows.specs.WorldView.{WorldView}
use Rattle.tn_rows.proofs.Meeting.{mapped}
use Rattle.tn_stamp.specs.declared.entry.Crossing.TheVariants as crossing
use Rattle.tn_tile.specs.Rows.{can_count, deliver_row, delivered_from, is_here}
use Rattle.tn_tile.specs.Step.{pending_at}
use Rattle.tn_tile.specs.TileView.{TileView, now_by, with_now}
use Rattle.tn_tile.proofs.Steps.{taken}
use Rattle.tn_letters.proofs.Calm.{quiet_start}
use Rattle.tn_letters.proofs.GoodParts.{walk_good}
use Rattle.tn_letters.proofs.Lift.{Good, GoodRouter, OnPart, StandsAt, part_on, stands_on, tile_on}
use Rattle.tn_letters.proofs.Simulate.{Place}
use Rattle.tn_letters.proofs.Starts.{good_start}
use Rattle.tn_letters.proofs.Walks.{on_read}
use Rattle.tn_letters.specs.Tiles.{tables_of}
use Rattle.tn_order.specs.Kept.{IsFor, Kept}
use Rattle.tn_order.specs.Moving.{DropsOne, EachMovingKeeps, IsMoving, IsReceiver}
use Rattle.tn_order.specs.Net.{IsNet}
use Rattle.tn_order.specs.Spots.{standing_at, way_of}
use Rattle.tn_order.proofs.Crossing.{crossed, router_arrives, router_departs, tile_departs}
use Rattle.tn_order.proofs.Routing.{route_keeps}
use Rattle.tn_order.proofs.SpotNet.{spot_net}
use Rattle.tn_order.proofs.Tiles.{Outcome, tile_arrives, tile_delivers}

-- the order is kept, or one letter is dropped
abbrev pub Keeps : ℕ → Dest → (ℕ → ℕ → Bool) → WorldView → List ℕ → List ℕ → WorldView → Type 0
Keeps s goal mine w sent gone new = Kept w.shape (way_of w.shape s goal) goal mine (standing_at goal new) sent gone ⊎ DropsOne s goal mine w.shape new sent gone

from_outcome : (s : ℕ) (goal : Dest) (mine : ℕ → ℕ → Bool) (w new : WorldView) (sent gone : List ℕ) (k : Packet) (lost : Type 0) → Outcome w.shape (way_of w.shape s goal) goal mine (standing_at goal new) sent gone k lost → Keeps s goal mine w sent gone new
from_outcome s goal mine w new sent gone k lost (inl x) = inl x
from_outcome s goal mine w new sent gone k lost (inr x) = inr (record { packet = k; meant = x.0; kept = x.2 })

-- ---- what stands where

pub stands_link : (k : Kind) (from onto : PartId) (x : PartView) → k ≡ kind.Link from onto → StandsAt k x → (y : LinkView) × (x ≡ LinkV y)
stands_link k from onto x e s = by x (subst (λ z. StandsAt z x) e s)
  where
    by : (x : PartView) → StandsAt (kind.Link from onto) x → (y : LinkView) × (x ≡ LinkV y)
    by (LinkV y) s = (y, refl)
    by (TileV v) s = absurd s
    by (RouterV v) s = absurd s
    by (HostV h) s = absurd s
    by (DetectorV v) s = absurd s
    by AbsentV s = absurd s

pub stands_tile : (k : Kind) (v : TileView) → StandsAt k (TileV v) → (t : TileId) × (k ≡ kind.Tile t) × (v.plan.tile ≡ t.0)
stands_tile (kind.Tile t) v s = (t, refl, s)
stands_tile kind.Host v s = absurd s
stands_tile (kind.Router b) v s = absurd s
stands_tile (kind.Link from onto) v s = absurd s
stands_tile kind.Detector v s = absurd s

pub stands_router : (k : Kind) (v : RouterView) → StandsAt k (RouterV v) → k ≡ kind.Router v.plan.board
stands_router (kind.Router b) v s = ap kind.Router (sym s)
stands_router kind.Host v s = absurd s
stands_router (kind.Tile t) v s = absurd s
stands_router (kind.Link from onto) v s = absurd s
stands_router kind.Detector v s = absurd s

pub stands_as_link : (k : Kind) (y : LinkView) → StandsAt k (LinkV y) → (from : PartId) × (onto : PartId) × (k ≡ kind.Link from onto)
stands_as_link (kind.Link from onto) y s = (from, onto, refl)
stands_as_link kind.Host y s = absurd s
stands_as_link (kind.Tile t) y s = absurd s
stands_as_link (kind.Router b) y s = absurd s
stands_as_link kind.Detector y s = absurd s

pub from_link : (p : ℕ) (k : Kind) → leads_from p k ≡ true → (from : PartId) × (onto : PartId) × (k ≡ kind.Link from onto)
from_link p (kind.Link from onto) e = (from, onto, refl)
from_link p kind.Host e = cc e
from_link p (kind.Tile t) e = cc e
from_link p (kind.Router b) e = cc e
from_link p kind.Detector e = cc e

pub to_link : (p : ℕ) (k : Kind) → leads_to p k ≡ true → (from : PartId) × (onto : PartId) × (k ≡ kind.Link from onto) × (onto.0 ≡ p)
to_link p (kind.Link from onto) e = (from, onto, refl, eqb-true onto.0 p e)
to_link p kind.Host e = cc e
to_link p (kind.Tile t) e = cc e
to_link p (kind.Router b) e = cc e
to_link p kind.Detector e = cc e

-- the part to which a link leads is no link
pub no_link : {A : Type 0} (w : WorldView) (p q : ℕ) (y : LinkView) (from onto : PartId) → Good w → OnPart w p (LinkV y) → kind_of w.shape q ≡ kind.Link from onto → onto.0 ≡ p → A
no_link w p q y from onto good on link at =
    let own = stands_as_link (kind_of w.shape p) y (stands_on w p (LinkV y) good on) in
    let low = (good.leads q from onto link).onto_visited in
    let high = (good.leads p own.0 own.1 own.2).behind in
    absurd (omega arith)

-- ---- a departure

pub departs_part : (s : ℕ) (goal : Dest) (mine : ℕ → ℕ → Bool) (w : WorldView) (p q : ℕ) (low : PartView) (x : LinkView) (m : Met) (here there : PartId) (sent gone : List ℕ) → IsNet (way_of w.shape s goal) → Good w → OnPart w p low → OnPart w q (LinkV x) → there.0 ≡ q → IsTrue (leads_from p (kind_of w.shape q)) →
    meets (event.Depart here there) low (LinkV x) ≡ Some m → Kept w.shape (way_of w.shape s goal) goal mine (standing_at goal w) sent gone → Kept w.shape (way_of w.shape s goal) goal mine (standing_at goal (with_both w p q m)) sent gone
departs_part s goal mine w p q (TileV v) x m here there sent gone is good on off at from row kept = tile_departs s goal mine w p q v x m here there sent gone is on off (tile_on w p v good on).shape at from row kept
departs_part s goal mine w p q (RouterV v) x m here there sent gone is good on off at from row kept =
    let r : GoodRouter w.shape (tables_of w) v = part_on w p (RouterV v) good on in
    router_departs s goal mine w p q v x m here there sent gone is on off r.shape at from row kept
departs_part s goal mine w p q (LinkV y) x m here there sent gone is good on off at from row kept = cc row
departs_part s goal mine w p q (HostV h) x m here there sent gone is good on off at from row kept = cc row
departs_part s goal mine w p q (DetectorV v) x m here there sent gone is good on off at from row kept = cc row
departs_part s goal mine w p q AbsentV x m here there sent gone is good on off at from row kept = cc row

depart_keeps : (s : ℕ) (goal : Dest) (mine : ℕ → ℕ → Bool) (w new : WorldView) (here there : PartId) (sent gone : List ℕ) → Good w → happened (event.Depart here there) w ≡ Some new → Kept w.shape (way_of w.shape s goal) goal mine (standing_at goal w) sent gone → Keeps s goal mine w sent gone new
depart_keeps s goal mine w new here there sent gone good h kept =
    let a = by_tests (event.Depart here there) w new (leads_from here.0 (kind_of w.shape there.0)) here.0 there.0 h in
    let link = from_link here.0 (kind_of w.shape there.0) a.0 in
    let on = on_read w here.0 a.1.low good a.1.low_was in
    let off = on_read w there.0 a.1.high good a.1.high_was in
    let x = stands_link (kind_of w.shape there.0) link.0 link.1 a.1.high link.2 (stands_on w there.0 a.1.high good off) in
    inl (subst (λ (u : WorldView). Kept w.shape (way_of w.shape s goal) goal mine (standing_at goal u) sent gone) (sym a.1.is)
    (departs_part s goal mine w here.0 there.0 a.1.low x.0 a.1.met here there sent gone (spot_net w.shape s goal good.limits) good on (subst (OnPart w there.0) x.1 off) refl a.0
    (subst (λ y. meets (event.Depart here there) a.1.low y ≡ Some a.1.met) x.1 a.1.row) kept))

-- ---- an arrival

pub arrives_part : (s : ℕ) (goal : Dest) (mine : ℕ → ℕ → Bool) (w : WorldView) (p q : ℕ) (low : PartView) (x : LinkView) (m : Met) (there here from onto : PartId) (sent gone : List ℕ) → IsNet (way_of w.shape s goal) → Good w → IsReceiver w.shape goal → IsFor w.shape goal goal → OnPart w p low → OnPart w q (LinkV x) → there.0 ≡ q →
    kind_of w.shape q ≡ kind.Link from onto → onto.0 ≡ p → meets (event.Arrive there here) low (LinkV x) ≡ Some m → Kept w.shape (way_of w.shape s goal) goal mine (standing_at goal w) sent gone → Keeps s goal mine w sent gone (with_both w p q m)
arrives_part s goal mine w p q (TileV v) x m there here from onto sent gone is good receiver self on off at link to row kept =
    let t = stands_tile (kind_of w.shape p) v (stands_on w p (TileV v) good on) in
    let a = tile_arrives s goal mine w p q v x m there here from onto t.0 sent gone is self receiver good on off link to t.1 t.2 row kept in
    from_outcome s goal mine w (with_both w p q m) sent gone a.packet _ a.outcome
arrives_part s goal mine w p q (RouterV v) x m there here from onto sent gone is good receiver self on off at link to row kept =
    let r : GoodRouter w.shape (tables_of w) v = part_on w p (RouterV v) good on in
    inl (router_arrives s goal mine w p q v x m there here from onto sent gone is on off r.shape at link to (stands_router (kind_of w.shape p) v (stands_on w p (RouterV v) good on)) row kept)
arrives_part s goal mine w p q (LinkV y) x m there here from onto sent gone is good receiver self on off at link to row kept = no_link w p q y from onto good on link to
arrives_part s goal mine w p q (HostV h) x m there here from onto sent gone is good receiver self on off at link to row kept =
    let c = crossed (event.Arrive there here) (HostV h) (LinkV x) (crossing_of (event.Arrive there here) (HostV h) (LinkV x)) m row in
    let k = mapped crossing.Packet (front_of x) c.0 c.1 in
    let low : after (event.Arrive there here) (crossing.Packet k.0) (HostV h) ≡ Some m.low = ap (λ d. after (event.Arrive there here) d (HostV h)) k.2 ∙ c.2 in
    cc low
arrives_part s goal mine w p q (DetectorV v) x m there here from onto sent gone is good receiver self on off at link to row kept =
    let c = crossed (event.Arrive there here) (DetectorV v) (LinkV x) (crossing_of (event.Arrive there here) (DetectorV v) (LinkV x)) m row in
    let k = mapped crossing.Packet (front_of x) c.0 c.1 in
    let low : after (event.Arrive there here) (crossing.Packet k.0) (DetectorV v) ≡ Some m.low = ap (λ d. after (event.Arrive there here) d (DetectorV v)) k.2 ∙ c.2 in
    cc low
arrives_part s goal mine w p q AbsentV x m there here from onto sent gone is good receiver self on off at link to row kept =
    let c = crossed (event.Arrive there here) AbsentV (LinkV x) (crossing_of (event.Arrive there here) AbsentV (LinkV x)) m row in
    cc c.2

arrive_keeps : (s : ℕ) (goal : Dest) (mine : ℕ → ℕ → Bool) (w new : WorldView) (there here : PartId) (sent gone : List ℕ) → Good w → IsReceiver w.shape goal → IsFor w.shape goal goal → happened (event.Arrive there here) w ≡ Some new → Kept w.shape (way_of w.shape s goal) goal mine (standing_at goal w) sent gone → Keeps s goal mine w sent gone new
arrive_keeps s goal mine w new there here sent gone good receiver self h kept =
    let a = by_tests (event.Arrive there here) w new (leads_to here.0 (kind_of w.shape there.0)) here.0 there.0 h in
    let link = to_link here.0 (kind_of w.shape there.0) a.0 in
    let on = on_read w here.0 a.1.low good a.1.low_was in
    let off = on_read w there.0 a.1.high good a.1.high_was in
    let x = stands_link (kind_of w.shape there.0) link.0 link.1 a.1.high link.2 (stands_on w there.0 a.1.high good off) in
    subst (λ (u : WorldView). Keeps s goal mine w sent gone u) (sym a.1.is)
    (arrives_part s goal mine w here.0 there.0 a.1.low x.0 a.1.met there here link.0 link.1 sent gone (spot_net w.shape s goal good.limits) good receiver self on (subst (OnPart w there.0) x.1 off) refl link.2 link.3
    (subst (λ y. meets (event.Arrive there here) a.1.low y ≡ Some a.1.met) x.1 a.1.row) kept)

-- ---- a Route

pub routes_part : (s : ℕ) (goal : Dest) (mine : ℕ → ℕ → Bool) (w : WorldView) (p : ℕ) (part behind : PartView) (q : PartId) (sent gone : List ℕ) → IsNet (way_of w.shape s goal) → Good w → OnPart w p part → after (event.Route q) crossing.None part ≡ Some behind →
    Kept w.shape (way_of w.shape s goal) goal mine (standing_at goal w) sent gone → Kept w.shape (way_of w.shape s goal) goal mine (standing_at goal (with_part w p behind)) sent gone
routes_part s goal mine w p (RouterV v) behind q sent gone is good on row kept =
    let a = mapped RouterV (router_now_by v (route_row v.plan v.now)) behind row in
    let b = mapped (router_with_now v) (route_row v.plan v.now) a.0 a.1 in
    subst (λ (x : PartView). Kept w.shape (way_of w.shape s goal) goal mine (standing_at goal (with_part w p x)) sent gone) (ap RouterV b.2 ∙ a.2)
    (route_keeps s goal mine w p v b.0 sent gone is on (stands_router (kind_of w.shape p) v (stands_on w p (RouterV v) good on)) b.1 kept)
routes_part s goal mine w p (TileV v) behind q sent gone is good on row kept = cc row
routes_part s goal mine w p (LinkV y) behind q sent gone is good on row kept = cc row
routes_part s goal mine w p (HostV h) behind q sent gone is good on row kept = cc row
routes_part s goal mine w p (DetectorV v) behind q sent gone is good on row kept = cc row
routes_part s goal mine w p AbsentV behind q sent gone is good on row kept = cc row

-- ---- a delivery

-- the thread of a delivery is at its place on the tile
pub here_is : (w : WorldView) (p a : ℕ) (v : TileView) → Good w → OnPart w p (TileV v) → is_here v.plan a ≡ true → Place w p v a (place_in_tile v.plan.shape a)
here_is w p a v good on here =
    let t = tile_on w p v good on in
    let parts = and_parts _ _ here in
    record {
      good = good;
      on = on;
      stands = record { there = subst (λ n. IsTrue (has_thread n a)) t.shape parts.0; tile = eqb-true _ _ parts.1; place = ap (λ n. place_in_tile n a) (sym t.shape) };
    }

delivers_part : (s : ℕ) (goal : Dest) (mine : ℕ → ℕ → Bool) (w : WorldView) (p : ℕ) (part behind : PartView) (a : ThreadId) (sent gone : List ℕ) → IsNet (way_of w.shape s goal) → Good w → IsReceiver w.shape goal → IsFor w.shape goal goal → OnPart w p part → after (event.Deliver a) crossing.None part ≡ Some behind →
    Kept w.shape (way_of w.shape s goal) goal mine (standing_at goal w) sent gone → Keeps s goal mine w sent gone (with_part w p behind)
delivers_part s goal mine w p (TileV v) behind a sent gone is good receiver self on row kept =
    let x = mapped TileV (now_by v (deliver_row v.plan a.0 v.now)) behind row in
    let y = mapped (with_now v) (deliver_row v.plan a.0 v.now) x.0 x.1 in
    let k : ℕ = place_in_tile v.plan.shape a.0 in
    let tests = taken (is_here v.plan a.0 && can_count v.now) (delivered_from v.plan k (pending_at v.now k) v.now) y.0 y.1 in
    let t = stands_tile (kind_of w.shape p) v (stands_on w p (TileV v) good on) in
    let d = tile_delivers s goal mine w p a.0 k v y.0 t.0 sent gone is self receiver (here_is w p a.0 v good on (and_parts _ _ tests.0).0) t.1 t.2 tests.1 kept in
    subst (λ (z : PartView). Keeps s goal mine w sent gone (with_part w p z)) (ap TileV y.2 ∙ x.2) (from_outcome s goal mine w (with_part w p (TileV (with_now v y.0))) sent gone d.packet _ d.outcome)
delivers_part s goal mine w p (RouterV v) behind a sent gone is good receiver self on row kept = cc row
delivers_part s goal mine w p (LinkV y) behind a sent gone is good receiver self on row kept = cc row
delivers_part s goal mine w p (HostV h) behind a sent gone is good receiver self on row kept = cc row
delivers_part s goal mine w p (DetectorV v) behind a sent gone is good receiver self on row kept = cc row
delivers_part s goal mine w p AbsentV behind a sent gone is good receiver self on row kept = cc row

-- ---- an event

pub moving_keeps : (e : Event) (s : ℕ) (goal : Dest) (mine : ℕ → ℕ → Bool) (w new : WorldView) (sent gone : List ℕ) → Good w → happened e w ≡ Some new → IsMoving e → IsReceiver w.shape goal → IsFor w.shape goal goal → Kept w.shape (way_of w.shape s goal) goal mine (standing_at goal w) sent gone → Keeps s goal mine w sent gone new
moving_keeps (event.Depart here there) s goal mine w new sent gone good h moving receiver self kept = depart_keeps s goal mine w new here there sent gone good h kept
moving_keeps (event.Arrive there here) s goal mine w new sent gone good h moving receiver self kept = arrive_keeps s goal mine w new there here sent gone good receiver self h kept
moving_keeps (event.Route q) s goal mine w new sent gone good h moving receiver self kept =
    let a = (by_test (event.Route q) w new (is_router (kind_of w.shape q.0)) q.0 h).1 in
    inl (subst (λ (u : WorldView). Kept w.shape (way_of w.shape s goal) goal mine (standing_at goal u) sent gone) (sym a.is)
    (routes_part s goal mine w q.0 a.before a.behind q sent gone (spot_net w.shape s goal good.limits) good (on_read w q.0 a.before good a.was) a.row kept))
moving_keeps (event.Deliver a) s goal mine w new sent gone good h moving receiver self kept =
    let x = by_thread (event.Deliver a) w new (part_of w.shape a) h in
    subst (λ (u : WorldView). Keeps s goal mine w sent gone u) (sym x.2.is)
    (delivers_part s goal mine w x.0 x.2.before x.2.behind a sent gone (spot_net w.shape s goal good.limits) good receiver self (on_read w x.0 x.2.before good x.2.was) x.2.row kept)
moving_keeps (event.Turn t n) s goal mine w new sent gone good h moving receiver self kept = absurd moving
moving_keeps event.HostPut s goal mine w new sent gone good h moving receiver self kept = absurd moving
moving_keeps event.HostTake s goal mine w new sent gone good h moving receiver self kept = absurd moving
moving_keeps (event.Report p) s goal mine w new sent gone good h moving receiver self kept = absurd moving
moving_keeps event.Begin s goal mine w new sent gone good h moving receiver self kept = absurd moving
moving_keeps (event.Confirm p) s goal mine w new sent gone good h moving receiver self kept = absurd moving
moving_keeps event.Announce s goal mine w new sent gone good h moving receiver self kept = absurd moving
moving_keeps (event.Release p) s goal mine w new sent gone good h moving receiver self kept = absurd moving
moving_keeps (event.Go p) s goal mine w new sent gone good h moving receiver self kept = absurd moving

pub each_moving_keeps : EachMovingKeeps
each_moving_keeps start w new history e s goal mine sent gone begin walk h moving receiver self kept =
    let g = good_start start begin in
    moving_keeps e s goal mine w new sent gone (walk_good history start w g (quiet_start start begin g) walk) h moving receiver self kept
