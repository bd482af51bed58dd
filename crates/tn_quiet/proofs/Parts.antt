-- What the rows of parts give, as the laws of rest see it.
use Rattle.std.proofs.Common.{ℕ, ◌≡◌, ◌+◌, ◌++◌, List, [], ◌∷◌, length, length-append, cond, refl, sym, ap, ◌∙◌, arith, Some, None, option_map}
use Rattle.tn_base.specs.declared.event.Event.TheVariants as event
use Rattle.tn_base.specs.declared.ids.PartId.{PartId}
use Rattle.tn_base.specs.declared.ids.ThreadId.{ThreadId}
use Rattle.tn_base.specs.declared.message.Packet.{Packet}
use Rattle.tn_detect.specs.declared.state.DetectorState.{DetectorState}
use Rattle.tn_detect.specs.DetectorView.{DetectorView, now_by as detector_now_by, with_now as detector_with_now}
use Rattle.tn_node.specs.declared.facts.PartFacts.{PartFacts}
use Rattle.tn_rows.specs.DetectorDeed.{DetectorDoes, detector_deed}
use Rattle.tn_host.specs.HostView.{HostState}
use Rattle.tn_host.specs.Rows.{host_deed}
use Rattle.tn_link.specs.LinkRows.{front_of, put_in, rest_in, take_from}
use Rattle.tn_link.specs.LinkView.{LinkView}
use Rattle.tn_node.specs.Deed.{Deed}
use Rattle.tn_node.specs.Deed as deed
use Rattle.tn_node.specs.SamePacket.{is_packet}
use Rattle.tn_rest.specs.declared.facts.Facts.{Facts}
use Rattle.tn_rest.specs.RestView.{Gets, Sends, Works}
use Rattle.tn_rest.specs.Seen.{Detector, Link, Visited}
use Rattle.tn_router.specs.Rows.{router_deed}
use Rattle.tn_router.specs.RouterView.{RouterView, now_by as router_now_by, with_now as router_with_now}
use Rattle.tn_rows.specs.Events.{after}
use Rattle.tn_rows.specs.PartView.{PartView, TileV, RouterV, LinkV, HostV, DetectorV, AbsentV}
use Rattle.tn_rows.specs.Places.{link_side, link_way}
use Rattle.tn_stamp.specs.declared.entry.Crossing.{Crossing}
use Rattle.tn_stamp.specs.declared.entry.Crossing.TheVariants as crossing
use Rattle.tn_tile.specs.Rows.{tile_deed}
use Rattle.tn_tile.specs.TileView.{TileView, now_by, with_now}
use Rattle.tn_tile.proofs.Steps.{taken}
use Rattle.tn_quiet.specs.Machine.{shows}
use Rattle.tn_quiet.specs.Shows.{DoesDeed, host_shows, router_shows, tile_shows}
use Rattle.tn_quiet.proofs.Detectors.{detector_does}
use Rattle.tn_quiet.proofs.Hosts.{host_does}
use Rattle.tn_quiet.proofs.Routers.{router_does}
use Rattle.tn_quiet.proofs.Tiles.{kept_by, tile_does}

-- a visited part did something
pub record Did (R : Facts → Facts → Type 0) (x y : PartView) : Type 0 where
  pub before : Facts
  pub behind : Facts
  pub was : shows x ≡ Visited before
  pub is : shows y ≡ Visited behind
  pub does : R before behind

tile_did : (d : Deed) (v : TileView) (y : PartView) → option_map TileV (now_by v (tile_deed v.plan d v.now)) ≡ Some y → Did (DoesDeed d) (TileV v) y
tile_did d v y h =
    let m = kept_by TileV (now_by v (tile_deed v.plan d v.now)) y h in
    let t = kept_by (with_now v) (tile_deed v.plan d v.now) m.0 m.1 in
    record {
      before = tile_shows v.now;
      behind = tile_shows t.0;
      was = refl;
      is = ap shows m.2 ∙ ap (λ (x : TileView). shows (TileV x)) t.2;
      does = tile_does v.plan d v.now t.0 t.1;
    }

router_did : (d : Deed) (v : RouterView) (y : PartView) → option_map RouterV (router_now_by v (router_deed v.plan d v.now)) ≡ Some y → Did (DoesDeed d) (RouterV v) y
router_did d v y h =
    let m = kept_by RouterV (router_now_by v (router_deed v.plan d v.now)) y h in
    let t = kept_by (router_with_now v) (router_deed v.plan d v.now) m.0 m.1 in
    record {
      before = router_shows v.now;
      behind = router_shows t.0;
      was = refl;
      is = ap shows m.2 ∙ ap (λ (x : RouterView). shows (RouterV x)) t.2;
      does = router_does v.plan d v.now t.0 t.1;
    }

host_did : (d : Deed) (s : HostState) (y : PartView) → option_map HostV (host_deed d s) ≡ Some y → Did (DoesDeed d) (HostV s) y
host_did d s y h =
    let m = kept_by HostV (host_deed d s) y h in
    record { before = host_shows s; behind = host_shows m.0; was = refl; is = ap shows m.2; does = host_does d s m.0 m.1 }

-- ---- events on one part

pub turn_did : (t : ThreadId) (n : ℕ) (x y : PartView) → after (event.Turn t n) crossing.None x ≡ Some y → Did Works x y
turn_did t n (TileV v) y h = tile_did (deed.Turn t n) v y h
turn_did t n (RouterV v) y h = cc h
turn_did t n (LinkV v) y h = cc h
turn_did t n (HostV s) y h = cc h
turn_did t n (DetectorV v) y h = cc h
turn_did t n AbsentV y h = cc h

pub deliver_did : (t : ThreadId) (x y : PartView) → after (event.Deliver t) crossing.None x ≡ Some y → Did Works x y
deliver_did t (TileV v) y h = tile_did (deed.Deliver t) v y h
deliver_did t (RouterV v) y h = cc h
deliver_did t (LinkV v) y h = cc h
deliver_did t (HostV s) y h = cc h
deliver_did t (DetectorV v) y h = cc h
deliver_did t AbsentV y h = cc h

pub route_did : (p : PartId) (x y : PartView) → after (event.Route p) crossing.None x ≡ Some y → Did Works x y
route_did p (TileV v) y h = cc h
route_did p (RouterV v) y h = router_did deed.Route v y h
route_did p (LinkV v) y h = cc h
route_did p (HostV s) y h = cc h
route_did p (DetectorV v) y h = cc h
route_did p AbsentV y h = cc h

-- the detector did something
pub record DetectorDid (R : ℕ → DetectorState → DetectorState → Type 0) (x y : PartView) : Type 0 where
  pub visited : ℕ
  pub before : DetectorState
  pub behind : DetectorState
  pub part : x ≡ DetectorV (record { visited = visited; now = before })
  pub was : shows x ≡ Detector before
  pub is : shows y ≡ Detector behind
  pub does : R visited before behind

detector_did : (d : Deed) (v : DetectorView) (y : PartView) → option_map DetectorV (detector_now_by v (detector_deed v.visited d v.now)) ≡ Some y → DetectorDid (λ n. DetectorDoes n d) (DetectorV v) y
detector_did d v y h =
    let m = kept_by DetectorV (detector_now_by v (detector_deed v.visited d v.now)) y h in
    let t = kept_by (detector_with_now v) (detector_deed v.visited d v.now) m.0 m.1 in
    record {
      visited = v.visited;
      before = v.now;
      behind = t.0;
      part = refl;
      was = refl;
      is = ap shows m.2 ∙ ap (λ (x : DetectorView). shows (DetectorV x)) t.2;
      does = detector_does v.visited d v.now t.0 t.1;
    }

pub begin_did : (x y : PartView) → after event.Begin crossing.None x ≡ Some y → DetectorDid (λ n. DetectorDoes n deed.Begin) x y
begin_did (TileV v) y h = cc h
begin_did (RouterV v) y h = cc h
begin_did (LinkV v) y h = cc h
begin_did (HostV s) y h = cc h
begin_did (DetectorV v) y h = detector_did deed.Begin v y h
begin_did AbsentV y h = cc h

pub announce_did : (x y : PartView) → after event.Announce crossing.None x ≡ Some y → DetectorDid (λ n. DetectorDoes n deed.Announce) x y
announce_did (TileV v) y h = cc h
announce_did (RouterV v) y h = cc h
announce_did (LinkV v) y h = cc h
announce_did (HostV s) y h = cc h
announce_did (DetectorV v) y h = detector_did deed.Announce v y h
announce_did AbsentV y h = cc h

-- ---- the sides of visited parts in events on two

-- a part is a tile, a router or the host; a part is a link; and a part is a detector
abbrev pub IsVisitedPart : PartView → Type 0
IsVisitedPart (TileV v) = Unit {0}
IsVisitedPart (RouterV v) = Unit {0}
IsVisitedPart (LinkV v) = ⊥
IsVisitedPart (HostV s) = Unit {0}
IsVisitedPart (DetectorV v) = ⊥
IsVisitedPart AbsentV = ⊥

abbrev pub IsDetectorPart : PartView → Type 0
IsDetectorPart (TileV v) = ⊥
IsDetectorPart (RouterV v) = ⊥
IsDetectorPart (LinkV v) = ⊥
IsDetectorPart (HostV s) = ⊥
IsDetectorPart (DetectorV v) = Unit {0}
IsDetectorPart AbsentV = ⊥

abbrev pub IsLink : PartView → Type 0
IsLink (TileV v) = ⊥
IsLink (RouterV v) = ⊥
IsLink (LinkV v) = Unit {0}
IsLink (HostV s) = ⊥
IsLink (DetectorV v) = ⊥
IsLink AbsentV = ⊥

pub give_did : (p l : PartId) (c : Crossing) (x y : PartView) → IsVisitedPart x → after (event.Depart p l) c x ≡ Some y → Did Sends x y
give_did p l (crossing.Packet k) (TileV v) y n h = tile_did (deed.Give (link_way v.plan.shape l.0) k) v y h
give_did p l (crossing.Packet k) (RouterV v) y n h = router_did (deed.Give (link_way v.plan.shape l.0) k) v y h
give_did p l (crossing.Packet k) (HostV s) y n h = cc h
give_did p l crossing.None (TileV v) y n h = cc h
give_did p l crossing.None (RouterV v) y n h = cc h
give_did p l crossing.None (HostV s) y n h = cc h
give_did p l (crossing.View f) (TileV v) y n h = cc h
give_did p l (crossing.View f) (RouterV v) y n h = cc h
give_did p l (crossing.View f) (HostV s) y n h = cc h
give_did p l c (LinkV v) y n h = absurd n
give_did p l c (DetectorV v) y n h = absurd n
give_did p l c AbsentV y n h = absurd n

pub take_did : (l p : PartId) (c : Crossing) (x y : PartView) → IsVisitedPart x → after (event.Arrive l p) c x ≡ Some y → Did Gets x y
take_did l p (crossing.Packet k) (TileV v) y n h = tile_did (deed.Take (link_side v.plan.shape l.0) k) v y h
take_did l p (crossing.Packet k) (RouterV v) y n h = router_did (deed.Take (link_side v.plan.shape l.0) k) v y h
take_did l p (crossing.Packet k) (HostV s) y n h = cc h
take_did l p crossing.None (TileV v) y n h = cc h
take_did l p crossing.None (RouterV v) y n h = cc h
take_did l p crossing.None (HostV s) y n h = cc h
take_did l p (crossing.View f) (TileV v) y n h = cc h
take_did l p (crossing.View f) (RouterV v) y n h = cc h
take_did l p (crossing.View f) (HostV s) y n h = cc h
take_did l p c (LinkV v) y n h = absurd n
take_did l p c (DetectorV v) y n h = absurd n
take_did l p c AbsentV y n h = absurd n

pub host_put_did : (c : Crossing) (x y : PartView) → IsVisitedPart x → after event.HostPut c x ≡ Some y → Did Sends x y
host_put_did (crossing.Packet k) (TileV v) y n h = cc h
host_put_did (crossing.Packet k) (RouterV v) y n h = cc h
host_put_did (crossing.Packet k) (HostV s) y n h = host_did (deed.HostPut k) s y h
host_put_did crossing.None (TileV v) y n h = cc h
host_put_did crossing.None (RouterV v) y n h = cc h
host_put_did crossing.None (HostV s) y n h = cc h
host_put_did (crossing.View f) (TileV v) y n h = cc h
host_put_did (crossing.View f) (RouterV v) y n h = cc h
host_put_did (crossing.View f) (HostV s) y n h = cc h
host_put_did c (LinkV v) y n h = absurd n
host_put_did c (DetectorV v) y n h = absurd n
host_put_did c AbsentV y n h = absurd n

pub host_take_did : (c : Crossing) (x y : PartView) → IsVisitedPart x → after event.HostTake c x ≡ Some y → Did Gets x y
host_take_did (crossing.Packet k) (TileV v) y n h = cc h
host_take_did (crossing.Packet k) (RouterV v) y n h = cc h
host_take_did (crossing.Packet k) (HostV s) y n h = host_did (deed.HostTake k) s y h
host_take_did crossing.None (TileV v) y n h = cc h
host_take_did crossing.None (RouterV v) y n h = cc h
host_take_did crossing.None (HostV s) y n h = cc h
host_take_did (crossing.View f) (TileV v) y n h = cc h
host_take_did (crossing.View f) (RouterV v) y n h = cc h
host_take_did (crossing.View f) (HostV s) y n h = cc h
host_take_did c (LinkV v) y n h = absurd n
host_take_did c (DetectorV v) y n h = absurd n
host_take_did c AbsentV y n h = absurd n

-- ---- the sides of links

pub record Fuller (x y : PartView) : Type 0 where
  pub count : ℕ
  pub was : shows x ≡ Link count
  pub is : shows y ≡ Link (count + 1)

pub record Emptier (x y : PartView) : Type 0 where
  pub count : ℕ
  pub was : shows x ≡ Link (count + 1)
  pub is : shows y ≡ Link count

put_fuller : (k : Packet) (v : LinkView) (y : PartView) → option_map LinkV (put_in k v) ≡ Some y → Fuller (LinkV v) y
put_fuller k v y h =
    let m = kept_by LinkV (put_in k v) y h in
    let z = kept_by (λ (x : LinkView). x) (put_in k v) m.0 (ap (option_map (λ (x : LinkView). x)) m.1) in
    let put = (taken _ (Some (record { packets = v.packets ++ k ∷ []; capacity = v.capacity })) m.0 m.1).1 in
    let more : length (v.packets ++ k ∷ []) ≡ length v.packets + 1 = length-append v.packets (k ∷ []) in
    let same : record { packets = v.packets ++ k ∷ []; capacity = v.capacity } ≡ m.0 = cc put in
    record { count = length v.packets; was = refl; is = ap shows m.2 ∙ (sym (ap (λ (x : LinkView). Link (length x.packets)) same) ∙ ap Link more) }

rest_emptier : (ps : List Packet) (capacity : ℕ) (z : LinkView) → rest_in capacity ps ≡ Some z → length ps ≡ length z.packets + 1
rest_emptier [] capacity z h = cc h
rest_emptier (p ∷ ps) capacity z h =
    let same : record { packets = ps; capacity = capacity } ≡ z = cc h in
    let long : length ps ≡ length z.packets = ap (λ (x : LinkView). length x.packets) same in
    omega arith

take_emptier : (k : Packet) (v : LinkView) (y : PartView) → option_map LinkV (cond (is_packet k (front_of v)) (take_from v) None) ≡ Some y → Emptier (LinkV v) y
take_emptier k v y h =
    let m = kept_by LinkV (cond (is_packet k (front_of v)) (take_from v) None) y h in
    let row = (taken (is_packet k (front_of v)) (take_from v) m.0 m.1).1 in
    record { count = length m.0.packets; was = ap Link (rest_emptier v.packets v.capacity m.0 row); is = ap shows m.2 }

pub depart_fuller : (p l : PartId) (c : Crossing) (x y : PartView) → IsLink x → after (event.Depart p l) c x ≡ Some y → Fuller x y
depart_fuller p l (crossing.Packet k) (LinkV v) y i h = put_fuller k v y h
depart_fuller p l crossing.None (LinkV v) y i h = cc h
depart_fuller p l (crossing.View f) (LinkV v) y i h = cc h
depart_fuller p l c (TileV v) y i h = absurd i
depart_fuller p l c (RouterV v) y i h = absurd i
depart_fuller p l c (HostV s) y i h = absurd i
depart_fuller p l c (DetectorV v) y i h = absurd i
depart_fuller p l c AbsentV y i h = absurd i

pub put_fuller_link : (c : Crossing) (x y : PartView) → IsLink x → after event.HostPut c x ≡ Some y → Fuller x y
put_fuller_link (crossing.Packet k) (LinkV v) y i h = put_fuller k v y h
put_fuller_link crossing.None (LinkV v) y i h = cc h
put_fuller_link (crossing.View f) (LinkV v) y i h = cc h
put_fuller_link c (TileV v) y i h = absurd i
put_fuller_link c (RouterV v) y i h = absurd i
put_fuller_link c (HostV s) y i h = absurd i
put_fuller_link c (DetectorV v) y i h = absurd i
put_fuller_link c AbsentV y i h = absurd i

pub arrive_emptier : (l p : PartId) (c : Crossing) (x y : PartView) → IsLink x → after (event.Arrive l p) c x ≡ Some y → Emptier x y
arrive_emptier l p (crossing.Packet k) (LinkV v) y i h = take_emptier k v y h
arrive_emptier l p crossing.None (LinkV v) y i h = cc h
arrive_emptier l p (crossing.View f) (LinkV v) y i h = cc h
arrive_emptier l p c (TileV v) y i h = absurd i
arrive_emptier l p c (RouterV v) y i h = absurd i
arrive_emptier l p c (HostV s) y i h = absurd i
arrive_emptier l p c (DetectorV v) y i h = absurd i
arrive_emptier l p c AbsentV y i h = absurd i

pub take_emptier_link : (c : Crossing) (x y : PartView) → IsLink x → after event.HostTake c x ≡ Some y → Emptier x y
take_emptier_link (crossing.Packet k) (LinkV v) y i h = take_emptier k v y h
take_emptier_link crossing.None (LinkV v) y i h = cc h
take_emptier_link (crossing.View f) (LinkV v) y i h = cc h
take_emptier_link c (TileV v) y i h = absurd i
take_emptier_link c (RouterV v) y i h = absurd i
take_emptier_link c (HostV s) y i h = absurd i
take_emptier_link c (DetectorV v) y i h = absurd i
take_emptier_link c AbsentV y i h = absurd i

-- ---- events on a part and the detector

pub report_part : (p : PartId) (c : Crossing) (x y : PartView) → IsVisitedPart x → after (event.Report p) c x ≡ Some y → (f : PartFacts) × (c ≡ crossing.View f) × Did (DoesDeed (deed.Report p.0 f)) x y
report_part p crossing.None (TileV v) y n h = cc h
report_part p (crossing.Packet k) (TileV v) y n h = cc h
report_part p (crossing.View f) (TileV v) y n h = (f, refl, tile_did (deed.Report p.0 f) v y h)
report_part p crossing.None (RouterV v) y n h = cc h
report_part p (crossing.Packet k) (RouterV v) y n h = cc h
report_part p (crossing.View f) (RouterV v) y n h = (f, refl, router_did (deed.Report p.0 f) v y h)
report_part p crossing.None (HostV s) y n h = cc h
report_part p (crossing.Packet k) (HostV s) y n h = cc h
report_part p (crossing.View f) (HostV s) y n h = (f, refl, host_did (deed.Report p.0 f) s y h)
report_part p c (LinkV v) y n h = absurd n
report_part p c (DetectorV v) y n h = absurd n
report_part p c AbsentV y n h = absurd n

pub report_detector : (p : PartId) (f : PartFacts) (x y : PartView) → IsDetectorPart x → after (event.Report p) (crossing.View f) x ≡ Some y → DetectorDid (λ n. DetectorDoes n (deed.Report p.0 f)) x y
report_detector p f (TileV v) y n h = absurd n
report_detector p f (RouterV v) y n h = absurd n
report_detector p f (LinkV v) y n h = absurd n
report_detector p f (HostV s) y n h = absurd n
report_detector p f (DetectorV v) y n h = detector_did (deed.Report p.0 f) v y h
report_detector p f AbsentV y n h = absurd n

pub confirm_part : (p : PartId) (c : Crossing) (x y : PartView) → IsVisitedPart x → after (event.Confirm p) c x ≡ Some y → (f : PartFacts) × (c ≡ crossing.View f) × Did (DoesDeed (deed.Confirm p.0 f)) x y
confirm_part p crossing.None (TileV v) y n h = cc h
confirm_part p (crossing.Packet k) (TileV v) y n h = cc h
confirm_part p (crossing.View f) (TileV v) y n h = (f, refl, tile_did (deed.Confirm p.0 f) v y h)
confirm_part p crossing.None (RouterV v) y n h = cc h
confirm_part p (crossing.Packet k) (RouterV v) y n h = cc h
confirm_part p (crossing.View f) (RouterV v) y n h = (f, refl, router_did (deed.Confirm p.0 f) v y h)
confirm_part p crossing.None (HostV s) y n h = cc h
confirm_part p (crossing.Packet k) (HostV s) y n h = cc h
confirm_part p (crossing.View f) (HostV s) y n h = (f, refl, host_did (deed.Confirm p.0 f) s y h)
confirm_part p c (LinkV v) y n h = absurd n
confirm_part p c (DetectorV v) y n h = absurd n
confirm_part p c AbsentV y n h = absurd n

pub confirm_detector : (p : PartId) (f : PartFacts) (x y : PartView) → IsDetectorPart x → after (event.Confirm p) (crossing.View f) x ≡ Some y → DetectorDid (λ n. DetectorDoes n (deed.Confirm p.0 f)) x y
confirm_detector p f (TileV v) y n h = absurd n
confirm_detector p f (RouterV v) y n h = absurd n
confirm_detector p f (LinkV v) y n h = absurd n
confirm_detector p f (HostV s) y n h = absurd n
confirm_detector p f (DetectorV v) y n h = detector_did (deed.Confirm p.0 f) v y h
confirm_detector p f AbsentV y n h = absurd n

pub release_part : (p : PartId) (c : Crossing) (x y : PartView) → IsVisitedPart x → after (event.Release p) c x ≡ Some y → (f : PartFacts) × (c ≡ crossing.View f) × Did (DoesDeed (deed.Release p.0 f)) x y
release_part p crossing.None (TileV v) y n h = cc h
release_part p (crossing.Packet k) (TileV v) y n h = cc h
release_part p (crossing.View f) (TileV v) y n h = (f, refl, tile_did (deed.Release p.0 f) v y h)
release_part p crossing.None (RouterV v) y n h = cc h
release_part p (crossing.Packet k) (RouterV v) y n h = cc h
release_part p (crossing.View f) (RouterV v) y n h = (f, refl, router_did (deed.Release p.0 f) v y h)
release_part p crossing.None (HostV s) y n h = cc h
release_part p (crossing.Packet k) (HostV s) y n h = cc h
release_part p (crossing.View f) (HostV s) y n h = (f, refl, host_did (deed.Release p.0 f) s y h)
release_part p c (LinkV v) y n h = absurd n
release_part p c (DetectorV v) y n h = absurd n
release_part p c AbsentV y n h = absurd n

pub release_detector : (p : PartId) (f : PartFacts) (x y : PartView) → IsDetectorPart x → after (event.Release p) (crossing.View f) x ≡ Some y → DetectorDid (λ n. DetectorDoes n (deed.Release p.0 f)) x y
release_detector p f (TileV v) y n h = absurd n
release_detector p f (RouterV v) y n h = absurd n
release_detector p f (LinkV v) y n h = absurd n
release_detector p f (HostV s) y n h = absurd n
release_detector p f (DetectorV v) y n h = detector_did (deed.Release p.0 f) v y h
release_detector p f AbsentV y n h = absurd n

pub go_part : (p : PartId) (c : Crossing) (x y : PartView) → IsVisitedPart x → after (event.Go p) c x ≡ Some y → (f : PartFacts) × (c ≡ crossing.View f) × Did (DoesDeed (deed.Go p.0 f)) x y
go_part p crossing.None (TileV v) y n h = cc h
go_part p (crossing.Packet k) (TileV v) y n h = cc h
go_part p (crossing.View f) (TileV v) y n h = (f, refl, tile_did (deed.Go p.0 f) v y h)
go_part p crossing.None (RouterV v) y n h = cc h
go_part p (crossing.Packet k) (RouterV v) y n h = cc h
go_part p (crossing.View f) (RouterV v) y n h = (f, refl, router_did (deed.Go p.0 f) v y h)
go_part p crossing.None (HostV s) y n h = cc h
go_part p (crossing.Packet k) (HostV s) y n h = cc h
go_part p (crossing.View f) (HostV s) y n h = (f, refl, host_did (deed.Go p.0 f) s y h)
go_part p c (LinkV v) y n h = absurd n
go_part p c (DetectorV v) y n h = absurd n
go_part p c AbsentV y n h = absurd n

pub go_detector : (p : PartId) (f : PartFacts) (x y : PartView) → IsDetectorPart x → after (event.Go p) (crossing.View f) x ≡ Some y → DetectorDid (λ n. DetectorDoes n (deed.Go p.0 f)) x y
go_detector p f (TileV v) y n h = absurd n
go_detector p f (RouterV v) y n h = absurd n
go_detector p f (LinkV v) y n h = absurd n
go_detector p f (HostV s) y n h = absurd n
go_detector p f (DetectorV v) y n h = detector_did (deed.Go p.0 f) v y h
go_detector p f AbsentV y n h = absurd n
