-- Events keep what is at each place.
use Rattle.std.proofs.Common.{ℕ, ◌≡◌, ◌++◌, ◌∷◌, [], List, length, set, get_or, cond, refl, sym, ap, subst, ◌∙◌, arith, inl, inr, Bool, true, false, not, ◌&&◌, Option, Some, None}
use Rattle.std.proofs.lemmas.Bool.{cases_eq}
use Rattle.std.proofs.lemmas.List.{get_or-set_other, get_or-set_same, length-replicate, length-set}
use Rattle.tn_base.specs.declared.event.Event.{Event}
use Rattle.tn_base.specs.declared.event.Event.TheVariants as event
use Rattle.tn_base.specs.declared.message.Packet.{Packet}
use Rattle.tn_base.specs.declared.part.Kind.{Kind}
use Rattle.tn_base.specs.declared.part.Kind.TheVariants as kind
use Rattle.tn_base.specs.declared.shape.ShapeNumbers.{ShapeNumbers}
use Rattle.tn_base.specs.Parts.{kind_of}
use Rattle.tn_detect.specs.declared.facts.PartView.{PartView as Told}
use Rattle.tn_detect.specs.declared.state.DetectorState.{DetectorState}
use Rattle.tn_detect.specs.DetectorView.{DetectorView, now_by as detector_now_by, with_now as detector_with_now}
use Rattle.tn_detect.specs.Rows.{confirmed, failed, passed}
use Rattle.tn_host.specs.HostView.{HostState}
use Rattle.tn_link.specs.LinkRows.{front_of, put_in, rest_in, take_from}
use Rattle.tn_link.specs.LinkView.{LinkView}
use Rattle.tn_node.specs.Deed.{Deed}
use Rattle.tn_node.specs.Deed as deed
use Rattle.tn_node.specs.SamePacket.{is_packet}
use Rattle.tn_rest.proofs.RowsTell.{announce_tells, begin_tells, confirm_tells, go_tells, release_tells, report_tells, taken}
use Rattle.tn_router.specs.declared.state.RouterState.{RouterState}
use Rattle.tn_router.specs.RouterView.{RouterView, now_by as router_now_by, with_now as router_with_now}
use Rattle.tn_rows.specs.DetectorDeed.{DetectorDoes, view_of}
use Rattle.tn_rows.specs.Events.{FitsKind, IsWorld, Met, after, deed_of, detector_did, host_row, link_row, plain_deed, router_did, tile_did, with_both, with_part}
use Rattle.tn_rows.specs.PartView.{PartView, TileV, RouterV, LinkV, HostV, DetectorV, AbsentV}
use Rattle.tn_rows.specs.WorldView.{WorldView}
use Rattle.tn_stamp.specs.declared.entry.Crossing.{Crossing}
use Rattle.tn_stamp.specs.declared.entry.Crossing.TheVariants as crossing
use Rattle.tn_tile.specs.declared.state.TileState.{TileState}
use Rattle.tn_tile.specs.TileView.{TileView, now_by, with_now}
use Rattle.tn_quiet.proofs.Detectors.{detector_does}
use Rattle.tn_quiet.proofs.Tiles.{kept_by}

-- ---- a detector keeps its places

confirmed_places : (i : ℕ) (v : Told) (s : DetectorState) → length (confirmed i v s).reports ≡ length s.reports
confirmed_places i v s = by (v.still && not v.black) where
  by : (b : Bool) → length (cond b (passed i v s) (failed i s)).reports ≡ length s.reports
  by true = refl
  by false = length-set s.reports i None

places_of : (s t : DetectorState) → t ≡ s → length t.reports ≡ length s.reports
places_of s t e = ap (λ (x : DetectorState). length x.reports) e

does_places : (n : ℕ) (d : Deed) (s t : DetectorState) → DetectorDoes n d s t → length t.reports ≡ length s.reports
does_places n (deed.Report i f) s t h = places_of _ t (report_tells i (view_of f) s t h.2).is ∙ length-set s.reports i (Some f.counter)
does_places n deed.Begin s t h = places_of _ t (begin_tells s t h).is
does_places n (deed.Confirm i f) s t h = places_of _ t (confirm_tells n i (view_of f) s t h.0 h.2).is ∙ confirmed_places i (view_of f) s
does_places n deed.Announce s t h = places_of _ t (announce_tells n s t h).is ∙ length-replicate (length s.reports) None
does_places n (deed.Release i f) s t h = places_of _ t (release_tells n i s t h.0 h.2).is
does_places n (deed.Go i f) s t h = places_of _ t (go_tells n i s t h.0 h.2).is
does_places n (deed.Turn a k) s t h = absurd h
does_places n (deed.Deliver a) s t h = absurd h
does_places n (deed.Give way k) s t h = absurd h
does_places n (deed.Take side k) s t h = absurd h
does_places n deed.Route s t h = absurd h
does_places n (deed.HostPut k) s t h = absurd h
does_places n (deed.HostTake k) s t h = absurd h

did_places : (n : ℕ) (s t : DetectorState) (o : Option Deed) → detector_did n s o ≡ Some t → length t.reports ≡ length s.reports
did_places n s t None h = cc h
did_places n s t (Some d) h = does_places n d s t (detector_does n d s t h)

-- ---- a link keeps its capacity

put_room : (k : Packet) (v z : LinkView) → put_in k v ≡ Some z → z.capacity ≡ v.capacity
put_room k v z h = ap (λ (x : LinkView). x.capacity) (taken _ (record { packets = v.packets ++ k ∷ []; capacity = v.capacity }) z h).1

rest_room : (ps : List Packet) (capacity : ℕ) (z : LinkView) → rest_in capacity ps ≡ Some z → z.capacity ≡ capacity
rest_room [] capacity z h = cc h
rest_room (p ∷ ps) capacity z h = let same : record { packets = ps; capacity = capacity } ≡ z = cc h in sym (ap (λ (x : LinkView). x.capacity) same)

take_room : (b : Bool) (v z : LinkView) → cond b (take_from v) None ≡ Some z → z.capacity ≡ v.capacity
take_room true v z h = rest_room v.packets v.capacity z h
take_room false v z h = cc h

link_room : (e : Event) (c : Crossing) (v z : LinkView) → link_row e c v ≡ Some z → z.capacity ≡ v.capacity
link_room (event.Depart p l) (crossing.Packet k) v z h = put_room k v z h
link_room (event.Arrive l p) (crossing.Packet k) v z h = take_room (is_packet k (front_of v)) v z h
link_room event.HostPut (crossing.Packet k) v z h = put_room k v z h
link_room event.HostTake (crossing.Packet k) v z h = take_room (is_packet k (front_of v)) v z h
link_room (event.Depart p l) crossing.None v z h = cc h
link_room (event.Depart p l) (crossing.View f) v z h = cc h
link_room (event.Arrive l p) crossing.None v z h = cc h
link_room (event.Arrive l p) (crossing.View f) v z h = cc h
link_room event.HostPut crossing.None v z h = cc h
link_room event.HostPut (crossing.View f) v z h = cc h
link_room event.HostTake crossing.None v z h = cc h
link_room event.HostTake (crossing.View f) v z h = cc h
link_room (event.Turn t n) c v z h = cc h
link_room (event.Deliver t) c v z h = cc h
link_room (event.Route p) c v z h = cc h
link_room (event.Report p) c v z h = cc h
link_room event.Begin c v z h = cc h
link_room (event.Confirm p) c v z h = cc h
link_room event.Announce c v z h = cc h
link_room (event.Release p) c v z h = cc h
link_room (event.Go p) c v z h = cc h

-- ---- a part stays what it is

tile_stays : (n : ShapeNumbers) (k : Kind) (v : TileView) (t : TileState) → FitsKind n k (TileV v) → FitsKind n k (TileV (with_now v t))
tile_stays n (kind.Tile a) v t f = f
tile_stays n (kind.Router b) v t f = f
tile_stays n (kind.Link a b) v t f = f
tile_stays n kind.Host v t f = f
tile_stays n kind.Detector v t f = f

router_stays : (n : ShapeNumbers) (k : Kind) (v : RouterView) (t : RouterState) → FitsKind n k (RouterV v) → FitsKind n k (RouterV (router_with_now v t))
router_stays n (kind.Tile a) v t f = f
router_stays n (kind.Router b) v t f = f
router_stays n (kind.Link a b) v t f = f
router_stays n kind.Host v t f = f
router_stays n kind.Detector v t f = f

link_stays : (n : ShapeNumbers) (k : Kind) (v z : LinkView) → z.capacity ≡ v.capacity → FitsKind n k (LinkV v) → FitsKind n k (LinkV z)
link_stays n (kind.Tile a) v z e f = f
link_stays n (kind.Router b) v z e f = f
link_stays n (kind.Link a b) v z e f = e ∙ f
link_stays n kind.Host v z e f = f
link_stays n kind.Detector v z e f = f

host_stays : (n : ShapeNumbers) (k : Kind) (s t : HostState) → FitsKind n k (HostV s) → FitsKind n k (HostV t)
host_stays n (kind.Tile a) s t f = f
host_stays n (kind.Router b) s t f = f
host_stays n (kind.Link a b) s t f = f
host_stays n kind.Host s t f = f
host_stays n kind.Detector s t f = f

detector_stays : (n : ShapeNumbers) (k : Kind) (v : DetectorView) (t : DetectorState) → length t.reports ≡ length v.now.reports → FitsKind n k (DetectorV v) → FitsKind n k (DetectorV (detector_with_now v t))
detector_stays n (kind.Tile a) v t e f = f
detector_stays n (kind.Router b) v t e f = f
detector_stays n (kind.Link a b) v t e f = f
detector_stays n kind.Host v t e f = f
detector_stays n kind.Detector v t e f = (f.0, record { some = f.1.some; places = e ∙ f.1.places })

pub stays : (n : ShapeNumbers) (k : Kind) (e : Event) (c : Crossing) (x y : PartView) → after e c x ≡ Some y → FitsKind n k x → FitsKind n k y
stays n k e c (TileV v) y h f =
    let m = kept_by TileV (now_by v (tile_did v.plan v.now (deed_of v.plan.shape e c))) y h in
    let t = kept_by (with_now v) (tile_did v.plan v.now (deed_of v.plan.shape e c)) m.0 m.1 in
    subst (FitsKind n k) (sym (m.2 ∙ ap TileV t.2)) (tile_stays n k v t.0 f)
stays n k e c (RouterV v) y h f =
    let m = kept_by RouterV (router_now_by v (router_did v.plan v.now (deed_of v.plan.shape e c))) y h in
    let t = kept_by (router_with_now v) (router_did v.plan v.now (deed_of v.plan.shape e c)) m.0 m.1 in
    subst (FitsKind n k) (sym (m.2 ∙ ap RouterV t.2)) (router_stays n k v t.0 f)
stays n k e c (LinkV v) y h f =
    let m = kept_by LinkV (link_row e c v) y h in
    subst (FitsKind n k) (sym m.2) (link_stays n k v m.0 (link_room e c v m.0 m.1) f)
stays n k e c (HostV s) y h f =
    let m = kept_by HostV (host_row e c s) y h in
    subst (FitsKind n k) (sym m.2) (host_stays n k s m.0 f)
stays n k e c (DetectorV v) y h f =
    let m = kept_by DetectorV (detector_now_by v (detector_did v.visited v.now (plain_deed e c))) y h in
    let t = kept_by (detector_with_now v) (detector_did v.visited v.now (plain_deed e c)) m.0 m.1 in
    subst (FitsKind n k) (sym (m.2 ∙ ap DetectorV t.2)) (detector_stays n k v t.0 (did_places v.visited v.now t.0 (plain_deed e c) t.1) f)
stays n k e c AbsentV y h f = cc h

-- a machine in which a part is written that fits its place
pub one_world : (w : WorldView) (p : ℕ) (y : PartView) → IsWorld w → FitsKind w.shape (kind_of w.shape p) y → IsWorld (with_part w p y)
one_world w p y made f = record {
  count = length-set w.parts p y ∙ made.count;
  each = λ i l. elim (cases_eq i p) [
    | inl e ↦ (let count = made.count in subst (λ z. FitsKind w.shape (kind_of w.shape z) (get_or (set w.parts p y) z AbsentV)) (sym e)
        (subst (FitsKind w.shape (kind_of w.shape p)) (sym (get_or-set_same w.parts p y AbsentV (omega arith))) f))
    | inr ne ↦ subst (FitsKind w.shape (kind_of w.shape i)) (sym (get_or-set_other w.parts p i y AbsentV ne)) (made.each i l)
  ];
}

pub both_world : (w : WorldView) (p q : ℕ) (m : Met) → IsWorld w → FitsKind w.shape (kind_of w.shape p) m.low → FitsKind w.shape (kind_of w.shape q) m.high → IsWorld (with_both w p q m)
both_world w p q m made f g = one_world (with_part w p m.low) q m.high (one_world w p m.low made f) g
