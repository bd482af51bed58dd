-- An event keeps what the parts of a machine are.
use Rattle.std.proofs.Common.{◌++◌, ltb, ◌≡◌, ℕ, List, [], ◌∷◌, Some, ◌∙◌, get_or, set, length, ◌<◌, ◌⊎◌, inl, inr, ◌≢◌, ap, subst, sym, unwrap_or, arith}
use Rattle.std.specs.declared.option.Option.{Option}
use Rattle.std.proofs.lemmas.List.{get_or-set_other, length-set}
use Rattle.std.specs.List.{slice_get}
use Rattle.std.proofs.lemmas.Option.{get_or_from_slice_get, slice_get-get_or, slice_get_within}
use Rattle.std.proofs.lemmas.Grind.{get_or-set_at}
use Rattle.std.proofs.lemmas.Bool.{cases_order}
use Rattle.tn_base.specs.declared.event.Event.{Event}
use Rattle.tn_base.specs.declared.event.Event.TheVariants as event
use Rattle.tn_base.specs.declared.message.Packet.{Packet}
use Rattle.tn_base.specs.declared.part.Kind.{Kind}
use Rattle.tn_base.specs.declared.part.Kind.TheVariants as kind
use Rattle.tn_base.specs.declared.shape.ShapeNumbers.{ShapeNumbers}
use Rattle.tn_base.specs.Parts.{kind_of}
use Rattle.tn_host.specs.HostView.{HostState}
use Rattle.tn_link.specs.LinkRows.{front_of, put_in, rest_in, take_from}
use Rattle.tn_link.specs.LinkView.{LinkView}
use Rattle.tn_rows.proofs.Meeting.{Meeting, mapped, meeting}
use Rattle.tn_router.specs.declared.state.RouterState.{RouterState}
use Rattle.tn_router.specs.RouterView.{RouterView, with_now as router_with_now}
use Rattle.tn_detect.specs.declared.state.DetectorState.{DetectorState}
use Rattle.tn_detect.specs.DetectorView.{DetectorView, with_now as detector_with_now}
use Rattle.tn_rows.proofs.Noting.{did_keeps}
use Rattle.tn_rows.specs.Events.{Met, after, deed_of, detector_did, detector_row, plain_deed, host_row, link_row, meets, router_did, router_row, tile_did, tile_row, with_both, FitsKind, IsWorld}
use Rattle.tn_tile.specs.declared.state.TileState.{TileState}
use Rattle.tn_tile.specs.TileView.{TileView, with_now}
use Rattle.tn_rows.specs.PartView.{PartView, TileV, RouterV, LinkV, HostV, DetectorV, AbsentV}
use Rattle.tn_node.specs.SamePacket.{is_packet}
use Rattle.tn_rows.specs.WorldView.{WorldView}
use Rattle.tn_stamp.specs.declared.entry.Crossing.{Crossing}
use Rattle.tn_stamp.specs.declared.entry.Crossing.TheVariants as crossing
use Rattle.tn_tile.proofs.Steps.{taken}

-- a link keeps its capacity
rest_keeps : (capacity : ℕ) (ps : List Packet) (w : LinkView) → rest_in capacity ps ≡ Some w → w.capacity ≡ capacity
rest_keeps capacity [] w e = cc e
rest_keeps capacity (p ∷ ps) w e = ap (λ (o : Option LinkView). (unwrap_or o w).capacity) (sym e)

put_keeps : (k : Packet) (v w : LinkView) → put_in k v ≡ Some w → w.capacity ≡ v.capacity
put_keeps k v w e =
    let new : LinkView = record { packets = v.packets ++ k ∷ []; capacity = v.capacity } in
    let is : Some new ≡ Some w = (taken (ltb (length v.packets) v.capacity) (Some new) w e).1 in
    ap (λ (o : Option LinkView). (unwrap_or o w).capacity) (sym is)

link_keeps : (e : Event) (c : Crossing) (v w : LinkView) → link_row e c v ≡ Some w → w.capacity ≡ v.capacity
link_keeps (event.Depart p l) (crossing.Packet k) v w h = put_keeps k v w h
link_keeps event.HostPut (crossing.Packet k) v w h = put_keeps k v w h
link_keeps event.HostTake (crossing.Packet k) v w h = rest_keeps v.capacity v.packets w (taken (is_packet k (front_of v)) (take_from v) w h).1
link_keeps (event.Arrive l p) (crossing.Packet k) v w h = rest_keeps v.capacity v.packets w (taken (is_packet k (front_of v)) (take_from v) w h).1
link_keeps _ _ v w h = cc h

fits_still : (n : ShapeNumbers) (k : Kind) (v : TileView) (s : TileState) → FitsKind n k (TileV v) → FitsKind n k (TileV (with_now v s))
fits_still n kind.Host v s f = f
fits_still n (kind.Tile tile) v s f = f
fits_still n (kind.Router board) v s f = f
fits_still n (kind.Link a b) v s f = f
fits_still n kind.Detector v s f = f

router_fits : (n : ShapeNumbers) (k : Kind) (v : RouterView) (s : RouterState) → FitsKind n k (RouterV v) → FitsKind n k (RouterV (router_with_now v s))
router_fits n kind.Host v s f = f
router_fits n (kind.Tile tile) v s f = f
router_fits n (kind.Router board) v s f = f
router_fits n (kind.Link a b) v s f = f
router_fits n kind.Detector v s f = f

link_fits : (n : ShapeNumbers) (k : Kind) (v w : LinkView) → w.capacity ≡ v.capacity → FitsKind n k (LinkV v) → FitsKind n k (LinkV w)
link_fits n kind.Host v w s f = f
link_fits n (kind.Tile tile) v w s f = f
link_fits n (kind.Router board) v w s f = f
link_fits n (kind.Link a b) v w s f = s ∙ f
link_fits n kind.Detector v w s f = f

host_fits : (n : ShapeNumbers) (k : Kind) (s t : HostState) → FitsKind n k (HostV s) → FitsKind n k (HostV t)
host_fits n kind.Host s t f = f
host_fits n (kind.Tile tile) s t f = f
host_fits n (kind.Router board) s t f = f
host_fits n (kind.Link a b) s t f = f
host_fits n kind.Detector s t f = f

detector_fits : (n : ShapeNumbers) (k : Kind) (v : DetectorView) (s : DetectorState) → length s.reports ≡ length v.now.reports → FitsKind n k (DetectorV v) → FitsKind n k (DetectorV (detector_with_now v s))
detector_fits n kind.Host v s e f = f
detector_fits n (kind.Tile tile) v s e f = f
detector_fits n (kind.Router board) v s e f = f
detector_fits n (kind.Link a b) v s e f = f
detector_fits n kind.Detector v s e f = (f.0, record { some = f.1.some; places = e ∙ f.1.places })

-- a part stays what it is: an event gives a tile or a router another state, and leaves its plan
pub kind_stays : (e : Event) (c : Crossing) (n : ShapeNumbers) (k : Kind) (old new : PartView) → after e c old ≡ Some new → FitsKind n k old → FitsKind n k new
kind_stays e c n k (TileV v) new h f =
    let m = mapped TileV (tile_row e c v) new h in
    let now = mapped (with_now v) (tile_did v.plan v.now (deed_of v.plan.shape e c)) m.0 m.1 in
    subst (FitsKind n k) (ap TileV now.2 ∙ m.2) (fits_still n k v now.0 f)
kind_stays e c n k (RouterV v) new h f =
    let m = mapped RouterV (router_row e c v) new h in
    let now = mapped (router_with_now v) (router_did v.plan v.now (deed_of v.plan.shape e c)) m.0 m.1 in
    subst (FitsKind n k) (ap RouterV now.2 ∙ m.2) (router_fits n k v now.0 f)
kind_stays e c n k (LinkV v) new h f =
    let m = mapped LinkV (link_row e c v) new h in
    subst (FitsKind n k) m.2 (link_fits n k v m.0 (link_keeps e c v m.0 m.1) f)
kind_stays e c n k (HostV s) new h f =
    let m = mapped HostV (host_row e c s) new h in
    subst (FitsKind n k) m.2 (host_fits n k s m.0 f)
kind_stays e c n k (DetectorV v) new h f =
    let m = mapped DetectorV (detector_row e c v) new h in
    let now = mapped (detector_with_now v) (detector_did v.visited v.now (plain_deed e c)) m.0 m.1 in
    subst (FitsKind n k) (ap DetectorV now.2 ∙ m.2) (detector_fits n k v now.0 (did_keeps v.visited (plain_deed e c) v.now now.0 now.1) f)
kind_stays e c n k AbsentV new h f = cc h

pub apart : (p q : ℕ) → (q < p) ⊎ (p < q) → q ≢ p
apart p q (inl a) e = omega arith
apart p q (inr b) e = omega arith

placed : (n : ShapeNumbers) (parts : List PartView) (p q : ℕ) (old new : PartView) → slice_get parts p ≡ Some old → (FitsKind n (kind_of n p) old → FitsKind n (kind_of n p) new) → FitsKind n (kind_of n q) (get_or parts q AbsentV) → FitsKind n (kind_of n q) (get_or (set parts p new) q AbsentV)
placed n parts p q old new read keeps f =
    let within : p < length parts = slice_get_within parts p old read in
    let was : get_or parts p AbsentV ≡ old = get_or_from_slice_get parts p old AbsentV read in
    elim (cases_order q p) [
      | inl e ↦ rw (get_or-set_at parts p q new AbsentV e within, e) (keeps (rw (← was, ← e) f))
      | inr less ↦ rw (get_or-set_other parts p q new AbsentV (apart p q less)) f
    ]

-- a machine with another part of its kind in a place is one
pub world_keeps : (w : WorldView) (p : ℕ) (old new : PartView) → slice_get w.parts p ≡ Some old → (FitsKind w.shape (kind_of w.shape p) old → FitsKind w.shape (kind_of w.shape p) new) → IsWorld w → IsWorld (record w { parts = set w.parts p new })
world_keeps w p old new read keeps i = record {
  count = length-set w.parts p new ∙ i.count;
  each = λ q h. placed w.shape w.parts p q old new read keeps (i.each q h);
}

-- what stands elsewhere is still there
read_other : (xs : List PartView) (p q : ℕ) (old new x : PartView) → slice_get xs p ≡ Some old → slice_get xs q ≡ Some x → q ≢ p → slice_get (set xs p new) q ≡ Some x
read_other xs p q old new x low high apart =
    let within : q < length xs = slice_get_within xs q x high in
    let size : length (set xs p new) ≡ length xs = length-set xs p new in
    let there : q < length (set xs p new) = omega (arith, within, size) in
    slice_get-get_or (set xs p new) q x there
    ∙ ap (λ y. Some y) (get_or-set_other xs p q new x apart ∙ get_or_from_slice_get xs q x x high)

-- an event on two parts keeps a machine one
pub both_keep : (e : Event) (w : WorldView) (p q : ℕ) (low high : PartView) (m : Met) → q ≢ p → slice_get w.parts p ≡ Some low → slice_get w.parts q ≡ Some high → meets e low high ≡ Some m → IsWorld w → IsWorld (with_both w p q m)
both_keep e w p q low high m apart low_there high_there h i =
    let rows : Meeting e low high m = meeting e low high m h in
    let first : IsWorld (record w { parts = set w.parts p m.low }) = world_keeps w p low m.low low_there (kind_stays e rows.crossing w.shape (kind_of w.shape p) low m.low rows.low_row) i in
    world_keeps (record w { parts = set w.parts p m.low }) q high m.high (read_other w.parts p q low m.low high low_there high_there apart)
    (kind_stays e rows.crossing w.shape (kind_of w.shape q) high m.high rows.high_row) first
