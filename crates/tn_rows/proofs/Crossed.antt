-- Rows of both parts of an event with one crossing are the event.
use Rattle.std.proofs.Common.{◌≡◌, ◌∙◌, ◌&&◌, ℕ, Bool, cond, None, Some, refl, sym, ap, nat_lt, option_map}
use Rattle.std.specs.declared.option.Option.{Option}
use Rattle.std.proofs.lemmas.Bool.{and_parts, eqb-true}
use Rattle.tn_base.specs.declared.event.Event.{Event}
use Rattle.tn_base.specs.declared.event.Event.TheVariants as event
use Rattle.tn_base.specs.declared.ids.PartId.{PartId}
use Rattle.tn_base.specs.declared.message.Packet.{Packet}
use Rattle.tn_base.specs.declared.port.Port.{Port}
use Rattle.tn_base.specs.declared.shape.ShapeNumbers.{ShapeNumbers}
use Rattle.tn_detect.specs.declared.state.DetectorState.{DetectorState}
use Rattle.tn_detect.specs.DetectorView.{DetectorView, now_by as detector_now_by, with_now as detector_with_now}
use Rattle.tn_detect.specs.Notes.{value_of}
use Rattle.tn_detect.specs.Rows.{confirm_row, go_row, release_row, report_row}
use Rattle.tn_host.specs.Rows.{can_depart as can_put, departed as host_departed, gone_on as host_gone_on, host_facts, host_whitened, offered as host_offers, released as host_released}
use Rattle.tn_link.specs.LinkRows.{front_of, take_from}
use Rattle.tn_link.specs.LinkView.{LinkView}
use Rattle.tn_node.specs.declared.facts.PartFacts.{PartFacts}
use Rattle.tn_node.specs.declared.node.Node.{Node}
use Rattle.tn_node.specs.NodeRows.{depart_row, give_row, offered}
use Rattle.tn_node.specs.SamePacket.{is_packet}
use Rattle.tn_node.proofs.Agreed.{own_taken, still_taken}
use Rattle.tn_router.specs.Rows.{gone_on as router_gone_on, released as router_released, router_facts, router_whitened, with_node as router_with_node}
use Rattle.tn_router.specs.RouterView.{now_by as router_now_by, with_now as router_with_now}
use Rattle.tn_rows.specs.DetectorDeed.{answers, confirms, lets_go, releases, view_of}
use Rattle.tn_rows.specs.Events.{after, crossing_of, deed_of, detector_did, given_to, host_did, link_row, meets, met_by, met_with, plain_deed, put_by, router_did, tile_did, told_by}
use Rattle.tn_rows.specs.PartView.{PartView, TileV, RouterV, LinkV, HostV, DetectorV, AbsentV}
use Rattle.tn_rows.specs.Places.{link_way}
use Rattle.tn_rows.proofs.Meeting.{mapped}
use Rattle.tn_rows.proofs.Packets.{packet_is}
use Rattle.tn_stamp.specs.declared.entry.Crossing.{Crossing}
use Rattle.tn_stamp.specs.declared.entry.Crossing.TheVariants as crossing
use Rattle.tn_stamp.specs.Pairs.{Pair, pair_of}
use Rattle.tn_tile.proofs.Steps.{taken}
use Rattle.tn_tile.specs.Rows.{gone_on as tile_gone_on, released as tile_released, tile_facts, tile_whitened, with_node}
use Rattle.tn_tile.specs.TileView.{now_by, with_now}

-- a part is the host, a tile or a router; and a part is a link or the detector
abbrev pub IsLow : PartView → Type 0
IsLow (TileV v) = Unit {0}
IsLow (RouterV v) = Unit {0}
IsLow (LinkV v) = ⊥
IsLow (HostV s) = Unit {0}
IsLow (DetectorV v) = ⊥
IsLow AbsentV = ⊥

abbrev pub IsHigh : PartView → Type 0
IsHigh (TileV v) = ⊥
IsHigh (RouterV v) = ⊥
IsHigh (LinkV v) = Unit {0}
IsHigh (HostV s) = ⊥
IsHigh (DetectorV v) = Unit {0}
IsHigh AbsentV = ⊥

-- ---- packets that cross

node_gives : {S : Type 0} (put : Node → S) (way : Port) (k : Packet) (n : Node) (s : S) → option_map put (give_row way k n) ≡ Some s → offered way n ≡ Some k
node_gives put way k n s r =
    let m = mapped put (give_row way k n) s r in
    packet_is k (offered way n) (taken (is_packet k (offered way n)) (depart_row way n) m.0 m.1).0

departs : (x y : PartId) (k : Packet) (low a : PartView) → IsLow low → after (event.Depart x y) (crossing.Packet k) low ≡ Some a → given_to y.0 low ≡ Some k
departs x y k (TileV v) a free r =
    let m = mapped TileV _ a r in
    let n = mapped (with_now v) _ m.0 m.1 in
    node_gives (with_node v.now) (link_way v.plan.shape y.0) k v.now.node n.0 n.1
departs x y k (RouterV v) a free r =
    let m = mapped RouterV _ a r in
    let n = mapped (router_with_now v) _ m.0 m.1 in
    node_gives (router_with_node v.now) (link_way v.plan.shape y.0) k v.now.node n.0 n.1
departs x y k (LinkV v) a free r = absurd free
departs x y k (HostV s) a free r = cc r
departs x y k (DetectorV v) a free r = absurd free
departs x y k AbsentV a free r = absurd free

link_gives : (k : Packet) (w : LinkView) (b : PartView) → option_map LinkV (cond (is_packet k (front_of w)) (take_from w) None) ≡ Some b → front_of w ≡ Some k
link_gives k w b r =
    let m = mapped LinkV (cond (is_packet k (front_of w)) (take_from w) None) b r in
    packet_is k (front_of w) (taken (is_packet k (front_of w)) (take_from w) m.0 m.1).0

host_puts : (k : Packet) (low a : PartView) → IsLow low → after event.HostPut (crossing.Packet k) low ≡ Some a → put_by low ≡ Some k
host_puts k (TileV v) a free r = cc r
host_puts k (RouterV v) a free r = cc r
host_puts k (LinkV v) a free r = absurd free
host_puts k (HostV s) a free r =
    let m = mapped HostV _ a r in
    let t = taken (is_packet k (host_offers s) && can_put s.node) (Some (host_departed s)) m.0 m.1 in
    packet_is k (host_offers s) (and_parts (is_packet k (host_offers s)) (can_put s.node) t.0).0
host_puts k (DetectorV v) a free r = absurd free
host_puts k AbsentV a free r = absurd free

-- ---- facts that cross: a part tells its own, and the answer is the detector's

abbrev with_answer : ℕ → PartFacts → PartFacts
with_answer value f = record f { value = value }

reports : (p : PartId) (f : PartFacts) (low a : PartView) → IsLow low → after (event.Report p) (crossing.View f) low ≡ Some a → option_map (with_answer f.value) (told_by low) ≡ Some f
reports p f (TileV v) a free r =
    let m = mapped TileV _ a r in
    let n = mapped (with_now v) _ m.0 m.1 in
    ap (λ (x : PartFacts). Some x) (sym (still_taken (tile_facts v.now) f (tile_whitened v.now) n.0 n.1).0.facts)
reports p f (RouterV v) a free r =
    let m = mapped RouterV _ a r in
    let n = mapped (router_with_now v) _ m.0 m.1 in
    ap (λ (x : PartFacts). Some x) (sym (still_taken (router_facts v.now) f (router_whitened v.now) n.0 n.1).0.facts)
reports p f (LinkV v) a free r = absurd free
reports p f (HostV s) a free r =
    let m = mapped HostV _ a r in
    ap (λ (x : PartFacts). Some x) (sym (still_taken (host_facts s) f (host_whitened s) m.0 m.1).0.facts)
reports p f (DetectorV v) a free r = absurd free
reports p f AbsentV a free r = absurd free

confirmed : (p : PartId) (f : PartFacts) (low a : PartView) → IsLow low → after (event.Confirm p) (crossing.View f) low ≡ Some a → option_map (with_answer f.value) (told_by low) ≡ Some f
confirmed p f (TileV v) a free r =
    let m = mapped TileV _ a r in
    let n = mapped (with_now v) _ m.0 m.1 in
    ap (λ (x : PartFacts). Some x) (sym (own_taken (tile_facts v.now) f v.now n.0 n.1).facts)
confirmed p f (RouterV v) a free r =
    let m = mapped RouterV _ a r in
    let n = mapped (router_with_now v) _ m.0 m.1 in
    ap (λ (x : PartFacts). Some x) (sym (own_taken (router_facts v.now) f v.now n.0 n.1).facts)
confirmed p f (LinkV v) a free r = absurd free
confirmed p f (HostV s) a free r =
    let m = mapped HostV _ a r in
    ap (λ (x : PartFacts). Some x) (sym (own_taken (host_facts s) f s m.0 m.1).facts)
confirmed p f (DetectorV v) a free r = absurd free
confirmed p f AbsentV a free r = absurd free

released : (p : PartId) (f : PartFacts) (low a : PartView) → IsLow low → after (event.Release p) (crossing.View f) low ≡ Some a → option_map (with_answer f.value) (told_by low) ≡ Some f
released p f (TileV v) a free r =
    let m = mapped TileV _ a r in
    let n = mapped (with_now v) _ m.0 m.1 in
    ap (λ (x : PartFacts). Some x) (sym (own_taken (tile_facts v.now) f (tile_released f.value v.now) n.0 n.1).facts)
released p f (RouterV v) a free r =
    let m = mapped RouterV _ a r in
    let n = mapped (router_with_now v) _ m.0 m.1 in
    ap (λ (x : PartFacts). Some x) (sym (own_taken (router_facts v.now) f (router_released v.now) n.0 n.1).facts)
released p f (LinkV v) a free r = absurd free
released p f (HostV s) a free r =
    let m = mapped HostV _ a r in
    ap (λ (x : PartFacts). Some x) (sym (own_taken (host_facts s) f (host_released s) m.0 m.1).facts)
released p f (DetectorV v) a free r = absurd free
released p f AbsentV a free r = absurd free

goes : (p : PartId) (f : PartFacts) (low a : PartView) → IsLow low → after (event.Go p) (crossing.View f) low ≡ Some a → option_map (with_answer f.value) (told_by low) ≡ Some f
goes p f (TileV v) a free r =
    let m = mapped TileV _ a r in
    let n = mapped (with_now v) _ m.0 m.1 in
    ap (λ (x : PartFacts). Some x) (sym (own_taken (tile_facts v.now) f (tile_gone_on v.now) n.0 n.1).facts)
goes p f (RouterV v) a free r =
    let m = mapped RouterV _ a r in
    let n = mapped (router_with_now v) _ m.0 m.1 in
    ap (λ (x : PartFacts). Some x) (sym (own_taken (router_facts v.now) f (router_gone_on v.now) n.0 n.1).facts)
goes p f (LinkV v) a free r = absurd free
goes p f (HostV s) a free r =
    let m = mapped HostV _ a r in
    ap (λ (x : PartFacts). Some x) (sym (own_taken (host_facts s) f (host_gone_on s) m.0 m.1).facts)
goes p f (DetectorV v) a free r = absurd free
goes p f AbsentV a free r = absurd free

answer_is : (test : Bool) (f : PartFacts) (v : DetectorView) (o : Option DetectorState) (b : PartView) → option_map DetectorV (option_map (detector_with_now v) (cond (test && answers f v.now) o None)) ≡ Some b → f.value ≡ value_of v.now.answer
answer_is test f v o b r =
    let m = mapped DetectorV _ b r in
    let n = mapped (detector_with_now v) _ m.0 m.1 in
    let t = taken (test && answers f v.now) o n.0 n.1 in
    eqb-true f.value (value_of v.now.answer) (and_parts test (answers f v.now) t.0).1

told_is : (f : PartFacts) (low : PartView) (v : DetectorView) → f.value ≡ value_of v.now.answer → option_map (with_answer f.value) (told_by low) ≡ Some f → option_map crossing.View (option_map (with_answer (value_of v.now.answer)) (told_by low)) ≡ Some (crossing.View f)
told_is f low v answer own =
    ap (λ z. option_map crossing.View (option_map (with_answer z) (told_by low))) (sym answer) ∙ ap (option_map crossing.View) own

-- ---- what crosses by both rows is what the giver says

crossing_is : (m : ℕ) (e : Event) (c : Crossing) (low high a b : PartView) (p : Pair) → pair_of m e ≡ Some p → IsLow low → IsHigh high → after e c low ≡ Some a → after e c high ≡ Some b → crossing_of e low high ≡ Some c
crossing_is m e c low (TileV w) a b p two free is r s = absurd is
crossing_is m e c low (RouterV w) a b p two free is r s = absurd is
crossing_is m e c low (HostV w) a b p two free is r s = absurd is
crossing_is m e c low AbsentV a b p two free is r s = absurd is
crossing_is m (event.Turn t n) c low high a b p two free is r s = cc two
crossing_is m (event.Deliver t) c low high a b p two free is r s = cc two
crossing_is m (event.Route x) c low high a b p two free is r s = cc two
crossing_is m event.Begin c low high a b p two free is r s = cc two
crossing_is m event.Announce c low high a b p two free is r s = cc two
crossing_is m (event.Depart x y) (crossing.Packet k) low (LinkV w) a b p two free is r s = ap (option_map crossing.Packet) (departs x y k low a free r)
crossing_is m (event.Depart x y) crossing.None low (LinkV w) a b p two free is r s = cc s
crossing_is m (event.Depart x y) (crossing.View f) low (LinkV w) a b p two free is r s = cc s
crossing_is m (event.Depart x y) c low (DetectorV w) a b p two free is r s = cc s
crossing_is m (event.Arrive y x) (crossing.Packet k) low (LinkV w) a b p two free is r s = ap (option_map crossing.Packet) (link_gives k w b s)
crossing_is m (event.Arrive y x) crossing.None low (LinkV w) a b p two free is r s = cc s
crossing_is m (event.Arrive y x) (crossing.View f) low (LinkV w) a b p two free is r s = cc s
crossing_is m (event.Arrive y x) c low (DetectorV w) a b p two free is r s = cc s
crossing_is m event.HostPut (crossing.Packet k) low (LinkV w) a b p two free is r s = ap (option_map crossing.Packet) (host_puts k low a free r)
crossing_is m event.HostPut crossing.None low (LinkV w) a b p two free is r s = cc s
crossing_is m event.HostPut (crossing.View f) low (LinkV w) a b p two free is r s = cc s
crossing_is m event.HostPut crossing.None low (DetectorV w) a b p two free is r s = cc s
crossing_is m event.HostPut (crossing.Packet k) low (DetectorV w) a b p two free is r s = cc s
crossing_is m event.HostPut (crossing.View f) low (DetectorV w) a b p two free is r s = cc s
crossing_is m event.HostTake (crossing.Packet k) low (LinkV w) a b p two free is r s = ap (option_map crossing.Packet) (link_gives k w b s)
crossing_is m event.HostTake crossing.None low (LinkV w) a b p two free is r s = cc s
crossing_is m event.HostTake (crossing.View f) low (LinkV w) a b p two free is r s = cc s
crossing_is m event.HostTake crossing.None low (DetectorV w) a b p two free is r s = cc s
crossing_is m event.HostTake (crossing.Packet k) low (DetectorV w) a b p two free is r s = cc s
crossing_is m event.HostTake (crossing.View f) low (DetectorV w) a b p two free is r s = cc s
crossing_is m (event.Report x) c low (LinkV w) a b p two free is r s = cc s
crossing_is m (event.Report x) crossing.None low (DetectorV w) a b p two free is r s = cc s
crossing_is m (event.Report x) (crossing.Packet k) low (DetectorV w) a b p two free is r s = cc s
crossing_is m (event.Report x) (crossing.View f) low (DetectorV w) a b p two free is r s = told_is f low w (answer_is (nat_lt x.0 w.visited) f w (report_row x.0 (view_of f) w.now) b s) (reports x f low a free r)
crossing_is m (event.Confirm x) c low (LinkV w) a b p two free is r s = cc s
crossing_is m (event.Confirm x) crossing.None low (DetectorV w) a b p two free is r s = cc s
crossing_is m (event.Confirm x) (crossing.Packet k) low (DetectorV w) a b p two free is r s = cc s
crossing_is m (event.Confirm x) (crossing.View f) low (DetectorV w) a b p two free is r s = told_is f low w (answer_is (confirms x.0 w.now.phase) f w (confirm_row w.visited (view_of f) w.now) b s) (confirmed x f low a free r)
crossing_is m (event.Release x) c low (LinkV w) a b p two free is r s = cc s
crossing_is m (event.Release x) crossing.None low (DetectorV w) a b p two free is r s = cc s
crossing_is m (event.Release x) (crossing.Packet k) low (DetectorV w) a b p two free is r s = cc s
crossing_is m (event.Release x) (crossing.View f) low (DetectorV w) a b p two free is r s = told_is f low w (answer_is (releases x.0 w.now.phase) f w (release_row w.visited w.now) b s) (released x f low a free r)
crossing_is m (event.Go x) c low (LinkV w) a b p two free is r s = cc s
crossing_is m (event.Go x) crossing.None low (DetectorV w) a b p two free is r s = cc s
crossing_is m (event.Go x) (crossing.Packet k) low (DetectorV w) a b p two free is r s = cc s
crossing_is m (event.Go x) (crossing.View f) low (DetectorV w) a b p two free is r s = told_is f low w (answer_is (lets_go x.0 w.now.phase) f w (go_row w.visited w.now) b s) (goes x f low a free r)

-- so both rows are the event
pub rows_meet : (m : ℕ) (e : Event) (c : Crossing) (low high a b : PartView) (p : Pair) → pair_of m e ≡ Some p → IsLow low → IsHigh high → after e c low ≡ Some a → after e c high ≡ Some b → meets e low high ≡ Some (record { low = a; high = b })
rows_meet m e c low high a b p two free is r s =
    ap (met_with e low high) (crossing_is m e c low high a b p two free is r s)
    ∙ ap (λ o. met_by o (after e c high)) r ∙ ap (λ o. met_by (Some a) o) s

-- ---- an event on one part passes nothing

record Nothing (e : Event) (c : Crossing) : Type 0 where
  plain : plain_deed e c ≡ None
  deed : (n : ShapeNumbers) → deed_of n e c ≡ None
  link : (v : LinkView) → link_row e c v ≡ None

nothing : (e : Event) (c : Crossing) → plain_deed e c ≡ None → ((n : ShapeNumbers) → deed_of n e c ≡ None) → ((v : LinkView) → link_row e c v ≡ None) → Nothing e c
nothing e c a b d = record { plain = a; deed = b; link = d }

passes_packet : (m : ℕ) (e : Event) (k : Packet) → pair_of m e ≡ None → Nothing e (crossing.Packet k)
passes_packet m (event.Turn t n) k one = nothing (event.Turn t n) (crossing.Packet k) refl (λ n. refl) (λ v. refl)
passes_packet m (event.Deliver t) k one = nothing (event.Deliver t) (crossing.Packet k) refl (λ n. refl) (λ v. refl)
passes_packet m (event.Route x) k one = nothing (event.Route x) (crossing.Packet k) refl (λ n. refl) (λ v. refl)
passes_packet m event.Begin k one = nothing event.Begin (crossing.Packet k) refl (λ n. refl) (λ v. refl)
passes_packet m event.Announce k one = nothing event.Announce (crossing.Packet k) refl (λ n. refl) (λ v. refl)
passes_packet m (event.Depart x y) k one = cc one
passes_packet m (event.Arrive x y) k one = cc one
passes_packet m event.HostPut k one = cc one
passes_packet m event.HostTake k one = cc one
passes_packet m (event.Report x) k one = cc one
passes_packet m (event.Confirm x) k one = cc one
passes_packet m (event.Release x) k one = cc one
passes_packet m (event.Go x) k one = cc one

passes_facts : (m : ℕ) (e : Event) (f : PartFacts) → pair_of m e ≡ None → Nothing e (crossing.View f)
passes_facts m (event.Turn t n) f one = nothing (event.Turn t n) (crossing.View f) refl (λ n. refl) (λ v. refl)
passes_facts m (event.Deliver t) f one = nothing (event.Deliver t) (crossing.View f) refl (λ n. refl) (λ v. refl)
passes_facts m (event.Route x) f one = nothing (event.Route x) (crossing.View f) refl (λ n. refl) (λ v. refl)
passes_facts m event.Begin f one = nothing event.Begin (crossing.View f) refl (λ n. refl) (λ v. refl)
passes_facts m event.Announce f one = nothing event.Announce (crossing.View f) refl (λ n. refl) (λ v. refl)
passes_facts m (event.Depart x y) f one = cc one
passes_facts m (event.Arrive x y) f one = cc one
passes_facts m event.HostPut f one = cc one
passes_facts m event.HostTake f one = cc one
passes_facts m (event.Report x) f one = cc one
passes_facts m (event.Confirm x) f one = cc one
passes_facts m (event.Release x) f one = cc one
passes_facts m (event.Go x) f one = cc one

no_row : (e : Event) (c : Crossing) (v : PartView) → Nothing e c → after e c v ≡ None
no_row e c (TileV v) h = ap (λ o. option_map TileV (now_by v (tile_did v.plan v.now o))) (h.deed v.plan.shape)
no_row e c (RouterV v) h = ap (λ o. option_map RouterV (router_now_by v (router_did v.plan v.now o))) (h.deed v.plan.shape)
no_row e c (LinkV v) h = ap (λ o. option_map LinkV o) (h.link v)
no_row e c (HostV s) h = ap (λ o. option_map HostV (host_did s o)) h.plain
no_row e c (DetectorV v) h = ap (λ o. option_map DetectorV (detector_now_by v (detector_did v.visited v.now o))) h.plain
no_row e c AbsentV h = refl

not_both : (o : Option PartView) (a : PartView) → o ≡ None → o ≡ Some a → ⊥
not_both o a none some = let clash : None ≡ Some a = sym none ∙ some in cc clash

pub one_row : (m : ℕ) (e : Event) (c : Crossing) (v a : PartView) → pair_of m e ≡ None → after e c v ≡ Some a → after e crossing.None v ≡ Some a
one_row m e crossing.None v a one r = r
one_row m e (crossing.Packet k) v a one r = absurd (not_both (after e (crossing.Packet k) v) a (no_row e (crossing.Packet k) v (passes_packet m e k one)) r)
one_row m e (crossing.View f) v a one r = absurd (not_both (after e (crossing.View f) v) a (no_row e (crossing.View f) v (passes_facts m e f one)) r)
