-- Events of routers: they move letters, and are no steps of the bag machine.
use Rattle.std.proofs.Common.{ℕ, ◌+◌, ◌≡◌, Bool, true, false, cond, List, [], refl, sym, ◌∙◌, ap, subst, arith, Option, Some, None, MatchOption, is_none, is_some, option_map, unwrap_or, IsTrue}
use Rattle.std.specs.Prelude.{◌||◌, not}
use Rattle.tn_base.specs.declared.event.Event.TheVariants as event
use Rattle.tn_base.specs.declared.ids.Board.{Board}
use Rattle.tn_base.specs.declared.ids.PartId.{PartId}
use Rattle.tn_base.specs.declared.message.Letter.{Letter}
use Rattle.tn_base.specs.declared.message.Packet.{Packet}
use Rattle.tn_base.specs.declared.part.Kind.{Kind}
use Rattle.tn_base.specs.declared.part.Kind.TheVariants as kind
use Rattle.tn_base.specs.declared.port.Port.{Port}
use Rattle.tn_base.specs.declared.port.Port.TheVariants as port
use Rattle.tn_base.specs.declared.shape.ShapeNumbers.{ShapeNumbers}
use Rattle.tn_base.specs.Message.{has_packet}
use Rattle.tn_base.specs.Parts.{kind_of}
use Rattle.tn_base.specs.Shape.{WithinLimits}
use Rattle.tn_keys.specs.Accepted.{Accepted}
use Rattle.tn_keys.specs.Reach.{reach}
use Rattle.tn_keys.specs.Tables.{table_of}
use Rattle.tn_link.specs.LinkRows.{front_of, put_in, take_from}
use Rattle.tn_link.specs.LinkView.{LinkView}
use Rattle.tn_router.specs.declared.moves.Move.{Move}
use Rattle.tn_node.specs.NodeRows.{give_row, offered}
use Rattle.tn_node.specs.PortRows.{at, with_at}
use Rattle.tn_node.proofs.Given.{given}
use Rattle.tn_router.specs.declared.state.RouterState.{RouterState}
use Rattle.tn_router.specs.Kept.{FitsWay, IsFit, is_keyed, leads_on}
use Rattle.tn_router.specs.Left.{board_on}
use Rattle.tn_router.specs.Places.{has_side}
use Rattle.tn_router.specs.Rest.{started}
use Rattle.tn_router.specs.Rows.{accept_row, carried as moved, depart_row, first_move, route_row, with_node}
use Rattle.tn_router.specs.RouterView.{RouterView, now_by, with_now}
use Rattle.tn_router.proofs.Moved.{placed_fits}
use Rattle.tn_router.proofs.Deeds.{accept_deed, accept_shaped, depart_deed, depart_shaped}
use Rattle.tn_router.proofs.Shaped.{accepts, carried_shaped}
use Rattle.tn_stamp.specs.declared.entry.Crossing.TheVariants as crossing
use Rattle.tn_tile.proofs.Steps.{taken}
use Rattle.tn_rows.specs.Events.{Met, met_by, met_with, with_both, with_part}
use Rattle.tn_rows.specs.PartView.{RouterV, LinkV}
use Rattle.tn_rows.specs.Places.{link_side, link_way}
use Rattle.tn_node.specs.SamePacket.{is_packet}
use Rattle.tn_rows.specs.WorldView.{WorldView}
use Rattle.tn_rows.proofs.Meeting.{mapped, met_rows}
use Rattle.tn_letters.specs.Letters.{link_board}
use Rattle.tn_letters.specs.State.{Program}
use Rattle.tn_letters.specs.Tiles.{host_on, reach_of, tables_of}
use Rattle.tn_letters.proofs.Becomes.{Becomes, becomes_reached, nothing}
use Rattle.tn_letters.proofs.Copies.{out_weighs, started_weighs}
use Rattle.tn_letters.proofs.Crossings.{home_put, home_take, put_more, take_less}
use Rattle.tn_letters.proofs.Lift.{ForHost, Good, GoodRouter, Homed, HostWay, IsForHost, OnLink, OnRouter, StandsAt, host_stays, leads_to_host, leads_to_tile, part_on, stands_on}
use Rattle.tn_letters.proofs.HostWays.{at_host, host_moved, host_set, no_packet}
use Rattle.tn_letters.proofs.Links.{Shifted, Shifts, both_host, both_shifted, link_shifts, shifted, two_parts}
use Rattle.tn_letters.proofs.Moves.{moves_so, outs_set, port_there, route_weighs, works_set}
use Rattle.tn_letters.proofs.Simulate.{Reached}
use Rattle.tn_letters.proofs.Weights.{crossing_w, out_w, outs_w, router_w, work_w, works_w}

-- a machine in which letters moved and no thread did anything
still_becomes : (w there : WorldView) → Shifted w there nothing nothing → host_on w ≡ host_on there → Becomes w there []
still_becomes w there s host = record {
  threads = s.threads;
  held = λ b slot h. s.held b slot;
  letters = λ f. let a = s.letters f in omega arith;
  good = s.good;
  program = s.program;
  count = let c = s.count in omega arith;
  host = host;
}

pub still_reached : (got : ℕ → List Letter) (dropped : List Letter) (w there : WorldView) → Shifted w there nothing nothing → host_on w ≡ host_on there → Reached got dropped w [] there
still_reached got dropped w there s host = becomes_reached got dropped w there [] (ap (λ (m : Program). m.shape) s.program) (still_becomes w there s host) tt

router_on : (w : WorldView) (p : ℕ) (v : RouterView) → Good w → OnRouter w p v → GoodRouter w.shape (tables_of w) v
router_on w p v good on = part_on w p (RouterV v) good on

pub still_router : (k : Kind) (v : RouterView) (new : RouterState) → StandsAt k (RouterV v) → StandsAt k (RouterV (with_now v new))
still_router kind.Host v new h = absurd h
still_router (kind.Tile tile) v new h = absurd h
still_router (kind.Router board) v new h = h
still_router (kind.Link from onto) v new h = absurd h
still_router kind.Detector v new h = absurd h

router_shifts : (w : WorldView) (p : ℕ) (v : RouterView) (new : RouterState) (came gone : (Letter → ℕ) → ℕ) → Good w → OnRouter w p v → IsFit v.plan new → HostWay new.node.out →
    ((f : Letter → ℕ) → came f + router_w f (reach_of w) v ≡ gone f + router_w f (reach_of w) (with_now v new)) → Shifts w p (RouterV v) (RouterV (with_now v new)) came gone
router_shifts w p v new came gone good on fits host weighs =
    let t = router_on w p v good on in
    record {
      on = on;
      was = record { tile = refl; dropped = refl };
      is = record { tile = refl; dropped = refl };
      beats = refl;
      stands = still_router (kind_of w.shape p) v new (stands_on w p (RouterV v) good on);
      good = record { shape = t.shape; shaped = record { board = t.shaped.board; fits = fits }; beats = t.beats; host = host };
      weighs = weighs;
    }

-- ---- a Route

did_move : (s new : RouterState) (o : Option Move) → option_map (moved s) o ≡ Some new → (m : Move) × (o ≡ Some m) × (moved s m ≡ new)
did_move s new None e = cc e
did_move s new (Some m) e = (m, refl, ap (λ (x : Option RouterState). unwrap_or x new) e)

pub route_reached : (got : ℕ → List Letter) (dropped : List Letter) (w : WorldView) (p : ℕ) (v : RouterView) (new : RouterState) → Good w → OnRouter w p v → route_row v.plan v.now ≡ Some new → Reached got dropped w [] (with_part w p (RouterV (with_now v new)))
route_reached got dropped w p v new good on row =
    let t = router_on w p v good on in
    let m = did_move v.now new (first_move v.plan v.now) row in
    let so = moves_so v.plan v.now m.0 m.1 in
    let fits : IsFit v.plan (moved v.now m.0) = carried_shaped v.plan v.now m.0 (placed_fits v.plan v.now so.side so.work m.0 t.shaped.board t.shaped.fits so.there so.is) t.shaped.fits in
    let s : Shifts w p (RouterV v) (RouterV (with_now v (moved v.now m.0))) nothing nothing = router_shifts w p v (moved v.now m.0) nothing nothing good on fits (host_moved v.plan v.now so.side so.work m.0 so.is t.host)
    (λ f. let e = route_weighs f w.shape (tables_of w) v m.0 t.shape good.limits good.accepted t.shaped t.beats so in omega arith) in
    subst (λ (x : RouterState). Reached got dropped w [] (with_part w p (RouterV (with_now v x)))) m.2
    (still_reached got dropped w (with_part w p (RouterV (with_now v (moved v.now m.0)))) (shifted w p (RouterV v) (RouterV (with_now v (moved v.now m.0))) nothing nothing good s) (sym (host_stays w p (RouterV v) (RouterV (with_now v (moved v.now m.0))) on refl)))

-- ---- rows of both parts

pub record Both (v : RouterView) (t : Option RouterState) (l : Option LinkView) (m : Met) : Type 0 where
  pub new : RouterState
  pub next : LinkView
  pub router : t ≡ Some new
  pub link : l ≡ Some next
  pub low : RouterV (with_now v new) ≡ m.low
  pub high : LinkV next ≡ m.high

both_rows : (v : RouterView) (t : Option RouterState) (l : Option LinkView) (m : Met) → met_by (option_map RouterV (now_by v t)) (option_map LinkV l) ≡ Some m → Both v t l m
both_rows v t l m e =
    let rows = met_rows (option_map RouterV (now_by v t)) (option_map LinkV l) m e in
    let low = mapped RouterV (now_by v t) m.low rows.0 in
    let now = mapped (with_now v) t low.0 low.1 in
    let high = mapped LinkV l m.high rows.1 in
    record { new = now.0; next = high.0; router = now.1; link = high.1; low = ap RouterV now.2 ∙ low.2; high = high.2 }

pair_is : (w : WorldView) (p q : ℕ) (new : RouterView) (next : LinkView) (m : Met) → RouterV new ≡ m.low → LinkV next ≡ m.high → with_both w p q m ≡ with_part (with_part w p (RouterV new)) q (LinkV next)
pair_is w p q new next m low high = λ i. with_both w p q (record { low = sym low i; high = sym high i })

-- what a packet weighs on a link
abbrev on_link : WorldView → ℕ → Packet → (Letter → ℕ) → ℕ
on_link w q k f = crossing_w f (link_board w.shape q) w.shape (reach_of w) k

-- ---- a departure

not_held : (held : Bool) (o : Option Packet) (k : Packet) → cond held None o ≡ Some k → o ≡ Some k
not_held true o k e = cc e
not_held false o k e = e

-- where the way leads to a router, it leads to that of this board
abbrev pub LeadsTo : RouterView → Port → Board → Type 0
LeadsTo v way c = leads_on way ≡ true → board_on v.plan.shape v.plan.board way ≡ Some c

keyed_leads : (b c : Bool) → (not b || c) ≡ true → b ≡ true → c ≡ true
keyed_leads true true e h = refl
keyed_leads true false e h = cc e
keyed_leads false c e h = cc h

depart_reached : (got : ℕ → List Letter) (dropped : List Letter) (w : WorldView) (p q : ℕ) (v : RouterView) (new : RouterState) (x y : LinkView) (way : Port) (k : Packet) (there : WorldView) → Good w → OnRouter w p v → OnLink w q x → LeadsTo v way (link_board w.shape q) →
    (leads_to_tile w.shape (kind_of w.shape q) ≡ true → leads_on way ≡ false) → (leads_to_host w.shape (kind_of w.shape q) ≡ true → way ≡ port.HostPort) → offered way v.now.node ≡ Some k → depart_row way v.now ≡ Some new → put_in k x ≡ Some y → there ≡ with_part (with_part w p (RouterV (with_now v new))) q (LinkV y) → Reached got dropped w [] there
depart_reached got dropped w p q v new x y way k there good on off leads down to_host offer row put is =
    let t = router_on w p v good on in
    let n : ShapeNumbers = v.plan.shape in
    let here : at way v.now.node.out ≡ Some k = not_held v.now.node.held (at way v.now.node.out) k offer in
    let fits : FitsWay n v.plan.board way k = subst (λ (o : Option Packet). MatchOption o (Unit {0}) (FitsWay n v.plan.board way)) here (t.shaped.fits.waits way) in
    let d = depart_deed way v.now new row in
    let shaped : IsFit v.plan new = depart_shaped v.plan way v.now new t.shaped.fits row in
    let low : Shifts w p (RouterV v) (RouterV (with_now v new)) nothing (on_link w q k) = router_shifts w p v new nothing (on_link w q k) good on shaped (subst HostWay (sym d.out) (host_set way None v.now.node.out (no_packet way) t.host))
    (λ f.
    let set = outs_set f (reach_of w) n v.plan.board way None v.now.node.out (port_there way v.now.node.out k here) in
    let out : outs_w f (reach_of w) n v.plan.board new.node.out ≡ outs_w f (reach_of w) n v.plan.board (with_at way None v.now.node.out) = ap (outs_w f (reach_of w) n v.plan.board) d.out in
    let inputs : works_w f (reach_of w) n v.plan.board v.plan.beats new.inputs ≡ works_w f (reach_of w) n v.plan.board v.plan.beats v.now.inputs = ap (works_w f (reach_of w) n v.plan.board v.plan.beats) d.inputs in
    let was : out_w f (reach_of w) n v.plan.board way (at way v.now.node.out) ≡ out_w f (reach_of w) n v.plan.board way (Some k) = ap (out_w f (reach_of w) n v.plan.board way) here in
    let weighs = out_weighs f n (reach_of w) v.plan.board (link_board w.shape q) way k (subst WithinLimits (sym t.shape) good.limits) fits.0 (λ keyed. leads (keyed_leads (is_keyed k.dest) (leads_on way) fits.1 keyed)) in
    let shape : crossing_w f (link_board w.shape q) n (reach_of w) k ≡ on_link w q k f = ap (λ m. crossing_w f (link_board w.shape q) m (reach_of w) k) t.shape in
    omega arith) in
    let home : leads_to_tile w.shape (kind_of w.shape q) ≡ true → Homed (link_board w.shape q) k = λ tile keyed. absurd (no_both (leads_on way) (keyed_leads (is_keyed k.dest) (leads_on way) fits.1 keyed) (down tile)) in
    let packet : IsTrue (has_packet w.shape k) = subst (λ m. IsTrue (has_packet m k)) t.shape fits.0 in
    let for_host : leads_to_host w.shape (kind_of w.shape q) ≡ true → IsForHost w.shape k = λ host. (packet, at_host way k (to_host host) (subst (ForHost way) here (t.host way))) in
    let high : Shifts w q (LinkV x) (LinkV y) (on_link w q k) nothing = link_shifts w q x y (on_link w q k) nothing good off (home_put w.shape q k x y put (part_on w q (LinkV x) good off) home for_host)
    (λ f. let more = put_more f (link_board w.shape q) w.shape (reach_of w) k x y put in omega arith) in
    still_reached got dropped w there
    (both_shifted w p q (RouterV v) (LinkV x) (RouterV (with_now v new)) (LinkV y) nothing (on_link w q k) good (two_parts w p q (RouterV v) (LinkV x) on off (λ e. cc e)) low high there is)
    (both_host w p q (RouterV v) (LinkV x) (RouterV (with_now v new)) (LinkV y) there (two_parts w p q (RouterV v) (LinkV x) on off (λ e. cc e)) on off refl refl is)
  where
    no_both : (b : Bool) → b ≡ true → b ≡ false → ⊥
    no_both b e f = cc (e, f)

depart_by : (got : ℕ → List Letter) (dropped : List Letter) (w : WorldView) (p q : ℕ) (v : RouterView) (x : LinkView) (m : Met) (here there : PartId) (o : Option Packet) → Good w → OnRouter w p v → OnLink w q x → LeadsTo v (link_way v.plan.shape there.0) (link_board w.shape q) →
    (leads_to_tile w.shape (kind_of w.shape q) ≡ true → leads_on (link_way v.plan.shape there.0) ≡ false) → (leads_to_host w.shape (kind_of w.shape q) ≡ true → link_way v.plan.shape there.0 ≡ port.HostPort) → offered (link_way v.plan.shape there.0) v.now.node ≡ o →
    met_with (event.Depart here there) (RouterV v) (LinkV x) (option_map crossing.Packet o) ≡ Some m → Reached got dropped w [] (with_both w p q m)
depart_by got dropped w p q v x m here there None good on off leads down to_host offer is = cc is
depart_by got dropped w p q v x m here there (Some k) good on off leads down to_host offer is =
    let way : Port = link_way v.plan.shape there.0 in
    let b = both_rows v (option_map (with_node v.now) (give_row way k v.now.node)) (put_in k x) m is in
    let row : depart_row way v.now ≡ Some b.new = sym (ap (λ o. option_map (with_node v.now) o) (given way k v.now.node offer)) ∙ b.router in
    depart_reached got dropped w p q v b.new x b.next way k (with_both w p q m) good on off leads down to_host offer row b.link (pair_is w p q (with_now v b.new) b.next m b.low b.high)

pub departure_reached : (got : ℕ → List Letter) (dropped : List Letter) (w : WorldView) (p q : ℕ) (v : RouterView) (x : LinkView) (m : Met) (here there : PartId) → Good w → OnRouter w p v → OnLink w q x → LeadsTo v (link_way v.plan.shape there.0) (link_board w.shape q) →
    (leads_to_tile w.shape (kind_of w.shape q) ≡ true → leads_on (link_way v.plan.shape there.0) ≡ false) → (leads_to_host w.shape (kind_of w.shape q) ≡ true → link_way v.plan.shape there.0 ≡ port.HostPort) →
    met_with (event.Depart here there) (RouterV v) (LinkV x) (option_map crossing.Packet (offered (link_way v.plan.shape there.0) v.now.node)) ≡ Some m → Reached got dropped w [] (with_both w p q m)
departure_reached got dropped w p q v x m here there good on off leads down to_host is = depart_by got dropped w p q v x m here there (offered (link_way v.plan.shape there.0) v.now.node) good on off leads down to_host refl is

-- ---- an arrival

-- a link leads to a router from a side
side_is : (side : Port) (n : ShapeNumbers) (b : Board) → has_side n b side ≡ true → side ≡ port.Here → ⊥
side_is side n b e here = let no : false ≡ true = sym (ap (has_side n b) here) ∙ e in cc no

empty_place : {A : Type 0} (o : Option A) → is_none o ≡ true → o ≡ None
empty_place None e = refl
empty_place (Some x) e = cc e

arrive_reached : (got : ℕ → List Letter) (dropped : List Letter) (w : WorldView) (p q : ℕ) (v : RouterView) (new : RouterState) (x y : LinkView) (side : Port) (k : Packet) (there : WorldView) → Good w → OnRouter w p v → OnLink w q x → link_board w.shape q ≡ v.plan.board →
    front_of x ≡ Some k → accept_row v.plan side k v.now ≡ Some new → take_from x ≡ Some y → there ≡ with_part (with_part w p (RouterV (with_now v new))) q (LinkV y) → Reached got dropped w [] there
arrive_reached got dropped w p q v new x y side k there good on off board front row take is =
    let t = router_on w p v good on in
    let n : ShapeNumbers = v.plan.shape in
    let a = accepts v.plan side k v.now (ap (λ (o : Option RouterState). is_some o) row) in
    let d = accept_deed v.plan side k v.now new row in
    let shaped : IsFit v.plan new = accept_shaped v.plan side k v.now new t.shaped.fits row in
    let low : Shifts w p (RouterV v) (RouterV (with_now v new)) (on_link w q k) nothing = router_shifts w p v new (on_link w q k) nothing good on shaped (subst HostWay (sym d.out) t.host)
    (λ f.
    let set = works_set f (reach_of w) n v.plan.board v.plan.beats side (Some (started v.plan.beats k)) v.now.inputs (side_is side n v.plan.board a.there) in
    let out : outs_w f (reach_of w) n v.plan.board new.node.out ≡ outs_w f (reach_of w) n v.plan.board v.now.node.out = ap (outs_w f (reach_of w) n v.plan.board) d.out in
    let inputs : works_w f (reach_of w) n v.plan.board v.plan.beats new.inputs ≡ works_w f (reach_of w) n v.plan.board v.plan.beats (with_at side (Some (started v.plan.beats k)) v.now.inputs) = ap (works_w f (reach_of w) n v.plan.board v.plan.beats) d.inputs in
    let none : work_w f (reach_of w) n v.plan.board v.plan.beats (at side v.now.inputs) ≡ 0 = ap (work_w f (reach_of w) n v.plan.board v.plan.beats) (empty_place (at side v.now.inputs) a.free) in
    let weighs : work_w f (reach_of w) n v.plan.board v.plan.beats (Some (started v.plan.beats k)) ≡ crossing_w f v.plan.board n (reach_of w) k = came_weighs f w v k good t a.packet in
    let shape : crossing_w f v.plan.board n (reach_of w) k ≡ on_link w q k f = ap (λ m. crossing_w f v.plan.board m (reach_of w) k) t.shape ∙ ap (λ (c : Board). crossing_w f c w.shape (reach_of w) k) (sym board) in
    omega arith) in
    let homes = home_take w.shape q k x y front take (part_on w q (LinkV x) good off) in
    let high : Shifts w q (LinkV x) (LinkV y) nothing (on_link w q k) = link_shifts w q x y nothing (on_link w q k) good off homes.good
    (λ f. let less = take_less f (link_board w.shape q) w.shape (reach_of w) k x y front take in omega arith) in
    still_reached got dropped w there
    (both_shifted w p q (RouterV v) (LinkV x) (RouterV (with_now v new)) (LinkV y) (on_link w q k) nothing good (two_parts w p q (RouterV v) (LinkV x) on off (λ e. cc e)) low high there is)
    (both_host w p q (RouterV v) (LinkV x) (RouterV (with_now v new)) (LinkV y) there (two_parts w p q (RouterV v) (LinkV x) on off (λ e. cc e)) on off refl refl is)
  where
    came_weighs : (f : Letter → ℕ) (w : WorldView) (v : RouterView) (k : Packet) → Good w → GoodRouter w.shape (tables_of w) v → IsTrue (has_packet v.plan.shape k) → work_w f (reach_of w) v.plan.shape v.plan.board v.plan.beats (Some (started v.plan.beats k)) ≡ crossing_w f v.plan.board v.plan.shape (reach_of w) k
    came_weighs f w v k good t fits =
        subst (λ m. Accepted m (tables_of w) → v.plan.beats ≡ table_of m (tables_of w) v.plan.board → work_w f (reach m (tables_of w)) v.plan.shape v.plan.board v.plan.beats (Some (started v.plan.beats k)) ≡ crossing_w f v.plan.board v.plan.shape (reach m (tables_of w)) k) t.shape
        (λ accepted beats. started_weighs f v.plan.shape (tables_of w) v.plan.board v.plan.beats k (subst WithinLimits (sym t.shape) good.limits) accepted t.shaped.board beats fits) good.accepted t.beats

arrive_by : (got : ℕ → List Letter) (dropped : List Letter) (w : WorldView) (p q : ℕ) (v : RouterView) (x : LinkView) (m : Met) (there here : PartId) (o : Option Packet) → Good w → OnRouter w p v → OnLink w q x → link_board w.shape q ≡ v.plan.board → front_of x ≡ o →
    met_with (event.Arrive there here) (RouterV v) (LinkV x) (option_map crossing.Packet o) ≡ Some m → Reached got dropped w [] (with_both w p q m)
arrive_by got dropped w p q v x m there here None good on off board front is = cc is
arrive_by got dropped w p q v x m there here (Some k) good on off board front is =
    let side : Port = link_side v.plan.shape there.0 in
    let b = both_rows v (accept_row v.plan side k v.now) (cond (is_packet k (front_of x)) (take_from x) None) m is in
    let take = taken (is_packet k (front_of x)) (take_from x) b.next b.link in
    arrive_reached got dropped w p q v b.new x b.next side k (with_both w p q m) good on off board front b.router take.1 (pair_is w p q (with_now v b.new) b.next m b.low b.high)

pub arrival_reached : (got : ℕ → List Letter) (dropped : List Letter) (w : WorldView) (p q : ℕ) (v : RouterView) (x : LinkView) (m : Met) (there here : PartId) → Good w → OnRouter w p v → OnLink w q x → link_board w.shape q ≡ v.plan.board →
    met_with (event.Arrive there here) (RouterV v) (LinkV x) (option_map crossing.Packet (front_of x)) ≡ Some m → Reached got dropped w [] (with_both w p q m)
arrival_reached got dropped w p q v x m there here good on off board is = arrive_by got dropped w p q v x m there here (front_of x) good on off board refl is
