-- The first packet of a link arrives, unless its next place is taken or its tile has no free slot; or the host takes it.
use Rattle.std.proofs.Common.{ℕ, ◌≡◌, ◌<◌, ◌+◌, ◌-◌, ◌*◌, ◌/◌, ◌%◌, ◌==◌, ◌&&◌, true, cond, refl, sym, ap, ◌∙◌, subst, List, inl, inr, arith, Option, Some, None, is_some, is_none, IsTrue}
use Rattle.std.specs.Prelude.{slice_get}
use Rattle.std.proofs.lemmas.Bool.{and_from, and_parts, eq-eqb, eqb-true}
use Rattle.std.proofs.lemmas.Nat.{div-add-mod'}
use Rattle.tn_base.specs.declared.event.Event.TheVariants as event
use Rattle.tn_base.specs.declared.ids.Board.{Board}
use Rattle.tn_base.specs.declared.ids.TileId.{TileId}
use Rattle.tn_base.specs.declared.message.Packet.{Packet}
use Rattle.tn_base.specs.declared.part.Kind.{Kind}
use Rattle.tn_base.specs.declared.part.Kind.TheVariants as kind
use Rattle.tn_base.specs.declared.port.Port.{Port}
use Rattle.tn_base.specs.declared.port.Port.TheVariants as port
use Rattle.tn_base.specs.declared.shape.ShapeNumbers.{ShapeNumbers}
use Rattle.tn_base.specs.Message.{has_packet}
use Rattle.tn_base.specs.Parts.{JoinsVisited, board_at, kind_of, part_count, router_part}
use Rattle.tn_base.specs.Ports.{tile_port}
use Rattle.tn_base.proofs.LinkEnds.{joins_visited}
use Rattle.tn_keys.specs.Tables.{Table}
use Rattle.tn_node.specs.NodeRows.{can_arrive as can_arrive_at}
use Rattle.tn_node.specs.PortRows.{at}
use Rattle.tn_router.specs.declared.work.Work.{Work}
use Rattle.tn_router.specs.Places.{has_side}
use Rattle.tn_router.specs.Rows.{accept_row as router_accepts, can_accept, received as router_received}
use Rattle.tn_rows.specs.PartView.{TileV, RouterV, LinkV, HostV}
use Rattle.tn_rows.specs.Places.{leads_from, leads_to, link_side, link_way, way_between, way_of_kind}
use Rattle.tn_rows.specs.WorldView.{WorldView}
use Rattle.tn_rows.proofs.HostLinks.{host_links_there, link_to_host}
use Rattle.tn_rows.proofs.Meeting.{can_arrive, can_take, if_some, router_can_arrive}
use Rattle.tn_rows.proofs.Neighbours.{Near, links_near}
use Rattle.tn_rows.proofs.PartKinds.{IsVisited, visited_kind}
use Rattle.tn_tile.specs.Rows.{accepted, passed}
use Rattle.tn_tile.proofs.Packets.{accept_can}
use Rattle.tn_ways.specs.Ways.{ComesFrom, LeadsBy}
use Rattle.tn_ways.proofs.Law.{ways}
use Rattle.polite_flow.specs.Able.{CanFlow, NodeAble, PartAble, TileAble}
use Rattle.polite_flow.specs.Enabled.{LinkMoves, RouterLinksMove, TileLinksMove}
use Rattle.polite_flow.specs.Flow.{To}
use Rattle.polite_flow.specs.Machine.{LeadsOn, comes_to}
use Rattle.polite_flow.specs.Meetings.{LinkFits, LinkOnWay}
use Rattle.polite_flow.specs.OnWay.{Fits}
use Rattle.polite_flow.specs.Places.{Bound, Place, RouterLink, TileLink, Works, next, out_by, tile_named}
use Rattle.polite_flow.specs.Standing.{LinkPacket}
use Rattle.polite_flow.specs.World.{KindOnWay, PartOnWay}
use Rattle.polite_flow.proofs.Links.{links_lead}
use Rattle.polite_flow.proofs.Meetings.{first_fits}
use Rattle.polite_flow.proofs.Onward.{GoesOn, goes_on}
use Rattle.polite_flow.proofs.PartsAt.{HostAt, RouterAt, TileAt, at_place, host_there, router_stands, router_there, tile_there, two_happen}

-- ---- what is known of a link's first packet

pub on_link : {start : Kind} {way : Port} (tables : List Table) (w : WorldView) (x : LinkPacket w start way) → CanFlow tables w → LinkFits w.shape tables way start x.packet
on_link {start} {way} tables w x g =
    let n : ShapeNumbers = w.shape in
    let all : KindOnWay n tables x.part.0 (kind_of n x.part.0) x.view = at_place (PartOnWay n tables) w x.part.0 (LinkV x.view) g.on_way x.is in
    let on : LinkOnWay n tables x.part.0 (kind_of n x.from.0) x.view = subst (λ c. KindOnWay n tables x.part.0 c x.view) x.joins all in
    let first = first_fits (LinkFits n tables (link_way n x.part.0) (kind_of n x.from.0)) x.view.packets x.packet on x.there in
    subst (λ c. LinkFits n tables way c x.packet) x.starts (subst (λ q. LinkFits n tables q (kind_of n x.from.0) x.packet) x.by first)

one_of : {start : Kind} {way : Port} (tables : List Table) (w : WorldView) (x : LinkPacket w start way) → CanFlow tables w → has_packet w.shape x.packet ≡ true
one_of tables w x g =
    let n : ShapeNumbers = w.shape in
    first_fits (λ k. IsTrue (has_packet n k)) x.view.packets x.packet (at_place (λ _ y. PartAble n y) w x.part.0 (LinkV x.view) g.able x.is) x.there

leads_from_link : {start : Kind} {way : Port} (tables : List Table) (w : WorldView) (x : LinkPacket w start way) → CanFlow tables w → LeadsOn w.shape x.packet.dest way (link_side w.shape x.part.0) start (kind_of w.shape x.onto.0)
leads_from_link {start} {way} tables w x g =
    let n : ShapeNumbers = w.shape in
    let s = link_side n x.part.0 in
    let k = kind_of n x.onto.0 in
    let all : LeadsOn n x.packet.dest (link_way n x.part.0) s (kind_of n x.from.0) k = links_lead n g.ready.routes.limits x.part.0 x.from x.onto x.packet.dest x.joins in
    subst (λ c. LeadsOn n x.packet.dest way s c k) x.starts (subst (λ q. LeadsOn n x.packet.dest q s (kind_of n x.from.0) k) x.by all)

ends_of : {start : Kind} {way : Port} (tables : List Table) (w : WorldView) (x : LinkPacket w start way) → CanFlow tables w → JoinsVisited w.shape x.part.0 x.from.0 x.onto.0
ends_of tables w x g = joins_visited w.shape x.part.0 x.from x.onto g.ready.routes.limits x.joins

onto_there : {start : Kind} {way : Port} (tables : List Table) (w : WorldView) (x : LinkPacket w start way) → CanFlow tables w → x.onto.0 < part_count w.shape
onto_there tables w x g =
    let ends = ends_of tables w x g in
    let low = ends.onto_visited in
    let past = ends.behind in
    let last = ends.there in
    omega arith

leads_to_it : {start : Kind} {way : Port} (w : WorldView) (x : LinkPacket w start way) → leads_to x.onto.0 (kind_of w.shape x.part.0) ≡ true
leads_to_it w x = ap (leads_to x.onto.0) x.joins ∙ eq-eqb x.onto.0 x.onto.0 refl

-- ---- at a tile

at_tile : {start : Kind} {way : Port} (tables : List Table) (w : WorldView) (p : Place) (x : LinkPacket w start way) (a : TileId) → CanFlow tables w → Fits w.shape tables p (Bound x.packet.dest) → kind_of w.shape x.onto.0 ≡ kind.Tile a
    → next w.shape p (Bound x.packet.dest) ≡ out_by (tile_named a.0) (tile_port a.0 x.packet.dest) → LinkMoves w p (Bound x.packet.dest) x.part x.onto
at_tile tables w p x a g fits e leads =
    let n : ShapeNumbers = w.shape in
    let k : Packet = x.packet in
    let t : TileAt w x.onto.0 a = tile_there w x.onto.0 a g.world (onto_there tables w x g) e in
    let v = t.view in
    let able : TileAble v = at_place (λ _ y. PartAble n y) w x.onto.0 (TileV v) g.able t.is in
    let has : has_packet v.plan.shape k ≡ true = ap (λ m. has_packet m k) t.shape ∙ one_of tables w x g in
    let own : next n p (Bound k.dest) ≡ out_by (tile_named v.plan.tile) (tile_port v.plan.tile k.dest) = subst (λ b. next n p (Bound k.dest) ≡ out_by (tile_named b) (tile_port b k.dest)) (sym t.tile) leads in
    let go : GoesOn w p k v.plan v.now = goes_on tables w p x.onto.0 v k v.now g.ready.routes t.is refl fits own in
    elim go [
      | inl h ↦
          let takes : is_some (accepted v.plan k v.now) ≡ true = ap (λ b. is_some (cond b (passed v.plan k v.now) None)) has ∙ h in
          let row = accept_can v.plan k v.now able.counts able.node.takes takes in
          inl (inl (two_happen (event.Arrive x.part x.onto) w (leads_to x.onto.0 (kind_of n x.part.0)) x.onto.0 x.part.0 (TileV v) (LinkV x.view) (leads_to_it w x) t.is x.is (can_arrive x.part x.onto v x.view k x.there ∙ row)))
      | inr other ↦ elim other [
        | inl blocked ↦ inl (inr blocked)
        | inr full ↦ inr (inl (record { tile = v; is = t.is; ends = full.ends; full = full.full }))
      ]
    ]

-- ---- at a router

by_side : {start : Kind} {way : Port} (tables : List Table) (w : WorldView) (p : Place) (x : LinkPacket w start way) (b : Board) (r : RouterAt w x.onto.0 b) (o : Option Work) → CanFlow tables w → kind_of w.shape x.onto.0 ≡ kind.Router b
    → next w.shape p (Bound x.packet.dest) ≡ To (Works b (link_side w.shape x.part.0)) → at (link_side w.shape x.part.0) r.view.now.inputs ≡ o → LinkMoves w p (Bound x.packet.dest) x.part x.onto
by_side tables w p x b r None g e leads there =
    let n : ShapeNumbers = w.shape in
    let k : Packet = x.packet in
    let v = r.view in
    let s = link_side n x.part.0 in
    let able : NodeAble v.now.node = at_place (λ _ y. PartAble n y) w x.onto.0 (RouterV v) g.able r.is in
    let comes : ComesFrom n x.onto.0 s x.part.0 = record { onto = leads_to_it w x; beside = refl } in
    let way_in : has_side n b s ≡ true = (ways n g.ready.routes.limits).to_router x.onto.0 x.part.0 s b e comes in
    let own : has_side v.plan.shape v.plan.board s ≡ true = ap (λ m. has_side m v.plan.board s) r.shape ∙ (ap (λ c. has_side n c s) r.board ∙ way_in) in
    let has : has_packet v.plan.shape k ≡ true = ap (λ m. has_packet m k) r.shape ∙ one_of tables w x g in
    let free : is_none (at s v.now.inputs) ≡ true = ap (λ (o : Option Work). is_none o) there in
    let tests : (can_accept v.plan s k v.now && can_arrive_at v.now.node) ≡ true = and_from _ _ (and_from _ _ (and_from _ _ own free) has) able.takes in
    let row : is_some (router_accepts v.plan s k v.now) ≡ true = if_some (can_accept v.plan s k v.now && can_arrive_at v.now.node) (router_received v.plan s k v.now) ∙ tests in
    inl (inl (two_happen (event.Arrive x.part x.onto) w (leads_to x.onto.0 (kind_of n x.part.0)) x.onto.0 x.part.0 (RouterV v) (LinkV x.view) (leads_to_it w x) r.is x.is
    (router_can_arrive x.part x.onto v x.view k x.there ∙ (ap (λ m. is_some (router_accepts v.plan (link_side m x.part.0) k v.now)) r.shape ∙ row))))
by_side tables w p x b r (Some work) g e leads there =
    inl (inr (record { onto = Works b (link_side w.shape x.part.0); leads = leads; taken = record { part = x.onto.0; view = r.view; work = work; is = r.is; named = r.board; there = there } }))

at_router : {start : Kind} {way : Port} (tables : List Table) (w : WorldView) (p : Place) (x : LinkPacket w start way) (b : Board) → CanFlow tables w → kind_of w.shape x.onto.0 ≡ kind.Router b
    → next w.shape p (Bound x.packet.dest) ≡ To (Works b (link_side w.shape x.part.0)) → LinkMoves w p (Bound x.packet.dest) x.part x.onto
at_router tables w p x b g e leads =
    let r = router_there w x.onto.0 b g.world (onto_there tables w x g) e in
    by_side tables w p x b r (at (link_side w.shape x.part.0) r.view.now.inputs) g e leads refl

-- ---- at the host

at_host : {start : Kind} {way : Port} (tables : List Table) (w : WorldView) (p : Place) (x : LinkPacket w start way) → CanFlow tables w → x.part.0 ≡ part_count w.shape - 3 → LinkMoves w p (Bound x.packet.dest) x.part x.onto
at_host tables w p x g last =
    let n : ShapeNumbers = w.shape in
    let many = host_links_there n in
    let h : HostAt w 0 = host_there w 0 g.world (omega arith) refl in
    let able : can_arrive_at h.state.node ≡ true = at_place (λ _ y. PartAble n y) w 0 (HostV h.state) g.able h.is in
    let there : slice_get w.parts (part_count n - 3) ≡ Some (LinkV x.view) = subst (λ q. slice_get w.parts q ≡ Some (LinkV x.view)) last x.is in
    inr (inr (two_happen event.HostTake w true 0 (part_count n - 3) (HostV h.state) (LinkV x.view) refl h.is there
    (can_take h.state x.view ∙ and_from _ _ (ap (λ (o : Option Packet). is_some o) x.there) able)))

zero_times : (m : ℕ) → 0 * m ≡ 0
zero_times m = omega arith

-- the router from which a link leads to the host is the first router
first_board : (n : ShapeNumbers) (i : ℕ) (b : Board) → board_at n i ≡ b → b.x ≡ 0 → b.y ≡ 0 → i ≡ 0
first_board n i b e x y =
    let low : i % n.boards_x ≡ 0 = ap (λ (c : Board). c.x) e ∙ x in
    let high : i / n.boards_x ≡ 0 = ap (λ (c : Board). c.y) e ∙ y in
    let whole : i / n.boards_x * n.boards_x + i % n.boards_x ≡ i = div-add-mod' i n.boards_x in
    let none : i / n.boards_x * n.boards_x ≡ 0 = ap (λ q. q * n.boards_x) high ∙ zero_times n.boards_x in
    omega arith

last_link : {way : Port} (tables : List Table) (w : WorldView) (b : Board) (x : LinkPacket w (kind.Router b) way) → CanFlow tables w → kind_of w.shape x.onto.0 ≡ kind.Host → x.part.0 ≡ part_count w.shape - 3
last_link tables w b x g e =
    let n : ShapeNumbers = w.shape in
    let l = x.part.0 in
    let q = part_count n - 3 in
    let law = ways n g.ready.routes.limits in
    let by : link_way n l ≡ port.HostPort = ap (way_of_kind n) x.joins ∙ (ap (λ c. way_between c (kind_of n x.onto.0)) x.starts ∙ ap (way_between (kind.Router b)) e) in
    let leads : LeadsBy n x.from.0 port.HostPort l = record { from = ap (leads_from x.from.0) x.joins ∙ eq-eqb x.from.0 x.from.0 refl; by = by } in
    let there = law.from_router x.from.0 l port.HostPort b x.starts leads in
    let zeros = and_parts (b.x == 0) (b.y == 0) there in
    let stands = router_stands n x.from.0 b x.starts in
    let first : stands.number ≡ 0 = first_board n stands.number b stands.board (eqb-true b.x 0 zeros.0) (eqb-true b.y 0 zeros.1) in
    let here : router_part n 0 ≡ x.from.0 = ap (router_part n) (sym first) ∙ stands.part in
    let last : LeadsBy n x.from.0 port.HostPort q = record {
      from = ap (leads_from x.from.0) (link_to_host n) ∙ eq-eqb (router_part n 0) x.from.0 here;
      by = ap (way_of_kind n) (link_to_host n) ∙ (ap (λ j. way_between (kind_of n j) kind.Host) here ∙ ap (λ c. way_between c kind.Host) x.starts);
    } in
    law.apart x.from.0 l q port.HostPort leads last

-- ---- wherever the link leads

by_kind : {start : Kind} {way : Port} (tables : List Table) (w : WorldView) (p : Place) (x : LinkPacket w start way) (k : Kind) → CanFlow tables w → Fits w.shape tables p (Bound x.packet.dest) → kind_of w.shape x.onto.0 ≡ k
    → (k ≡ kind.Host → x.part.0 ≡ part_count w.shape - 3) → next w.shape p (Bound x.packet.dest) ≡ comes_to k (link_side w.shape x.part.0) x.packet.dest → LinkMoves w p (Bound x.packet.dest) x.part x.onto
by_kind tables w p x (kind.Tile a) g fits e host leads = at_tile tables w p x a g fits e leads
by_kind tables w p x (kind.Router b) g fits e host leads = at_router tables w p x b g e leads
by_kind tables w p x kind.Host g fits e host leads = at_host tables w p x g (host refl)
by_kind tables w p x (kind.Link from onto) g fits e host leads = absurd (subst IsVisited e (visited_kind w.shape x.onto.0 (ends_of tables w x g).onto_visited))
by_kind tables w p x kind.Detector g fits e host leads = absurd (subst IsVisited e (visited_kind w.shape x.onto.0 (ends_of tables w x g).onto_visited))

no_host : {A : Type 0} {way : Port} (tables : List Table) (w : WorldView) (a : TileId) (x : LinkPacket w (kind.Tile a) way) → CanFlow tables w → kind_of w.shape x.onto.0 ≡ kind.Host → A
no_host tables w a x g e =
    let n : ShapeNumbers = w.shape in
    let near : Near n (kind_of n x.from.0) (kind_of n x.onto.0) = links_near n x.part.0 x.from x.onto g.ready.routes.limits x.joins in
    absurd (subst (Near n (kind.Tile a)) e (subst (λ c. Near n c (kind_of n x.onto.0)) x.starts near))

pub tile_links_move : TileLinksMove
tile_links_move tables w a way g x =
    by_kind tables w (TileLink (tile_named a.0) way) x (kind_of w.shape x.onto.0) g (on_link tables w x g) refl (λ e. no_host tables w a x g e) (leads_from_link tables w x g)

pub router_links_move : RouterLinksMove
router_links_move tables w b way g x =
    by_kind tables w (RouterLink b way) x (kind_of w.shape x.onto.0) g (on_link tables w x g) refl (λ e. last_link tables w b x g e) (leads_from_link tables w x g)
