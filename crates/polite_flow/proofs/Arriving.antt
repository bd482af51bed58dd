-- An arrival keeps all packets of a whole machine on their way.
use Rattle.std.proofs.Common.{◌≡◌, Bool, true, false, refl, sym, ap, ◌∙◌, subst, List, Some}
use Rattle.tn_base.specs.declared.event.Event.TheVariants as event
use Rattle.tn_base.specs.declared.ids.Board.{Board}
use Rattle.tn_base.specs.declared.ids.PartId.{PartId}
use Rattle.tn_base.specs.declared.ids.TileId.{TileId}
use Rattle.tn_base.specs.declared.part.Kind.{Kind}
use Rattle.tn_base.specs.declared.part.Kind.TheVariants as kind
use Rattle.tn_base.specs.declared.shape.ShapeNumbers.{ShapeNumbers}
use Rattle.tn_base.specs.Parts.{kind_of}
use Rattle.tn_base.proofs.LinkEnds.{joins_visited}
use Rattle.tn_host.specs.HostView.{HostState}
use Rattle.tn_keys.specs.Tables.{Table}
use Rattle.tn_link.specs.LinkView.{LinkView}
use Rattle.tn_router.specs.RouterView.{RouterView}
use Rattle.tn_rows.specs.Events.{FitsKind, IsWorld, Met, after, happened, happened_at, meets}
use Rattle.tn_rows.specs.PartView.{PartView, TileV, RouterV, LinkV, HostV, DetectorV, AbsentV}
use Rattle.tn_rows.specs.Places.{leads_to, two_if}
use Rattle.tn_rows.specs.WorldView.{WorldView}
use Rattle.tn_rows.proofs.Meeting.{meeting}
use Rattle.tn_rows.proofs.PartKinds.{IsVisited, visited_kind}
use Rattle.tn_rows.proofs.Ways.{leads_on}
use Rattle.tn_stamp.specs.declared.entry.Crossing.{Crossing}
use Rattle.tn_stamp.specs.declared.entry.Crossing.TheVariants as crossing
use Rattle.tn_tile.specs.TileView.{TileView}
use Rattle.polite_flow.specs.Law.{HasRoutes}
use Rattle.polite_flow.specs.Meetings.{LinkOnWay}
use Rattle.polite_flow.specs.World.{IsReady, PartOnWay, PartReady, RouterReady, WorldOnWay}
use Rattle.polite_flow.proofs.Departing.{MetOnWay, ends, router_fit, router_is, tile_is}
use Rattle.polite_flow.proofs.Meetings.{routers_arrive, tiles_arrive}

-- the host takes no packet in an arrival
none_at_host : {A : Type 0} (l p : PartId) (s : HostState) (c : Crossing) (new : PartView) → after (event.Arrive l p) c (HostV s) ≡ Some new → A
none_at_host l p s crossing.None new h = cc h
none_at_host l p s (crossing.Packet k) new h = cc h
none_at_host l p s (crossing.View f) new h = cc h

arrives_tile : (n : ShapeNumbers) (tables : List Table) (l p from onto : PartId) (a : TileId) (v : TileView) (x : LinkView) (m : Met) → HasRoutes n tables → kind_of n l.0 ≡ kind.Link from onto → kind_of n onto.0 ≡ kind.Tile a → FitsKind n (kind.Tile a) (TileV v)
    → PartOnWay n tables p.0 (TileV v) → LinkOnWay n tables l.0 (kind_of n from.0) x → meets (event.Arrive l p) (TileV v) (LinkV x) ≡ Some m → MetOnWay n tables p.0 l.0 (kind_of n from.0) m
arrives_tile n tables l p from onto a v x m g e to f r all h =
    let is = tile_is n a v f.0 f.1 in
    let t = tiles_arrive n tables l p from onto a v.plan.code v.now x m g e to (subst (PartOnWay n tables p.0) is r) all (subst (λ y. meets (event.Arrive l p) y (LinkV x) ≡ Some m) is h) in
    record { low = subst (PartOnWay n tables p.0) (sym t.low) t.tile_fits; link = t.link; high = t.high; fits = t.link_fits }

arrives_router : (n : ShapeNumbers) (tables : List Table) (l p from onto : PartId) (b : Board) (v : RouterView) (x : LinkView) (m : Met) → HasRoutes n tables → kind_of n l.0 ≡ kind.Link from onto → kind_of n onto.0 ≡ kind.Router b → FitsKind n (kind.Router b) (RouterV v) → RouterReady n tables v
    → PartOnWay n tables p.0 (RouterV v) → LinkOnWay n tables l.0 (kind_of n from.0) x → meets (event.Arrive l p) (RouterV v) (LinkV x) ≡ Some m → MetOnWay n tables p.0 l.0 (kind_of n from.0) m
arrives_router n tables l p from onto b v x m g e to f k r all h =
    let is = router_is n tables v k.plan in
    let t = routers_arrive n tables l p from onto v.plan.board v.now x m g e (to ∙ ap kind.Router (sym f.1)) k.on (router_fit n tables v k) r all (subst (λ y. meets (event.Arrive l p) y (LinkV x) ≡ Some m) is h) in
    record { low = subst (PartOnWay n tables p.0) (sym t.low) t.router_fits; link = t.link; high = t.high; fits = t.link_fits }

-- only a tile and a router are at the end of a link at which packets arrive
arrives : (n : ShapeNumbers) (tables : List Table) (l p from onto : PartId) (k : Kind) (low : PartView) (x : LinkView) (m : Met) → HasRoutes n tables → kind_of n l.0 ≡ kind.Link from onto → kind_of n onto.0 ≡ k → IsVisited k → FitsKind n k low → PartReady n tables low
    → PartOnWay n tables p.0 low → LinkOnWay n tables l.0 (kind_of n from.0) x → meets (event.Arrive l p) low (LinkV x) ≡ Some m → MetOnWay n tables p.0 l.0 (kind_of n from.0) m
arrives n tables l p from onto (kind.Tile a) (TileV v) x m g e to i f d r all h = arrives_tile n tables l p from onto a v x m g e to f r all h
arrives n tables l p from onto (kind.Router b) (RouterV v) x m g e to i f d r all h = arrives_router n tables l p from onto b v x m g e to f d r all h
arrives n tables l p from onto (kind.Tile a) (RouterV v) x m g e to i f d r all h = absurd f
arrives n tables l p from onto (kind.Tile a) (LinkV v) x m g e to i f d r all h = absurd f
arrives n tables l p from onto (kind.Tile a) (HostV s) x m g e to i f d r all h = absurd f
arrives n tables l p from onto (kind.Tile a) (DetectorV v) x m g e to i f d r all h = absurd f
arrives n tables l p from onto (kind.Tile a) AbsentV x m g e to i f d r all h = absurd f
arrives n tables l p from onto (kind.Router b) (TileV v) x m g e to i f d r all h = absurd f
arrives n tables l p from onto (kind.Router b) (LinkV v) x m g e to i f d r all h = absurd f
arrives n tables l p from onto (kind.Router b) (HostV s) x m g e to i f d r all h = absurd f
arrives n tables l p from onto (kind.Router b) (DetectorV v) x m g e to i f d r all h = absurd f
arrives n tables l p from onto (kind.Router b) AbsentV x m g e to i f d r all h = absurd f
arrives n tables l p from onto (kind.Link u w) (TileV v) x m g e to i f d r all h = absurd i
arrives n tables l p from onto (kind.Link u w) (RouterV v) x m g e to i f d r all h = absurd i
arrives n tables l p from onto (kind.Link u w) (LinkV v) x m g e to i f d r all h = absurd i
arrives n tables l p from onto (kind.Link u w) (HostV s) x m g e to i f d r all h = absurd i
arrives n tables l p from onto (kind.Link u w) (DetectorV v) x m g e to i f d r all h = absurd i
arrives n tables l p from onto (kind.Link u w) AbsentV x m g e to i f d r all h = absurd i
arrives n tables l p from onto kind.Host (TileV v) x m g e to i f d r all h = absurd f
arrives n tables l p from onto kind.Host (RouterV v) x m g e to i f d r all h = absurd f
arrives n tables l p from onto kind.Host (LinkV v) x m g e to i f d r all h = absurd f
arrives n tables l p from onto kind.Host (HostV s) x m g e to i f d r all h = let c = meeting (event.Arrive l p) (HostV s) (LinkV x) m h in none_at_host l p s c.crossing m.low c.low_row
arrives n tables l p from onto kind.Host (DetectorV v) x m g e to i f d r all h = absurd f
arrives n tables l p from onto kind.Host AbsentV x m g e to i f d r all h = absurd f
arrives n tables l p from onto kind.Detector (TileV v) x m g e to i f d r all h = absurd i
arrives n tables l p from onto kind.Detector (RouterV v) x m g e to i f d r all h = absurd i
arrives n tables l p from onto kind.Detector (LinkV v) x m g e to i f d r all h = absurd i
arrives n tables l p from onto kind.Detector (HostV s) x m g e to i f d r all h = absurd i
arrives n tables l p from onto kind.Detector (DetectorV v) x m g e to i f d r all h = absurd i
arrives n tables l p from onto kind.Detector AbsentV x m g e to i f d r all h = absurd i

pub arrivals_keep : (tables : List Table) (l p : PartId) (w new : WorldView) → IsWorld w → IsReady tables w → WorldOnWay tables w → happened (event.Arrive l p) w ≡ Some new → WorldOnWay tables new
arrivals_keep tables l p w new i g r h = by (leads_to p.0 (kind_of w.shape l.0)) refl h where
  by : (there : Bool) → leads_to p.0 (kind_of w.shape l.0) ≡ there → happened_at (event.Arrive l p) w (two_if there p.0 l.0) ≡ Some new → WorldOnWay tables new
  by false e q = cc q
  by true e q =
      let n : ShapeNumbers = w.shape in
      let j = (leads_on (kind_of n l.0) p.0 e).1 in
      let s = ends tables (event.Arrive l p) w new p.0 l.0 j.low j.high j.is i g r q in
      let here : kind_of n j.high.0 ≡ kind_of n p.0 = ap (kind_of n) j.onto_is in
      let visited = visited_kind n j.high.0 (joins_visited n l.0 j.low j.high g.routes.limits j.is).onto_visited in
      s.back (arrives n tables l p j.low j.high (kind_of n p.0) s.low s.link s.met g.routes j.is here (subst IsVisited here visited) s.kind_fits s.ready s.low_fits s.link_fits s.row)
