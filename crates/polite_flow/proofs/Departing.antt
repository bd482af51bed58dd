-- A departure keeps all packets of a whole machine on their way.
use Rattle.std.proofs.Common.{ℕ, ◌≡◌, ◌<◌, Bool, true, false, refl, sym, ap, ◌∙◌, subst, List, length, set, arith, length-set, Some}
use Rattle.std.proofs.lemmas.Option.{get_or_from_slice_get, slice_get_within}
use Rattle.tn_base.specs.declared.event.Event.{Event}
use Rattle.tn_base.specs.declared.event.Event.TheVariants as event
use Rattle.tn_base.specs.declared.ids.Board.{Board}
use Rattle.tn_base.specs.declared.ids.PartId.{PartId}
use Rattle.tn_base.specs.declared.ids.TileId.{TileId}
use Rattle.tn_base.specs.declared.part.Kind.{Kind}
use Rattle.tn_base.specs.declared.part.Kind.TheVariants as kind
use Rattle.tn_base.specs.declared.shape.ShapeNumbers.{ShapeNumbers}
use Rattle.tn_base.specs.Parts.{kind_of}
use Rattle.tn_keys.specs.Tables.{Table}
use Rattle.tn_link.specs.LinkView.{LinkView}
use Rattle.tn_router.specs.Kept.{IsFit}
use Rattle.tn_router.specs.RouterView.{RouterPlan, RouterView}
use Rattle.tn_rows.specs.Events.{FitsKind, IsWorld, Met, happened, happened_at, meets}
use Rattle.tn_rows.specs.PartView.{PartView, TileV, RouterV, LinkV, HostV, DetectorV, AbsentV}
use Rattle.tn_rows.specs.Places.{Two, leads_from, two_if}
use Rattle.tn_rows.specs.WorldView.{WorldView}
use Rattle.tn_rows.proofs.Ways.{leads_by}
use Rattle.tn_quiet.proofs.Machines.{at_two, fits_at}
use Rattle.tn_tile.specs.TileView.{TileView}
use Rattle.polite_flow.specs.Law.{HasRoutes}
use Rattle.polite_flow.specs.Meetings.{LinkOnWay, router_with, tile_with}
use Rattle.polite_flow.specs.Routers.{plan_of}
use Rattle.polite_flow.specs.World.{IsReady, KindOnWay, PartOnWay, PartReady, RouterReady, WorldOnWay}
use Rattle.polite_flow.proofs.Meetings.{routers_depart, tiles_depart}
use Rattle.polite_flow.proofs.World.{placed}

-- ---- parts in their places

-- a tile of the shape, and a router with the tables
pub tile_is : (n : ShapeNumbers) (a : TileId) (v : TileView) → v.plan.shape ≡ n → v.plan.tile ≡ a.0 → TileV v ≡ tile_with n a v.plan.code v.now
tile_is n a v e f = ap (λ s. tile_with s (record { 0 = v.plan.tile }) v.plan.code v.now) e ∙ ap (λ t. tile_with n (record { 0 = t }) v.plan.code v.now) f

pub router_is : (n : ShapeNumbers) (tables : List Table) (v : RouterView) → v.plan ≡ plan_of n tables v.plan.board → RouterV v ≡ router_with n tables v.plan.board v.now
router_is n tables v e = ap (λ (q : RouterPlan). RouterV (record { plan = q; now = v.now })) e

pub router_fit : (n : ShapeNumbers) (tables : List Table) (v : RouterView) → RouterReady n tables v → IsFit (plan_of n tables v.plan.board) v.now
router_fit n tables v r = subst (λ (q : RouterPlan). IsFit q v.now) r.plan r.fit

-- a part and a link after an event on both: the packets of the part and those of the link, which leads from a part of this kind, are on
-- their way
pub record MetOnWay (n : ShapeNumbers) (tables : List Table) (p l : ℕ) (from : Kind) (m : Met) : Type 0 where
  pub low : PartOnWay n tables p m.low
  pub link : LinkView
  pub high : m.high ≡ LinkV link
  pub fits : LinkOnWay n tables l from link

-- ---- an event on a part and a link in the whole machine

pub record LinkThere (n : ShapeNumbers) (tables : List Table) (l : ℕ) (from : Kind) (high : PartView) : Type 0 where
  pub link : LinkView
  pub is : high ≡ LinkV link
  pub fits : LinkOnWay n tables l from link

-- what is at the place of a link is a link
pub link_there : (n : ShapeNumbers) (tables : List Table) (l : ℕ) (from onto : PartId) (high : PartView) → kind_of n l ≡ kind.Link from onto → FitsKind n (kind_of n l) high → PartOnWay n tables l high → LinkThere n tables l (kind_of n from.0) high
link_there n tables l from onto (LinkV x) e f r = record { link = x; is = refl; fits = subst (λ k. KindOnWay n tables l k x) e r }
link_there n tables l from onto (TileV v) e f r = absurd (subst (λ k. FitsKind n k (TileV v)) e f)
link_there n tables l from onto (RouterV v) e f r = absurd (subst (λ k. FitsKind n k (RouterV v)) e f)
link_there n tables l from onto (HostV s) e f r = absurd (subst (λ k. FitsKind n k (HostV s)) e f)
link_there n tables l from onto (DetectorV v) e f r = absurd (subst (λ k. FitsKind n k (DetectorV v)) e f)
link_there n tables l from onto AbsentV e f r = absurd (subst (λ k. FitsKind n k AbsentV) e f)

-- what the part and the link of a link's end are before the event
pub record Ends (tables : List Table) (e : Event) (w new : WorldView) (p l : ℕ) (from : Kind) : Type 0 where
  pub low : PartView
  pub link : LinkView
  pub met : Met
  pub kind_fits : FitsKind w.shape (kind_of w.shape p) low
  pub ready : PartReady w.shape tables low
  pub low_fits : PartOnWay w.shape tables p low
  pub link_fits : LinkOnWay w.shape tables l from link
  pub row : meets e low (LinkV link) ≡ Some met
  pub back : MetOnWay w.shape tables p l from met → WorldOnWay tables new

pub ends : (tables : List Table) (e : Event) (w new : WorldView) (p l : ℕ) (from onto : PartId) → kind_of w.shape l ≡ kind.Link from onto → IsWorld w → IsReady tables w → WorldOnWay tables w → happened_at e w (Two p l) ≡ Some new → Ends tables e w new p l (kind_of w.shape from.0)
ends tables e w new p l from onto k i g r h =
    let a = at_two e w new p l h in
    let n : ShapeNumbers = w.shape in
    let was_low = get_or_from_slice_get w.parts p a.low AbsentV a.low_was in
    let was_high = get_or_from_slice_get w.parts l a.high AbsentV a.high_was in
    let x = link_there n tables l from onto a.high k (fits_at w l a.high i a.high_was) (subst (PartOnWay n tables l) was_high (r l)) in
    record {
      low = a.low;
      link = x.link;
      met = a.met;
      kind_fits = fits_at w p a.low i a.low_was;
      ready = subst (PartReady n tables) was_low (g.routers p);
      low_fits = subst (PartOnWay n tables p) was_low (r p);
      link_fits = x.fits;
      row = subst (λ y. meets e a.low y ≡ Some a.met) x.is a.row;
      back = λ m.
          let within = slice_get_within w.parts p a.low a.low_was in
          let below = slice_get_within w.parts l a.high a.high_was in
          let size = length-set w.parts p a.met.low in
          let room : l < length (set w.parts p a.met.low) = omega arith in
          let there : PartOnWay n tables l a.met.high = subst (PartOnWay n tables l) (sym m.high) (subst (λ c. KindOnWay n tables l c m.link) (sym k) m.fits) in
          subst (WorldOnWay tables) (sym a.is) (λ q. placed (PartOnWay n tables) (set w.parts p a.met.low) l q a.met.high room (λ j. placed (PartOnWay n tables) w.parts p j a.met.low within r m.low) there);
    }

-- ---- departures

departs_tile : (n : ShapeNumbers) (tables : List Table) (p l : PartId) (a : TileId) (v : TileView) (x : LinkView) (m : Met) → HasRoutes n tables → FitsKind n (kind.Tile a) (TileV v) → PartOnWay n tables p.0 (TileV v) → LinkOnWay n tables l.0 (kind.Tile a) x
    → meets (event.Depart p l) (TileV v) (LinkV x) ≡ Some m → MetOnWay n tables p.0 l.0 (kind.Tile a) m
departs_tile n tables p l a v x m g f r all h =
    let is = tile_is n a v f.0 f.1 in
    let t = tiles_depart n tables p l a v.plan.code v.now x m g (subst (PartOnWay n tables p.0) is r) all (subst (λ y. meets (event.Depart p l) y (LinkV x) ≡ Some m) is h) in
    record { low = subst (PartOnWay n tables p.0) (sym t.low) t.tile_fits; link = t.link; high = t.high; fits = t.link_fits }

departs_router : (n : ShapeNumbers) (tables : List Table) (p l : PartId) (b : Board) (v : RouterView) (x : LinkView) (m : Met) → HasRoutes n tables → FitsKind n (kind.Router b) (RouterV v) → RouterReady n tables v → PartOnWay n tables p.0 (RouterV v) → LinkOnWay n tables l.0 (kind.Router b) x
    → meets (event.Depart p l) (RouterV v) (LinkV x) ≡ Some m → MetOnWay n tables p.0 l.0 (kind.Router b) m
departs_router n tables p l b v x m g f k r all h =
    let is = router_is n tables v k.plan in
    let t = routers_depart n tables p l v.plan.board v.now x m g k.on (router_fit n tables v k) r (subst (λ c. LinkOnWay n tables l.0 (kind.Router c) x) (sym f.1) all) (subst (λ y. meets (event.Depart p l) y (LinkV x) ≡ Some m) is h) in
    record { low = subst (PartOnWay n tables p.0) (sym t.low) t.router_fits; link = t.link; high = t.high; fits = subst (λ c. LinkOnWay n tables l.0 (kind.Router c) t.link) f.1 t.link_fits }

-- only a tile and a router have packets that depart
departs : (n : ShapeNumbers) (tables : List Table) (p l : PartId) (k : Kind) (low : PartView) (x : LinkView) (m : Met) → HasRoutes n tables → FitsKind n k low → PartReady n tables low → PartOnWay n tables p.0 low → LinkOnWay n tables l.0 k x
    → meets (event.Depart p l) low (LinkV x) ≡ Some m → MetOnWay n tables p.0 l.0 k m
departs n tables p l (kind.Tile a) (TileV v) x m g f d r all h = departs_tile n tables p l a v x m g f r all h
departs n tables p l (kind.Router b) (TileV v) x m g f d r all h = absurd f
departs n tables p l (kind.Link from onto) (TileV v) x m g f d r all h = absurd f
departs n tables p l kind.Host (TileV v) x m g f d r all h = absurd f
departs n tables p l kind.Detector (TileV v) x m g f d r all h = absurd f
departs n tables p l (kind.Tile a) (RouterV v) x m g f d r all h = absurd f
departs n tables p l (kind.Router b) (RouterV v) x m g f d r all h = departs_router n tables p l b v x m g f d r all h
departs n tables p l (kind.Link from onto) (RouterV v) x m g f d r all h = absurd f
departs n tables p l kind.Host (RouterV v) x m g f d r all h = absurd f
departs n tables p l kind.Detector (RouterV v) x m g f d r all h = absurd f
departs n tables p l k (LinkV v) x m g f d r all h = cc h
departs n tables p l k (HostV s) x m g f d r all h = cc h
departs n tables p l k (DetectorV v) x m g f d r all h = cc h
departs n tables p l k AbsentV x m g f d r all h = cc h

pub departures_keep : (tables : List Table) (p l : PartId) (w new : WorldView) → IsWorld w → IsReady tables w → WorldOnWay tables w → happened (event.Depart p l) w ≡ Some new → WorldOnWay tables new
departures_keep tables p l w new i g r h = by (leads_from p.0 (kind_of w.shape l.0)) refl h where
  by : (there : Bool) → leads_from p.0 (kind_of w.shape l.0) ≡ there → happened_at (event.Depart p l) w (two_if there p.0 l.0) ≡ Some new → WorldOnWay tables new
  by false e q = cc q
  by true e q =
      let n : ShapeNumbers = w.shape in
      let j = (leads_by (kind_of n l.0) p.0 e).1 in
      let s = ends tables (event.Depart p l) w new p.0 l.0 j.low j.high j.is i g r q in
      let here : kind_of n j.low.0 ≡ kind_of n p.0 = ap (kind_of n) j.from_is in
      let m = departs n tables p l (kind_of n p.0) s.low s.link s.met g.routes s.kind_fits s.ready s.low_fits (subst (λ k. LinkOnWay n tables l.0 k s.link) here s.link_fits) s.row in
      s.back (record { low = m.low; link = m.link; high = m.high; fits = subst (λ k. LinkOnWay n tables l.0 k m.link) (sym here) m.fits })
