-- Events of a whole machine that keep all its packets on their way.
use Rattle.std.specs.Prelude.{ℕ, ◌≡◌, List, Some, slice_index_or}
use Rattle.tn_base.specs.declared.event.Event.{Event}
use Rattle.tn_base.specs.declared.event.Event.TheVariants as event
use Rattle.tn_base.specs.declared.part.Kind.{Kind}
use Rattle.tn_base.specs.declared.part.Kind.TheVariants as kind
use Rattle.tn_base.specs.declared.shape.ShapeNumbers.{ShapeNumbers}
use Rattle.tn_base.specs.Parts.{kind_of}
use Rattle.tn_keys.specs.Tables.{HasBoard, Table}
use Rattle.tn_link.specs.LinkView.{LinkView}
use Rattle.tn_router.specs.Kept.{IsFit}
use Rattle.tn_router.specs.RouterView.{RouterView}
use Rattle.tn_rows.specs.Events.{happened}
use Rattle.tn_rows.specs.PartView.{PartView, TileV, RouterV, LinkV, HostV, DetectorV, AbsentV}
use Rattle.tn_rows.specs.WorldView.{WorldView}
use Rattle.polite_flow.specs.Law.{HasRoutes}
use Rattle.polite_flow.specs.Meetings.{LinkOnWay}
use Rattle.polite_flow.specs.Routers.{RouterOnWay, plan_of}
use Rattle.polite_flow.specs.Tiles.{PendingFit, TileOnWay}

-- each packet of a link, which is the part of this kind, is on its way
abbrev pub KindOnWay : ShapeNumbers → List Table → ℕ → Kind → LinkView → Type 0
KindOnWay n tables l (kind.Link from onto) v = LinkOnWay n tables l (kind_of n from.0) v
KindOnWay n tables l kind.Host v = Unit {0}
KindOnWay n tables l (kind.Tile a) v = Unit {0}
KindOnWay n tables l (kind.Router b) v = Unit {0}
KindOnWay n tables l kind.Detector v = Unit {0}

-- each packet of the part at place p is on its way
abbrev pub PartOnWay : ShapeNumbers → List Table → ℕ → PartView → Type 0
PartOnWay n tables p (TileV v) = TileOnWay n tables v.plan.tile v.now
PartOnWay n tables p (RouterV v) = RouterOnWay n tables v.plan.board v.now
PartOnWay n tables p (LinkV v) = KindOnWay n tables p (kind_of n p) v
PartOnWay n tables p (HostV s) = Unit {0}
PartOnWay n tables p (DetectorV v) = Unit {0}
PartOnWay n tables p AbsentV = Unit {0}

-- each packet of a machine is on its way
abbrev pub WorldOnWay : List Table → WorldView → Type 0
WorldOnWay tables w = (p : ℕ) → PartOnWay w.shape tables p (slice_index_or w.parts p AbsentV)

-- a router of the machine has the table of its board, and holds what holds of every router
pub record RouterReady (n : ShapeNumbers) (tables : List Table) (v : RouterView) : Type 0 where
  pub plan : v.plan ≡ plan_of n tables v.plan.board
  pub on : HasBoard n v.plan.board
  pub fit : IsFit v.plan v.now

abbrev pub PartReady : ShapeNumbers → List Table → PartView → Type 0
PartReady n tables (TileV v) = Unit {0}
PartReady n tables (RouterV v) = RouterReady n tables v
PartReady n tables (LinkV v) = Unit {0}
PartReady n tables (HostV s) = Unit {0}
PartReady n tables (DetectorV v) = Unit {0}
PartReady n tables AbsentV = Unit {0}

-- a machine with the tables of a graph, whose routers are ready
pub record IsReady (tables : List Table) (w : WorldView) : Type 0 where
  pub routes : HasRoutes w.shape tables
  pub routers : (p : ℕ) → PartReady w.shape tables (slice_index_or w.parts p AbsentV)

-- each packet that a thread of a tile sent is on its way
abbrev pub SentFits : ShapeNumbers → List Table → PartView → Type 0
SentFits n tables (TileV v) = PendingFit n tables v.plan.tile v.now
SentFits n tables (RouterV v) = Unit {0}
SentFits n tables (LinkV v) = Unit {0}
SentFits n tables (HostV s) = Unit {0}
SentFits n tables (DetectorV v) = Unit {0}
SentFits n tables AbsentV = Unit {0}

-- what an event has to leave: a turn leaves sent packets that are on their way. Departures, arrivals and what the host puts are no events of
-- this law
abbrev pub LeavesFit : ShapeNumbers → List Table → Event → WorldView → Type 0
LeavesFit n tables (event.Turn who k) new = (p : ℕ) → SentFits n tables (slice_index_or new.parts p AbsentV)
LeavesFit n tables (event.Deliver who) new = Unit {0}
LeavesFit n tables (event.Depart p l) new = ⊥
LeavesFit n tables (event.Arrive l p) new = ⊥
LeavesFit n tables (event.Route p) new = Unit {0}
LeavesFit n tables event.HostPut new = ⊥
LeavesFit n tables event.HostTake new = Unit {0}
LeavesFit n tables (event.Report p) new = Unit {0}
LeavesFit n tables event.Begin new = Unit {0}
LeavesFit n tables (event.Confirm p) new = Unit {0}
LeavesFit n tables event.Announce new = Unit {0}
LeavesFit n tables (event.Release p) new = Unit {0}
LeavesFit n tables (event.Go p) new = Unit {0}

-- each such event of a machine keeps all its packets on their way
abbrev pub EventsKeepWays : Type 0
EventsKeepWays = (tables : List Table) (e : Event) (w new : WorldView) → IsReady tables w → WorldOnWay tables w → LeavesFit w.shape tables e new → happened e w ≡ Some new → WorldOnWay tables new
