-- Machines of a graph's job, all of whose packets are on their way: at the start, after each event and along each walk.
use Rattle.std.specs.Prelude.{ℕ, ◌≡◌, List, [], ◌∷◌, Some, slice_index_or}
use Rattle.tn_base.specs.declared.event.Event.{Event}
use Rattle.tn_base.specs.declared.event.Event.TheVariants as event
use Rattle.tn_base.specs.declared.shape.ShapeNumbers.{ShapeNumbers}
use Rattle.tn_keys.specs.Tables.{Table}
use Rattle.tn_letters.specs.Law.{IsStart}
use Rattle.tn_letters.specs.Tiles.{tables_of}
use Rattle.tn_rows.specs.Events.{IsWorld, happened}
use Rattle.tn_rows.specs.PartView.{AbsentV}
use Rattle.tn_rows.specs.Runs.{Walk}
use Rattle.tn_rows.specs.WorldView.{WorldView}
use Rattle.polite_flow.specs.OnWay.{AreDirected}
use Rattle.polite_flow.specs.Traffic.{HostSendsNothing}
use Rattle.polite_flow.specs.World.{IsReady, SentFits, WorldOnWay}

-- a machine has the parts of its shape, its routers are ready with these tables, its host has no message to send, and all its packets are
-- on their way
pub record IsFlowing (tables : List Table) (w : WorldView) : Type 0 where
  pub world : IsWorld w
  pub ready : IsReady tables w
  pub host : HostSendsNothing w
  pub ways : WorldOnWay tables w

-- what a turn leaves to be sent is on its way. No other event leaves more to be sent
abbrev pub TurnFits : ShapeNumbers → List Table → Event → WorldView → Type 0
TurnFits n tables (event.Turn who k) new = (p : ℕ) → SentFits n tables (slice_index_or new.parts p AbsentV)
TurnFits n tables (event.Deliver who) new = Unit {0}
TurnFits n tables (event.Depart p l) new = Unit {0}
TurnFits n tables (event.Arrive l p) new = Unit {0}
TurnFits n tables (event.Route p) new = Unit {0}
TurnFits n tables event.HostPut new = Unit {0}
TurnFits n tables event.HostTake new = Unit {0}
TurnFits n tables (event.Report p) new = Unit {0}
TurnFits n tables event.Begin new = Unit {0}
TurnFits n tables (event.Confirm p) new = Unit {0}
TurnFits n tables event.Announce new = Unit {0}
TurnFits n tables (event.Release p) new = Unit {0}
TurnFits n tables (event.Go p) new = Unit {0}

-- each event keeps a machine flowing, if what a turn leaves to be sent is on its way
abbrev pub EventsKeepFlowing : Type 0
EventsKeepFlowing = (tables : List Table) (e : Event) (w new : WorldView) → IsFlowing tables w → TurnFits w.shape tables e new → happened e w ≡ Some new → IsFlowing tables new

-- what each turn of a walk leaves to be sent is on its way
abbrev pub TurnsFit : List Table → WorldView → List Event → Type 0
TurnsFit tables start [] = Unit {0}
TurnsFit tables start (e ∷ es) = (mid : WorldView) → happened e start ≡ Some mid → TurnFits start.shape tables e mid × TurnsFit tables mid es

-- the start of a machine with the tables of a graph: its tables name the four directions alone, and its host has no message to send
pub record IsFlowStart (start : WorldView) : Type 0 where
  pub begins : IsStart start
  pub directed : AreDirected start.shape (tables_of start)
  pub host : HostSendsNothing start

-- at such a start a machine flows, and along each walk from there
abbrev pub StartsAreFlowing : Type 0
StartsAreFlowing = (start : WorldView) → IsFlowStart start → IsFlowing (tables_of start) start

abbrev pub WalksKeepFlowing : Type 0
WalksKeepFlowing = (start end : WorldView) (history : List Event) → IsFlowStart start → TurnsFit (tables_of start) start history → Walk start history end → IsFlowing (tables_of start) end
