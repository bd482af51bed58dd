-- What the threads of a graph's job send: each sends to the host, and by keys whose packets are on their way.
use Rattle.std.specs.Prelude.{ℕ, ◌≡◌, true, List, Option, Some, None, slice_index_or}
use Rattle.std.specs.List.{AllByRecursion}
use Rattle.polite_switch.specs.Device.{device_at, key_at}
use Rattle.polite_switch.specs.DeviceModel.{DeviceModel}
use Rattle.polite_switch.specs.SwitchModel.{SwitchModel}
use Rattle.tn_base.specs.declared.event.Event.{Event}
use Rattle.tn_base.specs.declared.message.Dest.{Dest}
use Rattle.tn_base.specs.declared.message.Dest.TheVariants as dest
use Rattle.tn_base.specs.declared.shape.ShapeNumbers.{ShapeNumbers}
use Rattle.tn_keys.specs.Tables.{Table}
use Rattle.tn_letters.specs.Tiles.{tables_of}
use Rattle.tn_rows.specs.Events.{IsWorld, happened}
use Rattle.tn_rows.specs.PartView.{PartView, TileV, RouterV, LinkV, HostV, DetectorV, AbsentV}
use Rattle.tn_rows.specs.Runs.{Walk}
use Rattle.tn_rows.specs.WorldView.{WorldView}
use Rattle.tn_thread.specs.declared.thread.Thread.{Thread}
use Rattle.tn_tile.specs.declared.state.TileState.{TileState}
use Rattle.polite_flow.specs.Flowing.{IsFlowing, IsFlowStart, TurnFits}
use Rattle.polite_flow.specs.OnWay.{Fits}
use Rattle.polite_flow.specs.Places.{Bound, Pending, tile_named}
use Rattle.polite_flow.specs.World.{WorldOnWay}

-- a packet for this destination is on its way where a thread of the tile of this address sent it
abbrev pub MaySend : ShapeNumbers → List Table → ℕ → Dest → Type 0
MaySend n tables tile to = (thread : ℕ) → Fits n tables (Pending (tile_named tile) thread) (Bound to)

-- P holds of the key of each pin of these devices
abbrev pub KeysAre : (ℕ → Type 0) → List DeviceModel → Type 0
KeysAre P devices = (device pin key : ℕ) → key_at (device_at devices device) pin ≡ Some key → P key

abbrev pub SwitchSends : (ℕ → Type 0) → Option SwitchModel → Type 0
SwitchSends P None = Unit {0}
SwitchSends P (Some s) = KeysAre P s.devices

-- a thread with firmware, whose softswitch has only keys of which P holds
pub record ThreadSends (P : ℕ → Type 0) (t : Thread) : Type 0 where
  pub firmware : t.firmware ≡ true
  pub keys : SwitchSends P t.switch

-- the threads of a tile may send to the host, and by each key of their softswitches
pub record TileSends (n : ShapeNumbers) (tables : List Table) (tile : ℕ) (s : TileState) : Type 0 where
  pub host : MaySend n tables tile dest.Host
  pub threads : AllByRecursion (ThreadSends (λ key. MaySend n tables tile (dest.Key key))) s.threads

abbrev pub PartSends : ShapeNumbers → List Table → PartView → Type 0
PartSends n tables (TileV v) = TileSends n tables v.plan.tile v.now
PartSends n tables (RouterV v) = Unit {0}
PartSends n tables (LinkV v) = Unit {0}
PartSends n tables (HostV s) = Unit {0}
PartSends n tables (DetectorV v) = Unit {0}
PartSends n tables AbsentV = Unit {0}

-- all threads of a machine may send so
abbrev pub AreSenders : List Table → WorldView → Type 0
AreSenders tables w = (p : ℕ) → PartSends w.shape tables (slice_index_or w.parts p AbsentV)

-- each event leaves the threads such senders
abbrev pub EventsKeepSenders : Type 0
EventsKeepSenders = (tables : List Table) (e : Event) (w new : WorldView) → IsWorld w → AreSenders tables w → happened e w ≡ Some new → AreSenders tables new

-- what a turn of such senders leaves to be sent is on its way
abbrev pub TurnsOfSendersFit : Type 0
TurnsOfSendersFit = (tables : List Table) (e : Event) (w new : WorldView) → WorldOnWay tables w → AreSenders tables w → happened e w ≡ Some new → TurnFits w.shape tables e new

-- along each walk from a start with such senders the machine flows, and its threads are such senders
abbrev pub WalksOfSendersFlow : Type 0
WalksOfSendersFlow = (start end : WorldView) (history : List Event) → IsFlowStart start → AreSenders (tables_of start) start → Walk start history end → IsFlowing (tables_of start) end × AreSenders (tables_of start) end
