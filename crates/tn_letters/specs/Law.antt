-- What runs of the machine mean: each is a run of the bag machine.
use Rattle.std.specs.Prelude.{ℕ, ◌≡◌, ◌<◌, IsTrue, List, [], length, nat_le, sum_by, slice_index_or}
use Rattle.std.specs.List.{AllByRecursion}
use Rattle.tn_base.specs.declared.event.Event.{Event}
use Rattle.tn_base.specs.declared.message.Dest.TheVariants as dest
use Rattle.tn_base.specs.declared.shape.ShapeNumbers.{ShapeNumbers}
use Rattle.tn_base.specs.Address.{has_thread}
use Rattle.tn_base.specs.Message.{has_dest, slot_bytes}
use Rattle.tn_base.specs.Parts.{visited}
use Rattle.tn_base.specs.Shape.{is_shape}
use Rattle.tn_detect.specs.DetectorView.{fresh_detector}
use Rattle.tn_host.specs.declared.script.ScriptItem.{ScriptItem}
use Rattle.tn_host.specs.declared.script.ScriptItem.TheVariants as item
use Rattle.tn_host.specs.Rows.{fresh_state}
use Rattle.tn_keys.specs.Accepted.{Accepted}
use Rattle.tn_keys.specs.Tables.{Table}
use Rattle.tn_router.specs.Kept.{fresh_router}
use Rattle.tn_rows.specs.Events.{IsWorld}
use Rattle.tn_rows.specs.PartView.{PartView, TileV, RouterV, LinkV, HostV, DetectorV, AbsentV}
use Rattle.tn_rows.specs.Runs.{Run}
use Rattle.tn_rows.specs.WorldView.{WorldView}
use Rattle.tn_thread.specs.declared.thread.Thread.{Thread}
use Rattle.tn_tile.specs.Kept.{AreStarts, fresh_tile}
use Rattle.tn_letters.specs.Letters.{SameBag}
use Rattle.tn_letters.specs.Machine.{BagRun}
use Rattle.tn_letters.specs.Standing.{bag_at}
use Rattle.tn_letters.specs.State.{Agree, BagState}
use Rattle.tn_letters.specs.Steps.{bag_of}
use Rattle.tn_letters.specs.Tiles.{program_of, tables_of}

-- an item that is a message is one of the machine: its thread is there, and its bytes fit a slot
abbrev pub IsSendable : ShapeNumbers → ScriptItem → Type 0
IsSendable n (item.Send t bytes) = IsTrue (has_dest n (dest.Thread t)) × IsTrue (nat_le (length bytes) (slot_bytes n))
IsSendable n item.AwaitIdle = Unit {0}

-- a tile at its start is over some code, with its threads at their start; a router has some table, and like a link it
-- holds no packet; the host has a script of messages of the machine; the detector has no report
abbrev pub StartsSo : ShapeNumbers → PartView → Type 0
StartsSo n (TileV v) = (words : List ℕ) × (threads : List Thread) × AreStarts n v.plan.tile threads × (v ≡ fresh_tile n v.plan.tile words threads)
StartsSo n (RouterV v) = (beats : Table) × (v ≡ fresh_router n v.plan.board beats)
StartsSo n (LinkV v) = v ≡ record { packets = []; capacity = n.link }
StartsSo n (HostV s) = (script : List ScriptItem) × AllByRecursion (IsSendable n) script × (s ≡ fresh_state script)
StartsSo n (DetectorV v) = v ≡ fresh_detector (visited n)
StartsSo n AbsentV = Unit {0}

-- the start of a machine: the parts are those of its shape, each is at its start, and the routers' tables are accepted
pub record IsStart (w : WorldView) : Type 0 where
  pub shape : IsTrue (is_shape w.shape)
  pub world : IsWorld w
  pub parts : (p : ℕ) → p < length w.parts → StartsSo w.shape (slice_index_or w.parts p AbsentV)
  pub tables : Accepted w.shape (tables_of w)

-- how many letters were dropped on a part, and on all parts
abbrev pub dropped_on : PartView → ℕ
dropped_on (TileV v) = v.now.dropped
dropped_on (RouterV v) = 0
dropped_on (LinkV v) = 0
dropped_on (HostV s) = 0
dropped_on (DetectorV v) = 0
dropped_on AbsentV = 0

abbrev pub dropped_in : WorldView → ℕ
dropped_in w = sum_by dropped_on w.parts

-- a machine shows a state of the bag machine: threads, holdings, flight, the host's letters, script and count of messages are those
-- of `bag_at`, and as many letters were dropped
pub record Shows (w : WorldView) (s : BagState) : Type 0 where
  pub threads : Agree w.shape s.threads (bag_at w).threads
  pub held : (a slot : ℕ) → IsTrue (has_thread w.shape a) → s.held a slot ≡ (bag_at w).held a slot
  pub flight : SameBag s.flight (bag_at w).flight
  pub host : s.host ≡ (bag_at w).host
  pub script : s.script ≡ (bag_at w).script
  pub host_sends : s.host_sends ≡ (bag_at w).host_sends
  pub dropped : length s.dropped ≡ dropped_in w

-- the history is a run of the bag machine, to a state that the end shows
pub record IsBagRun (start : WorldView) (history : List Event) (end : WorldView) : Type 0 where
  pub state : BagState
  pub run : BagRun (program_of start) (bag_at start) (bag_of start history) state
  pub shows : Shows end state

-- each run of a machine from its start is a run of the bag machine
abbrev pub EveryRunIsBagRun : Type 0
EveryRunIsBagRun = (start : WorldView) (history : List Event) (end : WorldView) → IsStart start → Run start history end → IsBagRun start history end
