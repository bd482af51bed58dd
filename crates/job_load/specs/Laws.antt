-- What the definitions of memory and of the start mean.
use Rattle.std.specs.Prelude.{ℕ, ◌≡◌, ◌<◌, ◌+◌, ◌-◌, ◌&&◌, List, [], ◌∷◌, drop, length, take, nat_le, nat_lt, Option, Some, None, replicate, option_map, slice_index, slice_index_or, if◌then◌else◌, IsTrue, true, false}
use Rattle.std.specs.List.{AllByRecursion}
use Rattle.std.specs.Option.{option_or, unwrap_or}
use Rattle.tn_base.specs.declared.part.Kind.{Kind}
use Rattle.tn_base.specs.declared.part.Kind.TheVariants as kind
use Rattle.tn_base.specs.Address.{has_thread, thread_at, tile_threads}
use Rattle.tn_base.specs.Message.{slot_bytes}
use Rattle.tn_base.specs.Parts.{parts, tile_at, tile_count}
use Rattle.tn_base.specs.Shape.{is_shape, thread_count}
use Rattle.tn_detect.specs.DetectorView.{fresh_detector}
use Rattle.tn_keys.specs.Accepted.{Accepted}
use Rattle.tn_node.specs.NodeRows.{fresh_node}
use Rattle.tn_node.specs.PortRows.{no_values}
use Rattle.tn_router.specs.RouterView.{RouterView}
use Rattle.polite_place.specs.declared.placement.Seat.{Seat}
use Rattle.polite_place.specs.Seats.{devices_on, seat_of}
use Rattle.polite_start.specs.Start.{entries_of, keys_on, state_of}
use Rattle.polite_switch.specs.Device.{device_at}
use Rattle.polite_switch.specs.DeviceModel.{DeviceModel}
use Rattle.polite_switch.specs.SwitchModel.{SwitchModel}
use Rattle.tn_rows.specs.Events.{IsWorld}
use Rattle.tn_host.specs.Rows.{fresh_state as fresh_host}
use Rattle.tn_rows.specs.PartView.{PartView, TileV, RouterV, LinkV, HostV, DetectorV, AbsentV}
use Rattle.tn_rows.specs.WorldView.{WorldView}
use Rattle.tn_slots.specs.Pool.{fresh}
use Rattle.tn_thread.specs.declared.state.ThreadState.TheVariants as state
use Rattle.tn_thread.specs.declared.thread.Thread.{Thread}
use Rattle.tn_tile.specs.Kept.{AreStarts, IsFreshSwitch}
use Rattle.tn_tile.specs.TileView.{TileView}
use Rattle.job_text.specs.declared.job.FillLine.{FillLine}
use Rattle.job_text.specs.declared.job.Job.{Job}
use Rattle.job_faults.specs.declared.map.Mapped.{Mapped}
use Rattle.job_faults.specs.Assembly.{labels_of, sections_of}
use Rattle.job_faults.specs.Code.{code_of}
use Rattle.job_faults.specs.Faults.{beat_fault, beat_lines, has_board, send_fault}
use Rattle.job_faults.specs.Labels.{entries_in}
use Rattle.job_faults.specs.Mapping.{graph_mapped}
use Rattle.job_load.specs.Graph.{FitsGraph}
use Rattle.job_load.specs.Images.{IsWithin, fills_of, memory_of}
use Rattle.job_load.specs.Start.{by_address, start_of, start_tables, thread_start}

-- Memory.

-- the byte that a fill gives at an address
abbrev pub given_by : FillLine → ℕ → Option ℕ
given_by f a = if nat_le f.address a && nat_lt a (f.address + length f.bytes) then Some (slice_index f.bytes (a - f.address)) else None

-- the byte of the last fill that gives one at an address
abbrev pub last_given : List FillLine → ℕ → Option ℕ
last_given [] a = None
last_given (f ∷ fs) a = option_or (last_given fs a) (given_by f a)

-- a thread's memory is of this size, and each byte is that of the thread's last fill that gives it, or 0
pub record IsMemory (size : ℕ) (fills : List FillLine) (thread : ℕ) : Type 0 where
  pub size_is : length (memory_of size fills thread) ≡ size
  pub byte : (a : ℕ) → slice_index (memory_of size fills thread) a ≡ unwrap_or (last_given (fills_of thread fills) a) 0

-- The start.

-- a thread without a softswitch begins at address 0. A thread with a softswitch begins at the firmware's address, and its softswitch
-- has done nothing yet
abbrev pub BeginsWith : Option SwitchModel → Thread → Type 0
BeginsWith None t = (t.firmware ≡ false) × (t.pc ≡ 0)
BeginsWith (Some s) t = (t.firmware ≡ true) × (t.pc ≡ 0xFFFFFFF0) × IsFreshSwitch s

-- a thread that has made no step: each register is 0, it sent nothing, no answer was given to it, and it has no letter in hand
pub record IsFreshThread (t : Thread) : Type 0 where
  pub runs : t.state ≡ state.Run
  pub begins : BeginsWith t.switch t
  pub regs : t.regs ≡ replicate 32 0
  pub steps : t.steps ≡ 0
  pub sends : t.sends ≡ 0
  pub given : t.given ≡ 0
  pub hand : t.hand ≡ 0

-- nothing has happened on a tile
pub record IsFresh (v : TileView) : Type 0 where
  pub threads : AllByRecursion IsFreshThread v.now.threads
  pub pending : v.now.pending ≡ replicate (tile_threads v.plan.shape) None
  pub pool : v.now.pool ≡ fresh v.plan.shape.slots (tile_threads v.plan.shape) (slot_bytes v.plan.shape)
  pub node : v.now.node ≡ fresh_node
  pub dropped : v.now.dropped ≡ 0
  pub going : v.now.ended ≡ None

-- nothing has happened on a router
pub record IsFreshRouter (v : RouterView) : Type 0 where
  pub inputs : v.now.inputs ≡ no_values
  pub node : v.now.node ≡ fresh_node
  pub going : v.now.ended ≡ None

abbrev pub IsFreshPart : PartView → Type 0
IsFreshPart (TileV v) = IsFresh v
IsFreshPart (RouterV v) = IsFreshRouter v
IsFreshPart (LinkV v) = v.packets ≡ []
IsFreshPart (HostV s) = s ≡ fresh_host s.script
IsFreshPart (DetectorV v) = v ≡ fresh_detector v.visited
IsFreshPart AbsentV = Unit {0}

-- if the part is a tile, its threads are at their start, by ascending address
abbrev pub HasStarts : Job → Kind → Type 0
HasStarts job (kind.Tile tile) = AreStarts job.numbers tile.0 (by_address (thread_start job) job.numbers tile.0)
HasStarts job kind.Host = Unit {0}
HasStarts job (kind.Router board) = Unit {0}
HasStarts job (kind.Link from onto) = Unit {0}
HasStarts job kind.Detector = Unit {0}

-- the machine of an accepted job at its start
pub record IsStart (job : Job) (w : WorldView) : Type 0 where
  pub start : w ≡ start_of job
  pub world : IsWorld w
  pub numbers : IsTrue (is_shape job.numbers)
  pub code : (i : ℕ) → i < tile_count job.numbers → 0 < length (code_of (sections_of job) (tile_at job.numbers i))
  pub fills : AllByRecursion (λ f. IsTrue (has_thread job.numbers f.thread) × IsWithin job.numbers.mem f) job.fills
  pub boards : AllByRecursion (λ table. IsTrue (has_board job.numbers table)) job.tables
  pub beats : AllByRecursion (λ beat. beat_fault job.version beat ≡ None) (beat_lines job.tables)
  pub sends : AllByRecursion (λ l. send_fault job.numbers l ≡ None) job.script
  pub graph : FitsGraph job (graph_mapped job)
  pub tables : Accepted job.numbers (start_tables job)
  pub threads : AllByRecursion (HasStarts job) (parts job.numbers)
  pub fresh : AllByRecursion IsFreshPart w.parts

-- The vertices of a graph.

-- this is the device of a vertex: its handlers are those of the vertex's kind, its keys are those of the vertex's pins, and at its address
-- the memory has the vertex's state
pub record IsDeviceOf (job : Job) (m : Mapped) (v : ℕ) (memory : List ℕ) (d : DeviceModel) : Type 0 where
  pub vertex : d.vertex ≡ v
  pub entries : d.entries ≡ entries_of m.graph (entries_in (labels_of job.asms) m.graph.kinds) v
  pub keys : d.keys ≡ keys_on m.graph m.routes.keys v
  pub state : take (length (state_of m.graph v)) (drop d.state memory) ≡ state_of m.graph v

-- a softswitch is there, and its device at this place is that of the vertex
abbrev pub HasDevice : Job → Mapped → ℕ → ℕ → List ℕ → Option SwitchModel → Type 0
HasDevice job m d v memory None = ⊥
HasDevice job m d v memory (Some s) = (d < length s.devices) × IsDeviceOf job m v memory (device_at s.devices d)

-- how many devices there are
abbrev pub device_count : Option SwitchModel → ℕ
device_count None = 0
device_count (Some s) = length s.devices

-- the thread where a vertex has its seat has the vertex's device at the seat's place
pub record HasVertex (job : Job) (m : Mapped) (v : ℕ) (seat : Seat) : Type 0 where
  pub there : IsTrue (has_thread job.numbers seat.thread.0)
  pub device : HasDevice job m seat.device v (thread_start job seat.thread.0).mem.bytes (thread_start job seat.thread.0).switch

-- each vertex of a graph has its device at its seat, no thread has further devices, and each thread has its in-edges of the graph's routes
pub record AreSeated (job : Job) (m : Mapped) : Type 0 where
  pub each : (v : ℕ) → v < length m.graph.vertices → HasVertex job m v (seat_of m.placement v)
  pub count : (a : ℕ) → IsTrue (has_thread job.numbers a) → device_count (thread_start job a).switch ≡ devices_on m.placement a
  pub in_edges : (i : ℕ) → i < thread_count job.numbers → option_map (λ (s : SwitchModel). s.in_edges) (thread_start job (thread_at job.numbers i)).switch ≡ Some (slice_index_or m.routes.in_edges i [])
