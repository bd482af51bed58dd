-- Whether the states of a thread's vertices have room in the thread's memory.
use Rattle.std.specs.Prelude.{ℕ, ◌+◌, ◌*◌, ◌==◌, ◌≡◌, ◌<◌, Bool, List, length, nat_lt, slice_get, slice_index, Option, Some, None, if◌then◌else◌}
use Rattle.std.specs.List.{list_any, range_with_len}
use Rattle.tn_base.specs.declared.shape.ShapeNumbers.{ShapeNumbers}
use Rattle.tn_sums.specs.Totals.{total}
use Rattle.graph_text.specs.declared.graph.Graph.{Graph}
use Rattle.graph_text.specs.declared.graph.VertexRow.{VertexRow}
use Rattle.polite_place.specs.declared.placement.Seat.{Seat}
use Rattle.polite_place.specs.Seats.{seat_of}
use Rattle.job_text.specs.declared.job.Job.{Job}
use Rattle.job_text.specs.declared.job.TextSection.{TextSection}
use Rattle.job_faults.specs.declared.fault.FaultName.TheVariants as fault
use Rattle.job_faults.specs.declared.fault.LoadFault.{LoadFault}
use Rattle.job_faults.specs.declared.map.Mapped.{Mapped}
use Rattle.job_faults.specs.Faults.{fault_at}
use Rattle.job_faults.specs.Mapping.{graph_mapped}

abbrev pub words_in : Option VertexRow → ℕ
words_in None = 0
words_in (Some vertex) = length vertex.words

-- the bytes of a vertex's state: four a word
unfoldable pub state_bytes : Graph → ℕ → ℕ
state_bytes graph v = 4 * words_in (slice_get graph.vertices v)

-- the same, if the vertex has the thread at this address
abbrev pub state_on : Graph → List Seat → ℕ → ℕ → ℕ
state_on graph seats a v = if (seat_of seats v).thread.0 == a then state_bytes graph v else 0

-- the bytes of the states of all vertices that have the thread at an address
abbrev pub states_on : Graph → List Seat → ℕ → ℕ
states_on graph seats a = total (state_on graph seats a) (length graph.vertices)

-- the states on a vertex's thread, and 256 bytes, are more than a memory
abbrev pub lacks_room : ℕ → Graph → List Seat → ℕ → Bool
lacks_room mem graph seats v = nat_lt mem (states_on graph seats (seat_of seats v).thread.0 + 256)

-- some thread has more states than room
unfoldable pub any_lacks : ℕ → Graph → List Seat → Bool
any_lacks mem graph seats = list_any (lacks_room mem graph seats) (range_with_len 0 (length graph.vertices))

abbrev pub room_by : ShapeNumbers → Option TextSection → Option Mapped → Option LoadFault
room_by n None mapped = None
room_by n (Some section) None = None
room_by n (Some section) (Some m) = if any_lacks n.mem m.graph m.placement then Some (fault_at section.line fault.NoRoom) else None

-- a thread without room for its states, at the graph's line
abbrev pub room_fault : Job → Option LoadFault
room_fault job = room_by job.numbers job.graph (graph_mapped job)

-- each vertex's thread has an address of the table of sums
abbrev pub AreLow : List Seat → Type 0
AreLow seats = (v : ℕ) → v < length seats → (seat_of seats v).thread.0 < 16384

-- the first vertices are summed, by address
abbrev pub Summed : Graph → List Seat → ℕ → List ℕ → Type 0
Summed graph seats n sums = (a : ℕ) → a < 16384 → slice_index sums a ≡ total (state_on graph seats a) n
