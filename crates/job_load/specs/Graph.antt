-- The threads of a graph's machine at the start.
use Rattle.std.specs.Prelude.{ℕ, ◌≡◌, ◌≤◌, ◌<◌, ◌+◌, ◌*◌, List, [], drop, length, slice_index_or, take, MatchOption, Option, Some, ⊤}
use Rattle.tn_base.specs.declared.shape.ShapeNumbers.{ShapeNumbers}
use Rattle.tn_base.specs.Address.{in_tile, place_in_tile, tile_of, tile_place, tile_threads}
use Rattle.tn_base.specs.Message.{flits}
use Rattle.tn_base.specs.Shape.{thread_count}
use Rattle.tn_keys.specs.Accepted.{Accepted}
use Rattle.tn_thread.specs.declared.thread.Thread.{Thread}
use Rattle.tn_thread.specs.Step.{started}
use Rattle.polite_switch.specs.declared.device.InEdge.{InEdge}
use Rattle.polite_switch.specs.Device.{AllNamed}
use Rattle.polite_switch.specs.Table.{fresh_switch}
use Rattle.graph_text.specs.declared.graph.Graph.{Graph}
use Rattle.graph_text.specs.Graph.{IsGraph}
use Rattle.polite_place.specs.Outs.{outs_of}
use Rattle.polite_place.specs.Roster.{vertices_on}
use Rattle.polite_start.specs.Start.{AreAligned, AreVertices, image_of, switch_of}
use Rattle.job_text.specs.declared.job.Job.{Job}
use Rattle.job_faults.specs.declared.map.Mapped.{Mapped}
use Rattle.job_faults.specs.Assembly.{labels_of}
use Rattle.job_faults.specs.Labels.{entries_in}
use Rattle.job_load.specs.SeatedModel.{SeatedModel}

-- a thread's place among those of the machine, by ascending address: its tile's threads stand together
abbrev pub place_of : ShapeNumbers → ℕ → ℕ
place_of n a = tile_place n (tile_of a) * tile_threads n + place_in_tile n a

-- the i-th thread of the machine: the states of its vertices, and its softswitch over their devices and its in-edges
abbrev pub seated : ShapeNumbers → Graph → List (List (Option ℕ)) → List (List ℕ) → List (List (List InEdge)) → ℕ → SeatedModel
seated n graph keys entries in_edges i = record {
  image = image_of graph (vertices_on n (outs_of graph) i);
  switch = switch_of graph keys entries (vertices_on n (outs_of graph) i) (slice_index_or in_edges i []);
}

-- the same of a job's graph with its places and routes
abbrev pub seated_in : Job → Mapped → ℕ → SeatedModel
seated_in job m i = seated job.numbers m.graph m.routes.keys (entries_in (labels_of job.asms) m.graph.kinds) m.routes.in_edges i

-- a thread at its start with firmware of messages of so many flits, but for the softswitch
abbrev pub bare_over : ShapeNumbers → ℕ → ℕ → SeatedModel → Thread
bare_over n many a s = started n (record { 0 = a }) s.image (Some many)

-- the whole thread
abbrev pub thread_with : ShapeNumbers → ℕ → ℕ → SeatedModel → Thread
thread_with n many a s = record (bare_over n many a s) { switch = Some s.switch }

-- A tile's threads.

abbrev pub no_seat : SeatedModel
no_seat = record { image = []; switch = fresh_switch [] [] }

abbrev pub seat_in : List SeatedModel → ℕ → SeatedModel
seat_in seats k = slice_index_or seats k no_seat

-- those of the machine's threads that are on a tile
abbrev pub seats_on : ShapeNumbers → List SeatedModel → ℕ → List SeatedModel
seats_on n seats tile = take (tile_threads n) (drop (tile_place n tile * tile_threads n) seats)

abbrev pub bare_thread : ShapeNumbers → ℕ → List SeatedModel → ℕ → ℕ → Thread
bare_thread n many seats tile k = bare_over n many (in_tile n tile k) (seat_in seats k)

-- What softswitches need of a graph with its places, its handlers and its in-edges.

-- each thread has vertices of the graph, at most 64, and each of its in-edges leads to one of them; each handler begins at a word
pub record StartsFit (n : ShapeNumbers) (graph : Graph) (entries : List (List ℕ)) (in_edges : List (List (List InEdge))) : Type 0 where
  pub graph_is : IsGraph graph
  pub aligned : AreAligned entries
  pub count : length in_edges ≡ thread_count n
  pub there : (i : ℕ) → i < thread_count n → AreVertices graph (vertices_on n (outs_of graph) i)
  pub few : (i : ℕ) → i < thread_count n → length (vertices_on n (outs_of graph) i) ≤ 64
  pub named : (i : ℕ) → i < thread_count n → AllNamed (length (vertices_on n (outs_of graph) i)) (slice_index_or in_edges i [])

-- the same, and the graph's messages and states have room in the machine, whose tables are accepted
pub record FitsMachine (job : Job) (m : Mapped) : Type 0 where
  pub starts : StartsFit job.numbers m.graph (entries_in (labels_of job.asms) m.graph.kinds) m.routes.in_edges
  pub messages : m.graph.flits ≤ flits job.numbers
  pub room : (i : ℕ) → i < thread_count job.numbers → length (image_of m.graph (vertices_on job.numbers (outs_of m.graph) i)) ≤ job.numbers.mem
  pub tables : Accepted job.numbers m.routes.tables

abbrev pub FitsGraph : Job → Option Mapped → Type 0
FitsGraph job mapped = MatchOption mapped ⊤ (FitsMachine job)
