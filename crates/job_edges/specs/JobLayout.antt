-- The layout of a job's graph on the job's machine.
use Rattle.std.specs.Prelude.{ℕ, ◌/◌, List, [], map}
use Rattle.byteorder.specs.Endian.{little_number}
use Rattle.graph_text.specs.declared.graph.EdgeRow.{EdgeRow}
use Rattle.job_faults.specs.declared.map.Mapped.{Mapped}
use Rattle.job_load.specs.Graph.{seated_in}
use Rattle.job_text.specs.declared.job.Job.{Job}
use Rattle.polite_edges.specs.Layout.{Layout}
use Rattle.polite_routes.specs.declared.target.Pin.{Pin}
use Rattle.polite_routes.specs.Answer.{thread_place}
use Rattle.polite_routes.specs.Hops.{Hop, hop}
use Rattle.polite_routes.specs.Pins.{edge_row, edges_of, pin_place, pins_of, target_of}
use Rattle.polite_routes.specs.Routes.{local_of}
use Rattle.polite_switch.specs.SwitchModel.{SwitchModel}
use Rattle.tn_keys.specs.Copies.{Copy}
use Rattle.tn_keys.specs.Reach.{reach}
use Rattle.tn_letters.specs.Letters.{board_of}

-- the softswitch of the thread of an address. An address of no thread has no in-edges
abbrev pub switch_at : Job → Mapped → ℕ → SwitchModel
switch_at job m a = (seated_in job m (thread_place job.numbers a)).switch

abbrev pub pins_in : Mapped → List Pin
pins_in m = pins_of m.graph m.placement

-- the local key of the edge of a row that leads to the tile at a place: how many trees of pins before the edge's pin reach the tile
abbrev pub key_on : List Pin → EdgeRow → ℕ → ℕ
key_on pins row tile = local_of pins (pin_place row.from row.pin) tile

-- the local key under which the messages of the edge at a place arrive
abbrev pub local_key : Mapped → ℕ → ℕ
local_key m e = key_on (pins_in m) (edge_row m.graph.edges e) ((target_of m.graph.edges m.placement e).thread.0 / 64)

-- where a copy of a message without bytes comes: the copy's bytes are its local key
abbrev pub hop_of : Copy → Hop
hop_of c = hop c.receiver (little_number 2 c.bytes)

abbrev pub layout_of : Job → Mapped → Layout
layout_of job m = record {
  shape = job.numbers;
  devices = λ a. (switch_at job m a).devices;
  in_edges = λ a. (switch_at job m a).in_edges;
  edges = edges_of m.graph.edges;
  local = local_key m;
  hops = λ a key. map hop_of (reach job.numbers m.routes.tables (board_of a) key []);
}
