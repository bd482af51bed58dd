-- A thread of a graph at the start: the states of its vertices in its memory, and its softswitch.
use Rattle.std.specs.Prelude.{ℕ, ◌≡◌, ◌<◌, ◌+◌, ◌%◌, List, [], ◌∷◌, ◌++◌, flat_map, length, map, replicate, slice_get, slice_index, slice_index_or, Option, Some, None}
use Rattle.std.specs.List.{AllByRecursion, range_with_len}
use Rattle.std.specs.Int.{to_le_bytes, w32}
use Rattle.graph_text.specs.declared.graph.Graph.{Graph}
use Rattle.graph_text.specs.declared.graph.VertexRow.{VertexRow}
use Rattle.graph_text.specs.Graph.{pins_at}
use Rattle.polite_routes.specs.Answer.{pin_key}
use Rattle.polite_switch.specs.declared.device.InEdge.{InEdge}
use Rattle.polite_switch.specs.DeviceModel.{DeviceModel}
use Rattle.polite_switch.specs.SwitchModel.{SwitchModel}
use Rattle.polite_switch.specs.Table.{fresh_switch}

-- The states.

abbrev pub words_in : Option VertexRow → List ℕ
words_in None = []
words_in (Some vertex) = vertex.words

-- the bytes of a vertex's state: four a word, the low byte first
abbrev pub state_of : Graph → ℕ → List ℕ
state_of graph v = flat_map (to_le_bytes w32) (words_in (slice_get graph.vertices v))

-- the states of vertices, one behind the other
abbrev pub image_of : Graph → List ℕ → List ℕ
image_of graph [] = []
image_of graph (v ∷ vs) = state_of graph v ++ image_of graph vs

-- The devices.

abbrev pub kind_in : Option VertexRow → ℕ
kind_in None = 0
kind_in (Some vertex) = vertex.kind

-- the addresses of the handlers of a kind
abbrev pub kind_entries : List (List ℕ) → ℕ → List ℕ
kind_entries entries kind = slice_index_or entries kind (replicate 5 0)

-- the same of a vertex: those of its kind
abbrev pub entries_of : Graph → List (List ℕ) → ℕ → List ℕ
entries_of graph entries v = kind_entries entries (kind_in (slice_get graph.vertices v))

-- the keys of a vertex's pins
abbrev pub keys_on : Graph → List (List (Option ℕ)) → ℕ → List (Option ℕ)
keys_on graph keys v = map (pin_key keys v) (range_with_len 0 (pins_at graph v))

-- the device of a vertex whose state begins at this address
abbrev pub device_of : Graph → List (List (Option ℕ)) → List (List ℕ) → ℕ → ℕ → DeviceModel
device_of graph keys entries state v = record { vertex = v; state = state; entries = entries_of graph entries v; keys = keys_on graph keys v }

-- the devices of vertices whose states are one behind the other from this address on
abbrev pub devices_from : Graph → List (List (Option ℕ)) → List (List ℕ) → ℕ → List ℕ → List DeviceModel
devices_from graph keys entries state [] = []
devices_from graph keys entries state (v ∷ vs) = device_of graph keys entries state v ∷ devices_from graph keys entries (state + length (state_of graph v)) vs

-- the softswitch of a thread that has these vertices, by device, and these in-edges, by local key
abbrev pub switch_of : Graph → List (List (Option ℕ)) → List (List ℕ) → List ℕ → List (List InEdge) → SwitchModel
switch_of graph keys entries vertices in_edges = fresh_switch (devices_from graph keys entries 0 vertices) in_edges

-- What a graph's threads need.

-- each is a vertex of the graph
abbrev pub AreVertices : Graph → List ℕ → Type 0
AreVertices graph vertices = AllByRecursion (λ v. v < length graph.vertices) vertices

-- each handler begins at an address that four divides
pub record AreAligned (entries : List (List ℕ)) : Type 0 where
  pub each : (kind e : ℕ) → slice_index (kind_entries entries kind) e % 4 ≡ 0
