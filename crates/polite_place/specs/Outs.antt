-- The out-edges of a graph's vertices.
use Rattle.std.specs.Prelude.{ℕ, ◌<◌, ◌==◌, List, length, map}
use Rattle.std.specs.List.{filter, range_with_len}
use Rattle.graph_text.specs.declared.graph.EdgeRow.{EdgeRow}
use Rattle.graph_text.specs.declared.graph.Graph.{Graph}

-- where a vertex's edges lead, in order of lines
abbrev pub out_targets : List EdgeRow → ℕ → List ℕ
out_targets edges v = map (λ e. e.to) (filter (λ e. e.from == v) edges)

-- the same of each of so many vertices
unfoldable pub out_lists : ℕ → List EdgeRow → List (List ℕ)
out_lists count edges = map (out_targets edges) (range_with_len 0 count)

abbrev pub outs_of : Graph → List (List ℕ)
outs_of graph = out_lists (length graph.vertices) graph.edges

-- an edge joins two of so many vertices
pub record Joins (count : ℕ) (edge : EdgeRow) : Type 0 where
  pub from : edge.from < count
  pub to : edge.to < count
