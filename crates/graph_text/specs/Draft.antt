-- A graph that is being read.
use Rattle.std.specs.Prelude.{◌≡◌, ℕ, ◌≤◌, List, length}
use Rattle.graph_text.specs.declared.graph.Graph.{Graph}
use Rattle.graph_text.specs.Text.{kind_names, vertex_names}

-- the names beside a graph are those of its rows, and it is within the limits
pub record IsIndexed (graph : Graph) (kinds vertices : List (List ℕ)) : Type 0 where
  pub kinds_are : kinds ≡ kind_names graph
  pub vertices_are : vertices ≡ vertex_names graph
  pub kinds_fit : length graph.kinds ≤ 64
  pub vertices_fit : length graph.vertices ≤ 65536
