use Rattle.std.proofs.Common.{◌++◌, ◌∙◌, ap}
use Rattle.map_text.specs.Text.{vertex_line}
use Rattle.map_text.proofs.Ranges.{each_more}
use Rattle.map_text.proofs.print.push_places.Goals as goal

pub loop-vertex-preserved : goal.loop-vertex-preserved
loop-vertex-preserved c =
    let f = vertex_line c.args.graph.now c.args.placement.now in
    c.in_ok-push_vertex.ensures ∙ ap (λ bs. bs ++ f c.loop-vertex.vertex) c.loop-vertex.invariant ∙ each_more f c.args.text.now.items c.loop-vertex.vertex
