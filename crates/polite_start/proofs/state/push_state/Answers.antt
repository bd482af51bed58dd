use Rattle.std.proofs.Common.{◌≡◌, ◌≤◌, ◌∙◌, ap, flat_map, get_or, length, slice_get, sym, List}
use Rattle.std.specs.Int.{to_le_bytes, w32}
use Rattle.graph_text.specs.declared.graph.VertexRow.{VertexRow}
use Rattle.polite_start.specs.Start.{words_in}
use Rattle.polite_start.proofs.Devices.{row_words, small, small_after}
use Rattle.polite_start.proofs.state.push_state.Goals as goal

pub returns-clause-small : goal.returns-clause-small
returns-clause-small c =
    let g = c.args.graph.now in
    let v = c.args.vertex in
    let d = c.index-as_slice-vertex.result in
    let words : c.as_slice-words.result.now ≡ words_in (slice_get g.vertices v) = c.as_slice-words.ensures ∙ ap (λ (xs : List VertexRow). (get_or xs v d).words) c.as_slice.ensures ∙ sym (row_words g.vertices v d c.requires.there) in
    let few : length (flat_map (to_le_bytes w32) c.as_slice-words.result.now) ≤ 64 = rw words (small g v c.requires.graph) in
    small_after c.push_words.result c.push_words.new.image.items c.args.image.now.items _ few c.push_words.ensures
