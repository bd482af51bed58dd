use Rattle.std.proofs.Common.{◌*◌, ◌∙◌, ap, arith, get_or, sym, List, length}
use Rattle.graph_text.specs.declared.graph.VertexRow.{VertexRow}
use Rattle.job_faults.specs.Room.{state_bytes}
use Rattle.job_faults.proofs.Rooms.{bytes_small, row_words}
use Rattle.job_faults.proofs.room.state_bytes.Goals as goal

pub returns-clause-value : goal.returns-clause-value
unfolding state_bytes
returns-clause-value c =
    let v = c.args.vertex in
    let d = c.index-as_slice-vertex.result in
    ap (λ n. 4 * n) (c.len-words.ensures ∙ ap (λ (xs : List VertexRow). length (get_or xs v d).words) c.as_slice.ensures ∙ sym (row_words c.args.graph.now.vertices v d c.requires.there))

pub returns-clause-small : goal.returns-clause-small
returns-clause-small c =
    let e = returns-clause-value c in
    let s = bytes_small c.args.graph.now c.args.vertex c.requires.graph in
    omega (arith, e, s)
