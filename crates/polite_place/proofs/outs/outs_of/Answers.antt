use Rattle.std.proofs.Common.{[], arith, length, ◌∙◌, ap}
use Rattle.std.proofs.lemmas.List.{length-replicate}
use Rattle.polite_place.specs.Outs.{out_lists}
use Rattle.polite_place.proofs.Gathering.{all_below}
use Rattle.polite_place.proofs.outs.outs_of.Goals as goal

pub returns-clause-edges : goal.returns-clause-edges
returns-clause-edges c =
    all_below c.args.graph.now c.add_edges.new.lists c.in_ok-lists.lists.items c.in_ok-lists.lists.len (length c.as_mut_slice-list.result.now) c.requires (omega arith) (omega (arith, c.as_mut_slice-list.ensures.len)) (c.in_ok-add_edges.ensures ∙ ap (out_lists (length c.as_mut_slice-list.result.now)) c.as_slice.ensures)
    (ap length c.as_mut_slice-list.ensures.value ∙ (ap length c.in_ok-lists.ensures ∙ length-replicate c.len.result [] ∙ c.len.ensures))
