use Rattle.tn_stamp.proofs.Taking.{heads_none, heads_next, rise_more}
use Rattle.tn_stamp.proofs.merge.all_heads.Goals.{in-Some+in_ok-push, in_default}
use Rattle.tn_stamp.proofs.merge.all_heads.Goals as goal

pub loop-part-preserved : goal.loop-part-preserved
loop-part-preserved c =
    let i = c.loop-part.invariant in
    elim c.match-next_of.branch [
      | in-Some+in_ok-push w ↦
          rw w.heads-is (
            w.in_ok-push.ensures.heap_order i.0,
            heads_next _ _ _ _ _ _ _ w.in-Some.ensures.entry w.in_ok-push.ensures.permutation i.1,
            rise_more _ _ c.next_of.ensures.rises i.2,
          )
      | in_default w ↦
          rw w.heads-is (
            i.0,
            heads_none _ _ _ _ w.in_default.ensures.entry i.1,
            rise_more _ _ c.next_of.ensures.rises i.2,
          )
    ]
