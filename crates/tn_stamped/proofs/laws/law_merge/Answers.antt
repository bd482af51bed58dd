use Rattle.std.proofs.Common.{◌≤◌, length, arith}
use Rattle.std.specs.List.{All}
use Rattle.std.proofs.lemmas.List.{take_all}
use Rattle.std.proofs.lemmas.List.Elements.{All-more}
use Rattle.tn_rows.specs.Stamped.{IsStamped}
use Rattle.tn_rows.proofs.Walking.{merge_is_walk}
use Rattle.tn_stamped.proofs.laws.law_merge.Goals as goal

pub loop-part-preserved : goal.loop-part-preserved
loop-part-preserved g c =
    All-more IsStamped c.args.parts.now c.loop-part.part-index c.part-item.result (omega arith) c.loop-part.invariant
    (rw (← c.part-item.is) c.journal-journal.ensures.stamped)

pub returns : goal.returns
returns g c = λ events merge.
    let long : length c.args.parts.now ≤ c.loop-part.part-index = omega arith in
    let all : All IsStamped c.args.parts.now = rw (take_all c.loop-part.part-index c.args.parts.now long) at c.loop-part.invariant in
    merge_is_walk c.args.shape.now c.args.parts.now events c.law_links.ensures all c.requires merge
