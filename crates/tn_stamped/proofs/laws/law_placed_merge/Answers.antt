use Rattle.std.proofs.Common.{◌≤◌, length, arith, refl}
use Rattle.std.specs.List.{All}
use Rattle.std.proofs.lemmas.List.{take_all}
use Rattle.std.proofs.lemmas.List.Elements.{All-more}
use Rattle.tn_rows.proofs.Walking.{merge_is_walk}
use Rattle.tn_rows.specs.Stamped.{IsStamped}
use Rattle.tn_stamped.proofs.Closing.{HasStamps, all_stamped, stamped_here}
use Rattle.tn_stamped.specs.Placed.{stamped_of}
use Rattle.tn_stamped.proofs.laws.law_placed_merge.Goals as goal

pub loop-part-preserved : goal.loop-part-preserved
loop-part-preserved g c =
    All-more HasStamps c.args.parts.now c.loop-part.part-index c.part-item.result (omega arith) c.loop-part.invariant
    (rw (← c.part-item.is) (stamped_here c.part-item.result c.stamped.result.now c.stamped.ensures.stamped c.journal-journal.ensures.stamped))

pub returns : goal.returns
returns g c =
    let long : length c.args.parts.now ≤ c.loop-part.part-index = omega arith in
    let all : All HasStamps c.args.parts.now = rw (take_all c.loop-part.part-index c.args.parts.now long) at c.loop-part.invariant in
    let stamped : All IsStamped (stamped_of c.args.parts.now) = all_stamped c.args.parts.now all in
    let journals = c.law_placed.ensures c.args.parts.now refl c.requires.places c.requires.world c.requires.paired in
    record {
      stamped = stamped;
      journals = journals;
      walk = λ events merge. merge_is_walk c.args.shape.now (stamped_of c.args.parts.now) events c.law_links.ensures stamped journals merge;
    }
