use Rattle.std.proofs.Common.{rules, arith, ◌≤◌, length, sym}
use Rattle.std.proofs.lemmas.List.{take_all}
use Rattle.std.proofs.lemmas.List.Elements.{All-more}
use Rattle.tn_crew.proofs.Standing.{GoesOn, none_stopped, stopped_at}
use Rattle.tn_crew.proofs.crew.has_stopped.Goals as goal

pub loop-part-preserved : goal.loop-part-preserved
loop-part-preserved c =
    All-more GoesOn c.args.parts.now c.loop-part.part-index c.part-item.result (omega arith) c.loop-part.invariant
    (rw (← c.part-item.is) (search rules))

pub returns : goal.returns
returns c =
    let long : length c.args.parts.now ≤ c.loop-part.part-index = omega arith in
    sym (none_stopped c.args.parts.now (rw (take_all c.loop-part.part-index c.args.parts.now long) at c.loop-part.invariant))

pub returns-then-ended : goal.returns-then-ended
returns-then-ended c = sym (stopped_at c.args.parts.now c.loop-part.part-index c.part-item.result (omega arith) (sym c.part-item.is) (search rules))
