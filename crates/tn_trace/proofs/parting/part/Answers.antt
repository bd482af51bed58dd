use Rattle.tn_trace.proofs.Parted.{not_parted, parted_here, passed_more, passed_none}
use Rattle.tn_trace.proofs.parting.part.Goals as goal

pub loop-line-init : goal.loop-line-init
loop-line-init c = passed_none c.args.text.now

pub returns-then-is_parting-clause-parts : goal.returns-then-is_parting-clause-parts
returns-then-is_parting-clause-parts c =
    parted_here c.args.text.now c.loop-line.rest.now c.in-Some.line.now c.in-Some.after.now c.loop-line.number c.loop-line.invariant c.in-Some.ensures
    (cc (c.is_parting.ensures, c.if-is_parting.true))

pub loop-line-preserved : goal.loop-line-preserved
loop-line-preserved c =
    passed_more c.args.text.now c.loop-line.rest.now c.in-Some.line.now c.in-Some.after.now c.loop-line.number c.loop-line.invariant c.in-Some.ensures
    (cc (c.is_parting.ensures, c.if-is_parting.false))

pub returns-clause-parts : goal.returns-clause-parts
returns-clause-parts c = not_parted c.args.text.now c.loop-line.rest.now c.loop-line.number c.loop-line.invariant c.in_default.ensures
