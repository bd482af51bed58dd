use Rattle.std.proofs.Common.{◌∙◌, ap, arith}
use Rattle.tn_base.specs.declared.part.Kind.TheVariants as kind
use Rattle.tn_base.specs.Parts.{parts}
use Rattle.job_load.specs.Start.{part_start}
use Rattle.job_load.proofs.Named.{kind_named}
use Rattle.job_faults.proofs.Ranges.{more_made}
use Rattle.job_load.proofs.start.parts_of.Goals as goal

pub part_of-requires-clause-kind : goal.part_of-requires-clause-kind
part_of-requires-clause-kind c = rw c.kind.ensures (kind_named c.args.shape.now c.loop-p.p c.law_tiles.ensures.listed)

pub loop-p-preserved : goal.loop-p-preserved
loop-p-preserved c =
    let made = c.in_ok-part.ensures ∙ ap (part_start c.args.job.now) c.kind.ensures in
    let more = more_made (part_start c.args.job.now) (parts c.args.shape.now) c.loop-p.p c.loop-p.all.items c.in_ok-part.part kind.Detector (omega arith) made in
    rw c.in_ok-push.ensures.items (more ∙ c.loop-p.invariant)
