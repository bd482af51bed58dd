use Rattle.std.proofs.Common.{◌∙◌, ap}
use Rattle.tn_text.specs.Lines.{lines_of}
use Rattle.graph_text.specs.Flits.{lines_flits}
use Rattle.job_faults.proofs.Maps.{long_is}
use Rattle.job_faults.proofs.mapping.is_long.Goals as goal

pub returns : goal.returns
returns c =
    long_is c.args.shape.now c.args.section.now c.lines_flits.result c.flits.result
    (c.lines_flits.ensures ∙ ap (λ text. lines_flits (lines_of text)) c.as_slice.ensures) c.flits.ensures
