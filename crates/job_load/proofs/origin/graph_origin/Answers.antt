use Rattle.std.proofs.Common.{◌∙◌, List, ap}
use Rattle.graph_text.specs.declared.graph.KindRow.{KindRow}
use Rattle.job_faults.specs.Labels.{entries_in}
use Rattle.job_load.proofs.Origins.{graph_comes, starts_fit}
use Rattle.job_load.proofs.origin.graph_origin.Goals as goal

pub seat_threads-requires : goal.seat_threads-requires
seat_threads-requires c =
    starts_fit c.args._job.now c.args.mapped c.args.shape.now c.args.labels.now c.as_slice-2.result.now c.requires.shape c.requires.labels
    (c.as_slice-2.ensures.value ∙ c.in_ok-entries.ensures ∙ ap (λ (kinds : List KindRow). entries_in c.args.labels.now kinds) c.as_slice.ensures)
    c.requires.fits

pub returns : goal.returns
returns c =
    graph_comes c.args._job.now c.args.mapped c.args.shape.now c.args.labels.now c.as_slice-2.result.now c.in_ok-threads.threads.items c.requires.shape c.requires.labels
    (c.as_slice-2.ensures.value ∙ c.in_ok-entries.ensures ∙ ap (λ (kinds : List KindRow). entries_in c.args.labels.now kinds) c.as_slice.ensures)
    c.requires.mapped c.in_ok-threads.ensures
