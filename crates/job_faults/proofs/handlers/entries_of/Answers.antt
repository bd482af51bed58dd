use Rattle.std.proofs.Common.{◌∙◌}
use Rattle.job_faults.proofs.Labelled.{five_entries}
use Rattle.job_faults.proofs.handlers.entries_of.Goals as goal

pub returns : goal.returns
returns c =
    c.all_given.ensures
    ∙ five_entries c.args.labels.now c.args.kind.now c.in_ok-init.init c.in_ok-send.send c.in_ok-recv.recv c.in_ok-step.step c.in_ok-finish.finish
    (rw c.as_slice.ensures at c.in_ok-init.ensures)
    (rw c.as_slice-2.ensures at c.in_ok-send.ensures)
    (rw c.as_slice-3.ensures at c.in_ok-recv.ensures)
    (rw c.as_slice-4.ensures at c.in_ok-step.ensures)
    (rw c.as_slice-5.ensures at c.in_ok-finish.ensures)
