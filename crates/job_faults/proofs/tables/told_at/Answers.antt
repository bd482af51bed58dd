use Rattle.std.proofs.Common.{◌∙◌, ap, option_copied, sym}
use Rattle.job_faults.proofs.Boards.{told_read, untold_read}
use Rattle.job_faults.proofs.tables.told_at.Goals as goal

pub returns-in-Some : goal.returns-in-Some
returns-in-Some c =
    rw (c.fault_at.ensures, c.of_table.ensures)
    (told_read c.args._job.now c.args.board c.args.read.now c.in-Some.table.now c.args.fault c.requires (sym (ap option_copied c.in-Some.is) ∙ c.read_for.ensures))

pub returns-in-None : goal.returns-in-None
returns-in-None c = untold_read c.args._job.now c.args.board c.args.read.now c.args.fault c.requires (sym (ap option_copied c.in-None.is) ∙ c.read_for.ensures)
