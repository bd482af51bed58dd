use Rattle.std.proofs.Common.{◌≡◌, ◌∙◌, IfOk, ap, option_copied, subst, sym}
use Rattle.tn_keys.specs.Tables.{Table}
use Rattle.job_faults.proofs.Boards.{no_table_read, table_read}
use Rattle.job_faults.proofs.tables.table_for.Goals as goal

pub returns-in-Some : goal.returns-in-Some
returns-in-Some c =
    let read = table_read c.args._job.now c.args.board c.args.read.now c.in-Some.table.now c.requires (sym (ap option_copied c.in-Some.is) ∙ c.read_for.ensures) in
    subst (λ (t : Table). IfOk c.copy_beats.result (λ v. v.items ≡ t)) (c.as_slice.ensures ∙ read) c.copy_beats.ensures

pub returns-in-None : goal.returns-in-None
returns-in-None c = c.new.ensures.items ∙ no_table_read c.args._job.now c.args.board c.args.read.now c.requires (sym (ap option_copied c.in-None.is) ∙ c.read_for.ensures)
