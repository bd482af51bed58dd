use Rattle.std.proofs.Common.{◌≡◌, ◌∙◌, Some}
use Rattle.tn_keys.specs.Accepted.{Accepted}
use Rattle.tn_reach.specs.Check.{table_stop}
use Rattle.tn_reach.specs.declared.check.TableStop.TheVariants.{Fault}
use Rattle.job_faults.specs.Tables.{tables_of}
use Rattle.job_faults.proofs.Boards.{fault_told, nothing_told, tables_long}
use Rattle.job_faults.proofs.tables.table_fault.Goals as goal

pub check_tables-requires : goal.check_tables-requires
check_tables-requires c = rw (c.in_ok-tables.ensures, c.requires.numbers) (tables_long c.args.job.now)

pub returns-in-Ok : goal.returns-in-Ok
returns-in-Ok c =
    let all : Accepted c.args.job.now.numbers (tables_of c.args.job.now) = rw (← c.in_ok-tables.ensures, ← c.requires.numbers) c.in-Ok.ensures.1 in
    nothing_told c.args.job.now all

pub returns : goal.returns
returns c =
    let stop : table_stop c.args.job.now.numbers (tables_of c.args.job.now) ≡ Some (Fault c.in-Err-Fault.board c.in-Err-Fault.fault) =
    rw (← c.in_ok-tables.ensures, ← c.requires.numbers) (rw c.in-Err-Fault.field-0-is at c.in-Err-Fault.ensures) in
    c.told_at.ensures ∙ rw (c.board_at.ensures, c.requires.numbers) (fault_told c.args.job.now c.in-Err-Fault.board c.in-Err-Fault.fault stop)
