use Rattle.job_faults.proofs.Maps.{tables_told, tables_untold}
use Rattle.job_faults.proofs.routed.tables_fault.Goals as goal

pub returns-in-Ok : goal.returns-in-Ok
returns-in-Ok c = tables_untold c.args.line c.args.shape.now c.args.tables.now c.in-Ok.ensures.0

pub returns-in-Err-Fault : goal.returns-in-Err-Fault
returns-in-Err-Fault c =
    let told = tables_told c.args.line c.args.shape.now c.args.tables.now c.in-Err-Fault.field-0-0 c.in-Err-Fault.fault (rw c.in-Err-Fault.field-0-is at c.in-Err-Fault.ensures) in
    rw (c.fault_at.ensures, c.of_table.ensures) told
