use Rattle.rv_exec.proofs.Whole.{effect_whole, regs_kept}
use Rattle.rv_exec.proofs.exec.exec.Goals as goal

pub returns-clause-kept : goal.returns-clause-kept
returns-clause-kept c =
    let i = c.args.i.now in
    let done = c.execute_row.ensures in
    regs_kept i.op i.rd i.rs1 i.rs2 c.args.pc c.get-a.result c.get-b.result i.imm c.execute_row.result c.args.regs.now c.execute_row.new.regs i.fits done.effect done.regs

pub returns-clause-whole : goal.returns-clause-whole
returns-clause-whole c =
    let i = c.args.i.now in
    effect_whole i.op i.rd i.rs1 i.rs2 c.args.pc c.get-a.result c.get-b.result i.imm c.execute_row.result i.fits c.execute_row.ensures.effect
