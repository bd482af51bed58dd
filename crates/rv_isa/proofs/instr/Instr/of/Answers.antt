use Rattle.std.proofs.Common.{◌∙◌, w32}
use Rattle.std.proofs.lemmas.Int.{to_z-of_z}
use Rattle.rv_isa.proofs.DecodeLaw.{instr_of-fields}
use Rattle.rv_isa.proofs.instr.Instr.of.Goals as goal

pub returns-then-fits-clause-value : goal.returns-then-fits-clause-value
returns-then-fits-clause-value c =
    let a = c.args in
    let f = c.new.ensures in
    instr_of-fields c.new.result a.op a.rd a.rs1 a.rs2 a.imm f.op_is f.rd_is f.rs1_is f.rs2_is (f.imm_is ∙ to_z-of_z w32 a.imm c.ranges.imm)
