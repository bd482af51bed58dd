use Rattle.std.proofs.Common.{ap}
use Rattle.rv_isa.specs.declared.instr.Instr.{Instr}
use Rattle.rv_isa.proofs.SameInstr.{same_instr}
use Rattle.tn_tile.specs.Same.{SameFields}
use Rattle.tn_tile.proofs.code.same_instr.Goals as goal

pub returns : goal.returns
returns c =
    let i = c.args.i.now in
    let j = c.args.j.now in (
      λ h. let f : SameFields i j = c.same_fields.ensures.0 h in same_instr i j f.0.0 f.0.1 f.1.0 f.1.1 f.1.2,
      λ e. c.same_fields.ensures.1 ((ap (λ (x : Instr). x.op) e, ap (λ (x : Instr). x.rd) e), (ap (λ (x : Instr). x.rs1) e, ap (λ (x : Instr). x.rs2) e, ap (λ (x : Instr). x.imm) e)),
    )
