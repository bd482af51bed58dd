use Rattle.std.proofs.Common.{ℤ, sym, ap, ◌∙◌, subst, FitsSigned, w32, w64, arith}
use Rattle.std.proofs.lemmas.Int.{ints}
use Rattle.rv_isa.specs.Decode.{instr_of}
use Rattle.asm_build.specs.Code.{word_by, word_for}
use Rattle.asm_build.proofs.Fits.{wide_none, same_64, same_32}
use Rattle.asm_build.proofs.code.word.Goals as goal

pub returns-in_default : goal.returns-in_default
unfolding word_for
returns-in_default c =
    let in_64 : FitsSigned w64 c.args.imm = omega (arith, ints) in
    let same = same_64 c.args.imm in_64 in
    let wide : FitsSigned w32 c.args.imm → ⊥ = λ h. c.in_default.ensures (subst (λ (z : ℤ). FitsSigned w32 z) (sym same) h) in
    ap word_by (sym (wide_none c.args.op c.args.rd c.args.rs1 c.args.rs2 c.args.imm wide))

pub returns-in-None : goal.returns-in-None
unfolding word_for
returns-in-None c =
    let narrow = c.in-Ok.ensures.0 in
    let in_64 : FitsSigned w64 c.args.imm = omega (arith, ints) in
    let same = same_64 c.args.imm in_64 in
    let own = c.in-Ok.ensures.1 ∙ same in
    let fits : FitsSigned w32 c.in-Ok.imm = subst (λ (z : ℤ). FitsSigned w32 z) (sym c.in-Ok.ensures.1) narrow in
    let back = same_32 c.in-Ok.imm fits ∙ own in
    ap word_by (c.in-None.ensures.value ∙ ap (λ (z : ℤ). instr_of c.args.op c.args.rd c.args.rs1 c.args.rs2 z) back)
