-- The fields of an instruction are those that its arguments give.
use Rattle.std.proofs.Common.{◌≡◌, ℕ, ℤ, pos, ◌*◌, ◌/◌, ◌^◌, ◌<◌, Bool, ◌&&◌, eqb, IsTrue, List, [], ◌∷◌, sym, ap, ◌∙◌, arith, FitsSigned, w32}
use Rattle.std.specs.Fmt.{decimal, signed_decimal}
use Rattle.std.specs.Int.{cast_unsigned}
use Rattle.std.specs.declared.result.Result.{Result}
use Rattle.std.specs.declared.result.Result.TheVariants.{Ok}
use Rattle.std.proofs.lemmas.Int.{ints}
use Rattle.std.proofs.lemmas.Bool.{lt-ltb}
use Rattle.std.proofs.lemmas.Bool.Decides.{nat_tests}
use Rattle.rv_isa.specs.Bits.{signed, fits_signed, fits_unsigned, is_zero, is_multiple}
use Rattle.rv_isa.specs.Table.{row_of, row_fits, is_small}
use Rattle.rv_isa.specs.declared.instr.Instr.{Instr}
use Rattle.rv_isa.specs.declared.op.Op32.{Op32}
use Rattle.rv_isa.specs.declared.op.Op32.TheVariants.{Lui}
use Rattle.asm_text.specs.declared.fault.AsmKind.{AsmKind}
use Rattle.asm_text.specs.declared.line.Arg.{Arg}
use Rattle.asm_text.specs.declared.line.Arg.TheVariants.{Reg, Num, Mem}
use Rattle.asm_text.specs.Arguments.{arg_of}
use Rattle.asm_build.specs.declared.fields.Fields.{Fields}
use Rattle.asm_build.specs.declared.spelling.Form.{Form}
use Rattle.asm_build.specs.declared.spelling.Form.TheVariants.{Registers, Immediate, Load, Store, Branch, Upper, Jump, Control, Alone, Fence}
use Rattle.asm_build.specs.Fields.{fields_of, upper_of, beside}
use Rattle.asm_build.specs.Shown.{operands_of, register_text, memory_text, control_text}
use Rattle.asm_build.specs.Spelling.{form_of}
use Rattle.asm_build.proofs.Tight.{IsTight}
use Rattle.asm_build.proofs.Operands.{register_arg, register_tight, signed_arg, signed_tight, decimal_arg, decimal_tight, control_arg, control_tight, memory_arg, memory_tight}

-- what the fields of an instruction satisfy by the form of its arguments
abbrev pub form_fits : Form → ℕ → ℕ → ℕ → ℤ → Bool
form_fits Registers rd rs1 rs2 imm = is_small rd && is_small rs1 && is_small rs2 && is_zero imm
form_fits Immediate rd rs1 rs2 imm = is_small rd && is_small rs1 && eqb rs2 0 && fits_signed 12 imm
form_fits Load rd rs1 rs2 imm = is_small rd && is_small rs1 && eqb rs2 0 && fits_signed 12 imm
form_fits Store rd rs1 rs2 imm = eqb rd 0 && is_small rs1 && is_small rs2 && fits_signed 12 imm
form_fits Branch rd rs1 rs2 imm = eqb rd 0 && is_small rs1 && is_small rs2 && fits_signed 13 imm
form_fits Upper rd rs1 rs2 imm = is_small rd && eqb rs1 0 && eqb rs2 0 && fits_signed 32 imm && is_multiple 4096 imm
form_fits Jump rd rs1 rs2 imm = is_small rd && eqb rs1 0 && eqb rs2 0 && fits_signed 21 imm
form_fits Control rd rs1 rs2 imm = is_small rd && is_small rs1 && eqb rs2 0 && fits_unsigned 12 imm
form_fits Alone rd rs1 rs2 imm = eqb rd 0 && eqb rs1 0 && eqb rs2 0 && is_zero imm
form_fits Fence rd rs1 rs2 imm = is_small rd && is_small rs1 && eqb rs2 0 && fits_signed 12 imm

pub fits_form : (op : Op32) (rd rs1 rs2 : ℕ) (imm : ℤ) → IsTrue (row_fits (row_of op) rd rs1 rs2 imm) → IsTrue (form_fits (form_of op) rd rs1 rs2 imm)
fits_form Lui rd rs1 rs2 imm fits = grind (arith, ints, nat_tests)
fits_form _ rd rs1 rs2 imm fits = grind (arith, ints, nat_tests)

-- the arguments that give the fields
abbrev pub form_args : Form → ℕ → ℕ → ℕ → ℤ → List Arg
form_args Registers rd rs1 rs2 imm = Reg rd ∷ Reg rs1 ∷ Reg rs2 ∷ []
form_args Immediate rd rs1 rs2 imm = Reg rd ∷ Reg rs1 ∷ Num imm ∷ []
form_args Load rd rs1 rs2 imm = Reg rd ∷ Mem imm rs1 ∷ []
form_args Store rd rs1 rs2 imm = Reg rs2 ∷ Mem imm rs1 ∷ []
form_args Branch rd rs1 rs2 imm = Reg rs1 ∷ Reg rs2 ∷ Num imm ∷ []
form_args Upper rd rs1 rs2 imm = Reg rd ∷ Num (pos (cast_unsigned w32 imm / 2 ^ 12)) ∷ []
form_args Jump rd rs1 rs2 imm = Reg rd ∷ Num imm ∷ []
form_args Control rd rs1 rs2 imm = Reg rd ∷ Num (pos (cast_unsigned w32 imm)) ∷ Reg rs1 ∷ []
form_args Alone rd rs1 rs2 imm = []
form_args Fence rd rs1 rs2 imm = Reg rd ∷ Reg rs1 ∷ Num imm ∷ []

abbrev pub fields_with : ℕ → ℕ → ℕ → ℤ → Fields
fields_with rd rs1 rs2 imm = record { rd = rd; rs1 = rs1; rs2 = rs2; imm = imm }

abbrev given : ℕ → ℕ → ℕ → ℤ → Result Fields AsmKind
given rd rs1 rs2 imm = Ok (fields_with rd rs1 rs2 imm)

upper_by : (n : ℕ) (z : ℤ) → n < 2 ^ 20 → signed 32 (n * 2 ^ 12) ≡ z → upper_of (pos n) ≡ Ok z
upper_by n z h e = let t = lt-ltb n (2 ^ 20) h in rw t (ap (λ (x : ℤ). Ok x) e)

upper_back : (z : ℤ) → IsTrue (fits_signed 32 z && is_multiple 4096 z) → upper_of (pos (cast_unsigned w32 z / 2 ^ 12)) ≡ Ok z
upper_back z h =
    let e : signed 32 (cast_unsigned w32 z / 2 ^ 12 * 2 ^ 12) ≡ z = grind (arith, ints, nat_tests) in
    let f : cast_unsigned w32 z / 2 ^ 12 < 2 ^ 20 = grind (arith, ints, nat_tests) in
    upper_by (cast_unsigned w32 z / 2 ^ 12) z f e

pub form_fields : (form : Form) (here rd rs1 rs2 : ℕ) (imm : ℤ) → IsTrue (form_fits form rd rs1 rs2 imm)
    → fields_of form [] here (form_args form rd rs1 rs2 imm) ≡ Ok (fields_with rd rs1 rs2 imm)
form_fields Registers here rd rs1 rs2 imm h = let e : imm ≡ pos 0 = grind (arith, ints, nat_tests) in ap (λ (z : ℤ). given rd rs1 rs2 z) (sym e)
form_fields Immediate here rd rs1 rs2 imm h = let e : rs2 ≡ 0 = grind (arith, nat_tests) in ap (λ (n : ℕ). given rd rs1 n imm) (sym e)
form_fields Load here rd rs1 rs2 imm h = let e : rs2 ≡ 0 = grind (arith, nat_tests) in ap (λ (n : ℕ). given rd rs1 n imm) (sym e)
form_fields Fence here rd rs1 rs2 imm h = let e : rs2 ≡ 0 = grind (arith, nat_tests) in ap (λ (n : ℕ). given rd rs1 n imm) (sym e)
form_fields Store here rd rs1 rs2 imm h = let e : rd ≡ 0 = grind (arith, nat_tests) in ap (λ (n : ℕ). given n rs1 rs2 imm) (sym e)
form_fields Branch here rd rs1 rs2 imm h = let e : rd ≡ 0 = grind (arith, nat_tests) in ap (λ (n : ℕ). given n rs1 rs2 imm) (sym e)
form_fields Upper here rd rs1 rs2 imm h =
    let e : rs1 ≡ 0 = grind (arith, nat_tests) in
    let f : rs2 ≡ 0 = grind (arith, nat_tests) in
    let g : IsTrue (fits_signed 32 imm && is_multiple 4096 imm) = grind (arith, nat_tests) in
    ap (beside rd 0 0) (upper_back imm g) ∙ ap (λ (n : ℕ). given rd n 0 imm) (sym e) ∙ ap (λ (n : ℕ). given rd rs1 n imm) (sym f)
form_fields Jump here rd rs1 rs2 imm h =
    let e : rs1 ≡ 0 = grind (arith, nat_tests) in
    let f : rs2 ≡ 0 = grind (arith, nat_tests) in
    ap (λ (n : ℕ). given rd n 0 imm) (sym e) ∙ ap (λ (n : ℕ). given rd rs1 n imm) (sym f)
form_fields Control here rd rs1 rs2 imm h =
    let e : rs2 ≡ 0 = grind (arith, nat_tests) in
    let f : pos (cast_unsigned w32 imm) ≡ imm = grind (arith, ints, nat_tests) in
    ap (λ (z : ℤ). given rd rs1 0 z) f ∙ ap (λ (n : ℕ). given rd rs1 n imm) (sym e)
form_fields Alone here rd rs1 rs2 imm h =
    let e : rd ≡ 0 = grind (arith, nat_tests) in
    let f : rs1 ≡ 0 = grind (arith, nat_tests) in
    let g : rs2 ≡ 0 = grind (arith, nat_tests) in
    let k : imm ≡ pos 0 = grind (arith, ints, nat_tests) in
    ap (λ (n : ℕ). given n 0 0 (pos 0)) (sym e) ∙ ap (λ (n : ℕ). given rd n 0 (pos 0)) (sym f)
    ∙ ap (λ (n : ℕ). given rd rs1 n (pos 0)) (sym g) ∙ ap (λ (z : ℤ). given rd rs1 rs2 z) (sym k)

-- a text is read as an argument
pub record ReadsAs (text : List ℕ) (arg : Arg) : Type 0 where
  pub tight : IsTight text
  pub arg_is : arg_of text ≡ Ok arg

-- texts are read as arguments
abbrev pub Reads : List (List ℕ) → List Arg → Type 0
Reads [] [] = Unit {0}
Reads (text ∷ texts) (arg ∷ args) = ReadsAs text arg × Reads texts args
Reads _ _ = ⊥

register_reads : (n : ℕ) → n < 32 → ReadsAs (register_text n) (Reg n)
register_reads n h = record { tight = register_tight n h; arg_is = register_arg n h }

signed_reads : (z : ℤ) → FitsSigned w32 z → ReadsAs (signed_decimal z) (Num z)
signed_reads z h = record { tight = signed_tight z h; arg_is = signed_arg z h }

memory_reads : (z : ℤ) (n : ℕ) → FitsSigned w32 z → n < 32 → ReadsAs (memory_text z n) (Mem z n)
memory_reads z n h k = record { tight = memory_tight z n h k; arg_is = memory_arg z n h k }

decimal_reads : (n : ℕ) → n < 2 ^ 32 → ReadsAs (decimal n) (Num (pos n))
decimal_reads n h = record { tight = decimal_tight n h; arg_is = decimal_arg n h }

control_reads : (n : ℕ) → n < 4096 → ReadsAs (control_text n) (Num (pos n))
control_reads n h = record { tight = control_tight n; arg_is = control_arg n h }

pub form_reads : (form : Form) (i : Instr) → IsTrue (form_fits form i.rd i.rs1 i.rs2 i.imm) → Reads (operands_of form i) (form_args form i.rd i.rs1 i.rs2 i.imm)
form_reads Registers i h =
    let rd : i.rd < 32 = grind (arith, nat_tests) in
    let rs1 : i.rs1 < 32 = grind (arith, nat_tests) in
    let rs2 : i.rs2 < 32 = grind (arith, nat_tests) in
    (register_reads i.rd rd, (register_reads i.rs1 rs1, (register_reads i.rs2 rs2, tt)))
form_reads Immediate i h =
    let rd : i.rd < 32 = grind (arith, nat_tests) in
    let rs1 : i.rs1 < 32 = grind (arith, nat_tests) in
    let imm : FitsSigned w32 i.imm = grind (arith, ints, nat_tests) in
    (register_reads i.rd rd, (register_reads i.rs1 rs1, (signed_reads i.imm imm, tt)))
form_reads Fence i h =
    let rd : i.rd < 32 = grind (arith, nat_tests) in
    let rs1 : i.rs1 < 32 = grind (arith, nat_tests) in
    let imm : FitsSigned w32 i.imm = grind (arith, ints, nat_tests) in
    (register_reads i.rd rd, (register_reads i.rs1 rs1, (signed_reads i.imm imm, tt)))
form_reads Load i h =
    let rd : i.rd < 32 = grind (arith, nat_tests) in
    let rs1 : i.rs1 < 32 = grind (arith, nat_tests) in
    let imm : FitsSigned w32 i.imm = grind (arith, ints, nat_tests) in
    (register_reads i.rd rd, (memory_reads i.imm i.rs1 imm rs1, tt))
form_reads Store i h =
    let rs1 : i.rs1 < 32 = grind (arith, nat_tests) in
    let rs2 : i.rs2 < 32 = grind (arith, nat_tests) in
    let imm : FitsSigned w32 i.imm = grind (arith, ints, nat_tests) in
    (register_reads i.rs2 rs2, (memory_reads i.imm i.rs1 imm rs1, tt))
form_reads Branch i h =
    let rs1 : i.rs1 < 32 = grind (arith, nat_tests) in
    let rs2 : i.rs2 < 32 = grind (arith, nat_tests) in
    let imm : FitsSigned w32 i.imm = grind (arith, ints, nat_tests) in
    (register_reads i.rs1 rs1, (register_reads i.rs2 rs2, (signed_reads i.imm imm, tt)))
form_reads Upper i h =
    let rd : i.rd < 32 = grind (arith, nat_tests) in
    let upper : cast_unsigned w32 i.imm / 2 ^ 12 < 2 ^ 32 = grind (arith, ints, nat_tests) in
    (register_reads i.rd rd, (decimal_reads (cast_unsigned w32 i.imm / 2 ^ 12) upper, tt))
form_reads Jump i h =
    let rd : i.rd < 32 = grind (arith, nat_tests) in
    let imm : FitsSigned w32 i.imm = grind (arith, ints, nat_tests) in
    (register_reads i.rd rd, (signed_reads i.imm imm, tt))
form_reads Control i h =
    let rd : i.rd < 32 = grind (arith, nat_tests) in
    let rs1 : i.rs1 < 32 = grind (arith, nat_tests) in
    let number : cast_unsigned w32 i.imm < 4096 = grind (arith, ints, nat_tests) in
    (register_reads i.rd rd, (control_reads (cast_unsigned w32 i.imm) number, (register_reads i.rs1 rs1, tt)))
form_reads Alone i h = tt
