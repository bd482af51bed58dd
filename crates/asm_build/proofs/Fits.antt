-- An immediate that fits a row fits 32 bits.
use Rattle.std.proofs.Common.{◌≡◌, ℕ, ℤ, Bool, true, false, IsTrue, None, refl, arith, FitsSigned, w32, w64, to_z, of_z}
use Rattle.std.proofs.lemmas.Int.{ints}
use Rattle.std.proofs.lemmas.Bool.Decides.{nat_tests}
use Rattle.rv_isa.specs.Table.{row_of, row_fits}
use Rattle.rv_isa.specs.Decode.{with_fit, instr_of}
use Rattle.rv_isa.specs.declared.op.Op32.{Op32}
use Rattle.rv_isa.specs.declared.op.Op32.TheVariants.{Lui}

row_fits-32 : (op : Op32) (rd rs1 rs2 : ℕ) (imm : ℤ) → IsTrue (row_fits (row_of op) rd rs1 rs2 imm) → FitsSigned w32 imm
row_fits-32 Lui rd rs1 rs2 imm fits = grind (arith, ints, nat_tests)
row_fits-32 _ rd rs1 rs2 imm fits = grind (arith, ints, nat_tests)

with_fit-false : (op : Op32) (rd rs1 rs2 : ℕ) (imm : ℤ) (b : Bool) (e : b ≡ row_fits (row_of op) rd rs1 rs2 imm) → (b ≡ true → ⊥) → with_fit op rd rs1 rs2 imm b e ≡ None
with_fit-false op rd rs1 rs2 imm true e h = absurd (h refl)
with_fit-false op rd rs1 rs2 imm false e h = refl

-- no instruction has an immediate of more than 32 bits
pub wide_none : (op : Op32) (rd rs1 rs2 : ℕ) (imm : ℤ) → (FitsSigned w32 imm → ⊥) → instr_of op rd rs1 rs2 imm ≡ None
wide_none op rd rs1 rs2 imm h =
    with_fit-false op rd rs1 rs2 imm (row_fits (row_of op) rd rs1 rs2 imm) refl (λ t. h (row_fits-32 op rd rs1 rs2 imm t))

pub same_64 : (z : ℤ) → FitsSigned w64 z → to_z w64 (of_z w64 z) ≡ z
same_64 z h = omega (arith, ints)

pub same_32 : (z : ℤ) → FitsSigned w32 z → to_z w32 (of_z w32 z) ≡ z
same_32 z h = omega (arith, ints)
