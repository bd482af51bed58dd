-- The registers of an instruction are below 32.
use Rattle.std.proofs.Common.{ℕ, ℤ, ◌<◌, IsTrue, arith}
use Rattle.std.proofs.lemmas.Bool.Decides.{nat_tests}
use Rattle.rv_isa.specs.Table.{row_fits}
use Rattle.rv_isa.specs.declared.row.Row.{Row}
use Rattle.rv_isa.specs.declared.row.Row.TheVariants.{Register, Shift, Immediate, Control, Store, Branch, Upper, Jump, Fixed}

pub record SmallRegisters (rd rs1 rs2 : ℕ) : Type 0 where
  pub rd_small : rd < 32
  pub rs1_small : rs1 < 32
  pub rs2_small : rs2 < 32

pub small_registers : (r : Row) (rd rs1 rs2 : ℕ) (imm : ℤ) → IsTrue (row_fits r rd rs1 rs2 imm) → SmallRegisters rd rs1 rs2
small_registers (Register o f g) rd rs1 rs2 imm fits = record { rd_small = grind (arith, nat_tests); rs1_small = grind (arith, nat_tests); rs2_small = grind (arith, nat_tests) }
small_registers (Shift o f g) rd rs1 rs2 imm fits = record { rd_small = grind (arith, nat_tests); rs1_small = grind (arith, nat_tests); rs2_small = grind (arith, nat_tests) }
small_registers (Immediate o f) rd rs1 rs2 imm fits = record { rd_small = grind (arith, nat_tests); rs1_small = grind (arith, nat_tests); rs2_small = grind (arith, nat_tests) }
small_registers (Control o f) rd rs1 rs2 imm fits = record { rd_small = grind (arith, nat_tests); rs1_small = grind (arith, nat_tests); rs2_small = grind (arith, nat_tests) }
small_registers (Store o f) rd rs1 rs2 imm fits = record { rd_small = grind (arith, nat_tests); rs1_small = grind (arith, nat_tests); rs2_small = grind (arith, nat_tests) }
small_registers (Branch o f) rd rs1 rs2 imm fits = record { rd_small = grind (arith, nat_tests); rs1_small = grind (arith, nat_tests); rs2_small = grind (arith, nat_tests) }
small_registers (Upper o) rd rs1 rs2 imm fits = record { rd_small = grind (arith, nat_tests); rs1_small = grind (arith, nat_tests); rs2_small = grind (arith, nat_tests) }
small_registers (Jump o) rd rs1 rs2 imm fits = record { rd_small = grind (arith, nat_tests); rs1_small = grind (arith, nat_tests); rs2_small = grind (arith, nat_tests) }
small_registers (Fixed v) rd rs1 rs2 imm fits = record { rd_small = grind (arith, nat_tests); rs1_small = grind (arith, nat_tests); rs2_small = grind (arith, nat_tests) }
