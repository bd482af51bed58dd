-- What each instruction does, one row each.
use Rattle.std.specs.Prelude.{ℕ, ℤ, Option, Some, None, pos, negsuc, Bool, true, false, not, ◌+◌, ◌-◌, ◌*◌, ◌/◌, ◌%◌, ◌^◌, ◌==◌, ◌+ℤ◌, ◌-ℤ◌, ◌*ℤ◌, nat_lt, int_lt, int_div, int_rem, bit_and, bit_or, bit_xor, if◌then◌else◌}
use Rattle.std.specs.Int.{cast_unsigned, w32, int_shr, from_bool}
use Rattle.rv_isa.specs.Bits.{signed}
use Rattle.rv_isa.specs.declared.op.Op32.{Op32}
use Rattle.rv_isa.specs.declared.op.Op32.TheVariants.{Lui, Auipc, Jal, Jalr, Beq, Bne, Blt, Bge, Bltu, Bgeu, Lb, Lh, Lw, Lbu, Lhu, Sb, Sh, Sw, Addi, Slti, Sltiu, Xori, Ori, Andi, Slli, Srli, Srai, Add, Sub, Sll, Slt, Sltu, Xor, Srl, Sra, Or, And, Mul, Mulh, Mulhsu, Mulhu, Div, Divu, Rem, Remu, Fence, Ecall, Ebreak, Csrrw, Csrrs}
use Rattle.tn_base.specs.declared.effect.Effect.{Effect}
use Rattle.tn_base.specs.declared.effect.Effect.TheVariants.{Next, Jump, Load, Store, CsrRead, CsrWrite, Trap}
use Rattle.tn_base.specs.declared.event.Trap.TheVariants.{Misaligned, Environment, BadCsr}

-- the word of 32 bits that a number leaves
abbrev pub word : ℤ → ℕ
word (pos n) = n % 2 ^ 32
word (negsuc n) = 2 ^ 32 - 1 - n % 2 ^ 32

-- the high word of a product
abbrev pub high : ℤ → ℕ
high z = word (int_shr z 32)

-- what an instruction does: the word that it writes to rd, where it writes one, and its effect
pub record Step : Type 0 where
  pub written : Option ℕ
  pub effect : Effect

-- a jump to an address that four does not divide traps
abbrev pub jump : ℕ → Effect
jump target = if target % 4 == 0 then Jump target else Trap Misaligned

-- writes a word to rd
abbrev pub put : ℕ → Step
put value = record { written = Some value; effect = Next }

-- jumps, and writes a word to rd where the jump does not trap
abbrev pub link : ℕ → ℕ → Step
link target value = record { written = if target % 4 == 0 then Some value else None; effect = jump target }

-- writes no register
abbrev pub ask : Effect → Step
ask effect = record { written = None; effect = effect }

-- jumps where the branch is taken
abbrev pub branch : Bool → ℕ → Step
branch taken target = ask (if taken then jump target else Next)

-- of an instruction at `pc` whose registers rs1 and rs2 hold a and b; `u` is the immediate's two's complement
abbrev pub row_step : Op32 → ℕ → ℕ → ℕ → ℕ → ℕ → ℤ → ℕ → Step
row_step Lui rd rs1 pc a b imm u = put u
row_step Auipc rd rs1 pc a b imm u = put (word (pos pc +ℤ imm))
row_step Jal rd rs1 pc a b imm u = link (word (pos pc +ℤ imm)) (word (pos (pc + 4)))
row_step Jalr rd rs1 pc a b imm u = link (word (pos a +ℤ imm) / 2 * 2) (word (pos (pc + 4)))
row_step Beq rd rs1 pc a b imm u = branch (a == b) (word (pos pc +ℤ imm))
row_step Bne rd rs1 pc a b imm u = branch (not (a == b)) (word (pos pc +ℤ imm))
row_step Blt rd rs1 pc a b imm u = branch (int_lt (signed 32 a) (signed 32 b)) (word (pos pc +ℤ imm))
row_step Bge rd rs1 pc a b imm u = branch (not (int_lt (signed 32 a) (signed 32 b))) (word (pos pc +ℤ imm))
row_step Bltu rd rs1 pc a b imm u = branch (nat_lt a b) (word (pos pc +ℤ imm))
row_step Bgeu rd rs1 pc a b imm u = branch (not (nat_lt a b)) (word (pos pc +ℤ imm))
row_step Lb rd rs1 pc a b imm u = ask (Load rd (word (pos a +ℤ imm)) 1 true)
row_step Lh rd rs1 pc a b imm u = ask (Load rd (word (pos a +ℤ imm)) 2 true)
row_step Lw rd rs1 pc a b imm u = ask (Load rd (word (pos a +ℤ imm)) 4 false)
row_step Lbu rd rs1 pc a b imm u = ask (Load rd (word (pos a +ℤ imm)) 1 false)
row_step Lhu rd rs1 pc a b imm u = ask (Load rd (word (pos a +ℤ imm)) 2 false)
row_step Sb rd rs1 pc a b imm u = ask (Store (word (pos a +ℤ imm)) 1 b)
row_step Sh rd rs1 pc a b imm u = ask (Store (word (pos a +ℤ imm)) 2 b)
row_step Sw rd rs1 pc a b imm u = ask (Store (word (pos a +ℤ imm)) 4 b)
row_step Addi rd rs1 pc a b imm u = put (word (pos a +ℤ imm))
row_step Slti rd rs1 pc a b imm u = put (from_bool (int_lt (signed 32 a) imm))
row_step Sltiu rd rs1 pc a b imm u = put (from_bool (nat_lt a u))
row_step Xori rd rs1 pc a b imm u = put (bit_xor a u)
row_step Ori rd rs1 pc a b imm u = put (bit_or a u)
row_step Andi rd rs1 pc a b imm u = put (bit_and a u)
row_step Slli rd rs1 pc a b imm u = put (a * 2 ^ (u % 32) % 2 ^ 32)
row_step Srli rd rs1 pc a b imm u = put (a / 2 ^ (u % 32))
row_step Srai rd rs1 pc a b imm u = put (word (int_shr (signed 32 a) (u % 32)))
row_step Add rd rs1 pc a b imm u = put (word (pos (a + b)))
row_step Sub rd rs1 pc a b imm u = put (word (pos a -ℤ pos b))
row_step Sll rd rs1 pc a b imm u = put (a * 2 ^ (b % 32) % 2 ^ 32)
row_step Slt rd rs1 pc a b imm u = put (from_bool (int_lt (signed 32 a) (signed 32 b)))
row_step Sltu rd rs1 pc a b imm u = put (from_bool (nat_lt a b))
row_step Xor rd rs1 pc a b imm u = put (bit_xor a b)
row_step Srl rd rs1 pc a b imm u = put (a / 2 ^ (b % 32))
row_step Sra rd rs1 pc a b imm u = put (word (int_shr (signed 32 a) (b % 32)))
row_step Or rd rs1 pc a b imm u = put (bit_or a b)
row_step And rd rs1 pc a b imm u = put (bit_and a b)
row_step Mul rd rs1 pc a b imm u = put (word (pos (a * b)))
row_step Mulh rd rs1 pc a b imm u = put (high (signed 32 a *ℤ signed 32 b))
row_step Mulhsu rd rs1 pc a b imm u = put (high (signed 32 a *ℤ pos b))
row_step Mulhu rd rs1 pc a b imm u = put (a * b / 2 ^ 32)
row_step Div rd rs1 pc a b imm u = put (if b == 0 then 2 ^ 32 - 1 else word (int_div (signed 32 a) (signed 32 b)))
row_step Divu rd rs1 pc a b imm u = put (if b == 0 then 2 ^ 32 - 1 else a / b)
row_step Rem rd rs1 pc a b imm u = put (if b == 0 then a else word (int_rem (signed 32 a) (signed 32 b)))
row_step Remu rd rs1 pc a b imm u = put (if b == 0 then a else a % b)
row_step Fence rd rs1 pc a b imm u = ask Next
row_step Ecall rd rs1 pc a b imm u = ask (Trap Environment)
row_step Ebreak rd rs1 pc a b imm u = ask (Trap Environment)
row_step Csrrw rd rs1 pc a b imm u = ask (CsrWrite rd u a)
row_step Csrrs rd rs1 pc a b imm u = ask (if rs1 == 0 then CsrRead rd u else Trap BadCsr)

-- what an instruction does
abbrev pub step_of : Op32 → ℕ → ℕ → ℕ → ℕ → ℕ → ℤ → Step
step_of op rd rs1 pc a b imm = row_step op rd rs1 pc a b imm (cast_unsigned w32 imm)
