-- The instruction that a word names: the table, searched.
use Rattle.std.specs.Prelude.{ℕ, Option, Bool, List, [], ◌∷◌, ◌==◌, ◌&&◌, find}
use Rattle.rv_isa.specs.Bits.{bits}
use Rattle.rv_isa.specs.Table.{row_of}
use Rattle.rv_isa.specs.declared.op.Op32.{Op32}
use Rattle.rv_isa.specs.declared.op.Op32.TheVariants.{Lui, Auipc, Jal, Jalr, Beq, Bne, Blt, Bge, Bltu, Bgeu, Lb, Lh, Lw, Lbu, Lhu, Sb, Sh, Sw, Addi, Slti, Sltiu, Xori, Ori, Andi, Slli, Srli, Srai, Add, Sub, Sll, Slt, Sltu, Xor, Srl, Sra, Or, And, Mul, Mulh, Mulhsu, Mulhu, Div, Divu, Rem, Remu, Fence, Ecall, Ebreak, Csrrw, Csrrs}
use Rattle.rv_isa.specs.declared.row.Row.{Row}
use Rattle.rv_isa.specs.declared.row.Row.TheVariants.{Register, Shift, Immediate, Control, Store, Branch, Upper, Jump, Fixed}

-- every instruction
abbrev pub all_ops : List Op32
all_ops = Lui ∷ Auipc ∷ Jal ∷ Jalr ∷ Beq ∷ Bne ∷ Blt ∷ Bge ∷ Bltu ∷ Bgeu ∷ Lb ∷ Lh ∷ Lw ∷ Lbu ∷ Lhu ∷ Sb ∷ Sh ∷ Sw ∷ Addi ∷ Slti ∷ Sltiu ∷ Xori ∷ Ori ∷ Andi ∷ Slli ∷ Srli ∷ Srai ∷ Add ∷ Sub ∷ Sll ∷ Slt ∷ Sltu ∷ Xor ∷ Srl ∷ Sra ∷ Or ∷ And ∷ Mul ∷ Mulh ∷ Mulhsu ∷ Mulhu ∷ Div ∷ Divu ∷ Rem ∷ Remu ∷ Fence ∷ Ecall ∷ Ebreak ∷ Csrrw ∷ Csrrs ∷ []

-- a row has the numbers of a word: its opcode, funct3 and funct7, and the whole word
abbrev pub has_numbers : Row → ℕ → ℕ → ℕ → ℕ → Bool
has_numbers (Register o f g) opcode funct3 funct7 word = opcode == o && funct3 == f && funct7 == g
has_numbers (Shift o f g) opcode funct3 funct7 word = opcode == o && funct3 == f && funct7 == g
has_numbers (Immediate o f) opcode funct3 funct7 word = opcode == o && funct3 == f
has_numbers (Control o f) opcode funct3 funct7 word = opcode == o && funct3 == f
has_numbers (Store o f) opcode funct3 funct7 word = opcode == o && funct3 == f
has_numbers (Branch o f) opcode funct3 funct7 word = opcode == o && funct3 == f
has_numbers (Upper o) opcode funct3 funct7 word = opcode == o
has_numbers (Jump o) opcode funct3 funct7 word = opcode == o
has_numbers (Fixed v) opcode funct3 funct7 word = opcode == bits v 6 0 && funct3 == bits v 14 12 && word == v

-- the first instruction whose row has the numbers
abbrev pub op_by : ℕ → ℕ → ℕ → ℕ → Option Op32
op_by opcode funct3 funct7 word = find (λ op. has_numbers (row_of op) opcode funct3 funct7 word) all_ops

-- the instruction that a word names
unfoldable pub op_found : ℕ → Option Op32
op_found w = op_by (bits w 6 0) (bits w 14 12) (bits w 31 25) w
