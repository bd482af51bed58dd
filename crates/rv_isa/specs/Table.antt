-- The table of the instructions, as chapter "RV32/64G Instruction Set Listings" of the RISC-V unprivileged
-- manual has it: numbers are written in the manual's bits.
use Rattle.std.specs.Prelude.{ℕ, ℤ, Bool, ◌≡◌, ◌<◌, ◌+◌, ◌*◌, ◌^◌, ◌==◌, ◌&&◌, nat_lt}
use Rattle.std.specs.Int.{cast_unsigned, w32}
use Rattle.rv_isa.specs.Bits.{bits, fits_signed, fits_unsigned, is_zero, is_multiple}
use Rattle.rv_isa.specs.declared.op.Op32.{Op32}
use Rattle.rv_isa.specs.declared.op.Op32.TheVariants.{Lui, Auipc, Jal, Jalr, Beq, Bne, Blt, Bge, Bltu, Bgeu, Lb, Lh, Lw, Lbu, Lhu, Sb, Sh, Sw, Addi, Slti, Sltiu, Xori, Ori, Andi, Slli, Srli, Srai, Add, Sub, Sll, Slt, Sltu, Xor, Srl, Sra, Or, And, Mul, Mulh, Mulhsu, Mulhu, Div, Divu, Rem, Remu, Fence, Ecall, Ebreak, Csrrw, Csrrs}
use Rattle.rv_isa.specs.declared.row.Row.{Row}
use Rattle.rv_isa.specs.declared.row.Row.TheVariants.{Register, Shift, Immediate, Control, Store, Branch, Upper, Jump, Fixed}

-- the row of each instruction: its form, then its opcode, funct3 and funct7 where the form has them
abbrev pub row_of : Op32 → Row
row_of Lui = Upper 0b0110111
row_of Auipc = Upper 0b0010111
row_of Jal = Jump 0b1101111
row_of Jalr = Immediate 0b1100111 0b000
row_of Beq = Branch 0b1100011 0b000
row_of Bne = Branch 0b1100011 0b001
row_of Blt = Branch 0b1100011 0b100
row_of Bge = Branch 0b1100011 0b101
row_of Bltu = Branch 0b1100011 0b110
row_of Bgeu = Branch 0b1100011 0b111
row_of Lb = Immediate 0b0000011 0b000
row_of Lh = Immediate 0b0000011 0b001
row_of Lw = Immediate 0b0000011 0b010
row_of Lbu = Immediate 0b0000011 0b100
row_of Lhu = Immediate 0b0000011 0b101
row_of Sb = Store 0b0100011 0b000
row_of Sh = Store 0b0100011 0b001
row_of Sw = Store 0b0100011 0b010
row_of Addi = Immediate 0b0010011 0b000
row_of Slti = Immediate 0b0010011 0b010
row_of Sltiu = Immediate 0b0010011 0b011
row_of Xori = Immediate 0b0010011 0b100
row_of Ori = Immediate 0b0010011 0b110
row_of Andi = Immediate 0b0010011 0b111
row_of Slli = Shift 0b0010011 0b001 0b0000000
row_of Srli = Shift 0b0010011 0b101 0b0000000
row_of Srai = Shift 0b0010011 0b101 0b0100000
row_of Add = Register 0b0110011 0b000 0b0000000
row_of Sub = Register 0b0110011 0b000 0b0100000
row_of Sll = Register 0b0110011 0b001 0b0000000
row_of Slt = Register 0b0110011 0b010 0b0000000
row_of Sltu = Register 0b0110011 0b011 0b0000000
row_of Xor = Register 0b0110011 0b100 0b0000000
row_of Srl = Register 0b0110011 0b101 0b0000000
row_of Sra = Register 0b0110011 0b101 0b0100000
row_of Or = Register 0b0110011 0b110 0b0000000
row_of And = Register 0b0110011 0b111 0b0000000
row_of Mul = Register 0b0110011 0b000 0b0000001
row_of Mulh = Register 0b0110011 0b001 0b0000001
row_of Mulhsu = Register 0b0110011 0b010 0b0000001
row_of Mulhu = Register 0b0110011 0b011 0b0000001
row_of Div = Register 0b0110011 0b100 0b0000001
row_of Divu = Register 0b0110011 0b101 0b0000001
row_of Rem = Register 0b0110011 0b110 0b0000001
row_of Remu = Register 0b0110011 0b111 0b0000001
row_of Fence = Immediate 0b0001111 0b000
row_of Ecall = Fixed 0x00000073
row_of Ebreak = Fixed 0x00100073
row_of Csrrw = Control 0b1110011 0b001
row_of Csrrs = Control 0b1110011 0b010

-- the word of a row with these fields, from the highest field to the lowest; `u` is the immediate's two's complement
abbrev pub row_word : Row → ℕ → ℕ → ℕ → ℤ → ℕ
row_word (Register opcode funct3 funct7) rd rs1 rs2 imm =
    funct7 * 2 ^ 25 + rs2 * 2 ^ 20 + rs1 * 2 ^ 15 + funct3 * 2 ^ 12 + rd * 2 ^ 7 + opcode
row_word (Shift opcode funct3 funct7) rd rs1 rs2 imm = let u = cast_unsigned w32 imm in
    funct7 * 2 ^ 25 + bits u 4 0 * 2 ^ 20 + rs1 * 2 ^ 15 + funct3 * 2 ^ 12 + rd * 2 ^ 7 + opcode
row_word (Immediate opcode funct3) rd rs1 rs2 imm = let u = cast_unsigned w32 imm in
    bits u 11 0 * 2 ^ 20 + rs1 * 2 ^ 15 + funct3 * 2 ^ 12 + rd * 2 ^ 7 + opcode
row_word (Control opcode funct3) rd rs1 rs2 imm = let u = cast_unsigned w32 imm in
    bits u 11 0 * 2 ^ 20 + rs1 * 2 ^ 15 + funct3 * 2 ^ 12 + rd * 2 ^ 7 + opcode
row_word (Store opcode funct3) rd rs1 rs2 imm = let u = cast_unsigned w32 imm in
    bits u 11 5 * 2 ^ 25 + rs2 * 2 ^ 20 + rs1 * 2 ^ 15 + funct3 * 2 ^ 12 + bits u 4 0 * 2 ^ 7 + opcode
row_word (Branch opcode funct3) rd rs1 rs2 imm = let u = cast_unsigned w32 imm in
    bits u 12 12 * 2 ^ 31 + bits u 10 5 * 2 ^ 25 + rs2 * 2 ^ 20 + rs1 * 2 ^ 15 + funct3 * 2 ^ 12
    + bits u 4 1 * 2 ^ 8 + bits u 11 11 * 2 ^ 7 + opcode
row_word (Upper opcode) rd rs1 rs2 imm = let u = cast_unsigned w32 imm in
    bits u 31 12 * 2 ^ 12 + rd * 2 ^ 7 + opcode
row_word (Jump opcode) rd rs1 rs2 imm = let u = cast_unsigned w32 imm in
    bits u 20 20 * 2 ^ 31 + bits u 10 1 * 2 ^ 21 + bits u 11 11 * 2 ^ 20 + bits u 19 12 * 2 ^ 12 + rd * 2 ^ 7 + opcode
row_word (Fixed word) rd rs1 rs2 imm = word

-- a number below 32: a register
abbrev pub is_small : ℕ → Bool
is_small n = nat_lt n 32

-- the fields fit the row, and those that it has no place for are 0
abbrev pub row_fits : Row → ℕ → ℕ → ℕ → ℤ → Bool
row_fits (Register opcode funct3 funct7) rd rs1 rs2 imm =
    is_small rd && is_small rs1 && is_small rs2 && is_zero imm
row_fits (Shift opcode funct3 funct7) rd rs1 rs2 imm =
    is_small rd && is_small rs1 && rs2 == 0 && fits_unsigned 5 imm
row_fits (Immediate opcode funct3) rd rs1 rs2 imm =
    is_small rd && is_small rs1 && rs2 == 0 && fits_signed 12 imm
row_fits (Control opcode funct3) rd rs1 rs2 imm =
    is_small rd && is_small rs1 && rs2 == 0 && fits_unsigned 12 imm
row_fits (Store opcode funct3) rd rs1 rs2 imm =
    rd == 0 && is_small rs1 && is_small rs2 && fits_signed 12 imm
row_fits (Branch opcode funct3) rd rs1 rs2 imm =
    rd == 0 && is_small rs1 && is_small rs2 && fits_signed 13 imm && is_multiple 2 imm
row_fits (Upper opcode) rd rs1 rs2 imm =
    is_small rd && rs1 == 0 && rs2 == 0 && fits_signed 32 imm && is_multiple 4096 imm
row_fits (Jump opcode) rd rs1 rs2 imm =
    is_small rd && rs1 == 0 && rs2 == 0 && fits_signed 21 imm && is_multiple 2 imm
row_fits (Fixed word) rd rs1 rs2 imm =
    rd == 0 && rs1 == 0 && rs2 == 0 && is_zero imm

-- the numbers of a row fit their places
abbrev pub IsSmallRow : Row → Type 0
IsSmallRow (Register opcode funct3 funct7) = (opcode < 128) × (funct3 < 8) × (funct7 < 128)
IsSmallRow (Shift opcode funct3 funct7) = (opcode < 128) × (funct3 < 8) × (funct7 < 128)
IsSmallRow (Immediate opcode funct3) = (opcode < 128) × (funct3 < 8)
IsSmallRow (Control opcode funct3) = (opcode < 128) × (funct3 < 8)
IsSmallRow (Store opcode funct3) = (opcode < 128) × (funct3 < 8)
IsSmallRow (Branch opcode funct3) = (opcode < 128) × (funct3 < 8)
IsSmallRow (Upper opcode) = opcode < 128
IsSmallRow (Jump opcode) = opcode < 128
IsSmallRow (Fixed word) = word < 2 ^ 32

-- a word has the numbers of a row in their places
abbrev pub Matches : Row → ℕ → Type 0
Matches (Register opcode funct3 funct7) w = (bits w 6 0 ≡ opcode) × (bits w 14 12 ≡ funct3) × (bits w 31 25 ≡ funct7)
Matches (Shift opcode funct3 funct7) w = (bits w 6 0 ≡ opcode) × (bits w 14 12 ≡ funct3) × (bits w 31 25 ≡ funct7)
Matches (Immediate opcode funct3) w = (bits w 6 0 ≡ opcode) × (bits w 14 12 ≡ funct3)
Matches (Control opcode funct3) w = (bits w 6 0 ≡ opcode) × (bits w 14 12 ≡ funct3)
Matches (Store opcode funct3) w = (bits w 6 0 ≡ opcode) × (bits w 14 12 ≡ funct3)
Matches (Branch opcode funct3) w = (bits w 6 0 ≡ opcode) × (bits w 14 12 ≡ funct3)
Matches (Upper opcode) w = bits w 6 0 ≡ opcode
Matches (Jump opcode) w = bits w 6 0 ≡ opcode
Matches (Fixed word) w = w ≡ word
