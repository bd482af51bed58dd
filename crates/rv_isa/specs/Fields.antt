-- The fields that a word has under a row.
use Rattle.std.specs.Prelude.{ℕ, ℤ, pos, ◌+◌, ◌*◌, ◌^◌}
use Rattle.rv_isa.specs.Bits.{bits, signed}
use Rattle.rv_isa.specs.declared.row.Row.{Row}
use Rattle.rv_isa.specs.declared.row.Row.TheVariants.{Register, Shift, Immediate, Control, Store, Branch, Upper, Jump, Fixed}

-- the register in bits 11 to 7
abbrev pub rd_in : Row → ℕ → ℕ
rd_in (Register o f g) w = bits w 11 7
rd_in (Shift o f g) w = bits w 11 7
rd_in (Immediate o f) w = bits w 11 7
rd_in (Control o f) w = bits w 11 7
rd_in (Store o f) w = 0
rd_in (Branch o f) w = 0
rd_in (Upper o) w = bits w 11 7
rd_in (Jump o) w = bits w 11 7
rd_in (Fixed o) w = 0

-- the register in bits 19 to 15
abbrev pub rs1_in : Row → ℕ → ℕ
rs1_in (Register o f g) w = bits w 19 15
rs1_in (Shift o f g) w = bits w 19 15
rs1_in (Immediate o f) w = bits w 19 15
rs1_in (Control o f) w = bits w 19 15
rs1_in (Store o f) w = bits w 19 15
rs1_in (Branch o f) w = bits w 19 15
rs1_in (Upper o) w = 0
rs1_in (Jump o) w = 0
rs1_in (Fixed o) w = 0

-- the register in bits 24 to 20
abbrev pub rs2_in : Row → ℕ → ℕ
rs2_in (Register o f g) w = bits w 24 20
rs2_in (Shift o f g) w = 0
rs2_in (Immediate o f) w = 0
rs2_in (Control o f) w = 0
rs2_in (Store o f) w = bits w 24 20
rs2_in (Branch o f) w = bits w 24 20
rs2_in (Upper o) w = 0
rs2_in (Jump o) w = 0
rs2_in (Fixed o) w = 0

-- the immediate, from its highest field to its lowest
abbrev pub imm_in : Row → ℕ → ℤ
imm_in (Register o f g) w = pos 0
imm_in (Shift o f g) w = pos (bits w 24 20)
imm_in (Immediate o f) w = signed 12 (bits w 31 20)
imm_in (Control o f) w = pos (bits w 31 20)
imm_in (Store o f) w = signed 12 (bits w 31 25 * 2 ^ 5 + bits w 11 7)
imm_in (Branch o f) w = signed 13 (bits w 31 31 * 2 ^ 12 + bits w 7 7 * 2 ^ 11 + bits w 30 25 * 2 ^ 5 + bits w 11 8 * 2)
imm_in (Upper o) w = signed 32 (bits w 31 12 * 2 ^ 12)
imm_in (Jump o) w = signed 21 (bits w 31 31 * 2 ^ 20 + bits w 19 12 * 2 ^ 12 + bits w 20 20 * 2 ^ 11 + bits w 30 21 * 2)
imm_in (Fixed o) w = pos 0
