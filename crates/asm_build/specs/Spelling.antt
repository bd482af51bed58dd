-- How instructions are written.
use Rattle.std.specs.Prelude.{ℕ, List, if◌then◌else◌, Option, Some, None, codes, bytes_eq, find}
use Rattle.rv_isa.specs.Search.{all_ops}
use Rattle.rv_isa.specs.declared.op.Op32.{Op32}
use Rattle.rv_isa.specs.declared.op.Op32.TheVariants.{Lui, Auipc, Jal, Jalr, Beq, Bne, Blt, Bge, Bltu, Bgeu, Lb, Lh, Lw, Lbu, Lhu, Sb, Sh, Sw, Addi, Slti, Sltiu, Xori, Ori, Andi, Slli, Srli, Srai, Add, Sub, Sll, Slt, Sltu, Xor, Srl, Sra, Or, And, Mul, Mulh, Mulhsu, Mulhu, Div, Divu, Rem, Remu, Fence, Ecall, Ebreak, Csrrw, Csrrs}
use Rattle.asm_build.specs.declared.spelling.Form.{Form}
use Rattle.asm_build.specs.declared.spelling.Form.TheVariants.{Registers, Immediate, Load, Store, Branch, Upper, Jump, Control, Alone, Fence as FenceForm}
use Rattle.asm_build.specs.declared.spelling.Pseudo.{Pseudo}
use Rattle.asm_build.specs.declared.spelling.Pseudo.TheVariants.{Nop, Mv, Li, La, J, Call, Ret, Beqz, Bnez}

-- the name of each instruction, and the form of its arguments
abbrev pub spelling_of : Op32 → List ℕ × Form
spelling_of Lui = (codes "lui", Upper)
spelling_of Auipc = (codes "auipc", Upper)
spelling_of Jal = (codes "jal", Jump)
spelling_of Jalr = (codes "jalr", Load)
spelling_of Beq = (codes "beq", Branch)
spelling_of Bne = (codes "bne", Branch)
spelling_of Blt = (codes "blt", Branch)
spelling_of Bge = (codes "bge", Branch)
spelling_of Bltu = (codes "bltu", Branch)
spelling_of Bgeu = (codes "bgeu", Branch)
spelling_of Lb = (codes "lb", Load)
spelling_of Lh = (codes "lh", Load)
spelling_of Lw = (codes "lw", Load)
spelling_of Lbu = (codes "lbu", Load)
spelling_of Lhu = (codes "lhu", Load)
spelling_of Sb = (codes "sb", Store)
spelling_of Sh = (codes "sh", Store)
spelling_of Sw = (codes "sw", Store)
spelling_of Addi = (codes "addi", Immediate)
spelling_of Slti = (codes "slti", Immediate)
spelling_of Sltiu = (codes "sltiu", Immediate)
spelling_of Xori = (codes "xori", Immediate)
spelling_of Ori = (codes "ori", Immediate)
spelling_of Andi = (codes "andi", Immediate)
spelling_of Slli = (codes "slli", Immediate)
spelling_of Srli = (codes "srli", Immediate)
spelling_of Srai = (codes "srai", Immediate)
spelling_of Add = (codes "add", Registers)
spelling_of Sub = (codes "sub", Registers)
spelling_of Sll = (codes "sll", Registers)
spelling_of Slt = (codes "slt", Registers)
spelling_of Sltu = (codes "sltu", Registers)
spelling_of Xor = (codes "xor", Registers)
spelling_of Srl = (codes "srl", Registers)
spelling_of Sra = (codes "sra", Registers)
spelling_of Or = (codes "or", Registers)
spelling_of And = (codes "and", Registers)
spelling_of Mul = (codes "mul", Registers)
spelling_of Mulh = (codes "mulh", Registers)
spelling_of Mulhsu = (codes "mulhsu", Registers)
spelling_of Mulhu = (codes "mulhu", Registers)
spelling_of Div = (codes "div", Registers)
spelling_of Divu = (codes "divu", Registers)
spelling_of Rem = (codes "rem", Registers)
spelling_of Remu = (codes "remu", Registers)
spelling_of Fence = (codes "fence", FenceForm)
spelling_of Ecall = (codes "ecall", Alone)
spelling_of Ebreak = (codes "ebreak", Alone)
spelling_of Csrrw = (codes "csrrw", Control)
spelling_of Csrrs = (codes "csrrs", Control)

abbrev pub name_of : Op32 → List ℕ
name_of op = (spelling_of op).0

abbrev pub form_of : Op32 → Form
form_of op = (spelling_of op).1

-- the instruction of a name
unfoldable pub op_named : List ℕ → Option Op32
op_named name = find (λ op. bytes_eq (name_of op) name) all_ops

-- the names for other instructions
abbrev pub pseudo_named : List ℕ → Option Pseudo
pseudo_named name =
    if bytes_eq name (codes "nop") then Some Nop else
    if bytes_eq name (codes "mv") then Some Mv else
    if bytes_eq name (codes "li") then Some Li else
    if bytes_eq name (codes "la") then Some La else
    if bytes_eq name (codes "j") then Some J else
    if bytes_eq name (codes "call") then Some Call else
    if bytes_eq name (codes "ret") then Some Ret else
    if bytes_eq name (codes "beqz") then Some Beqz else
    if bytes_eq name (codes "bnez") then Some Bnez else
    None
