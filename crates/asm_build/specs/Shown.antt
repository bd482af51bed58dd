-- Words as assembly.
use Rattle.std.specs.Prelude.{ℕ, ℤ, ◌/◌, ◌^◌, List, [], ◌∷◌, ◌++◌, drop, Option, Some, None, codes, decimal, flat_map}
use Rattle.std.specs.Fmt.{signed_decimal}
use Rattle.std.specs.Int.{cast_unsigned, w32}
use Rattle.tn_text.specs.Hex.{hex_word_text}
use Rattle.rv_isa.specs.Decode.{decode_of}
use Rattle.rv_isa.specs.declared.instr.Instr.{Instr}
use Rattle.asm_build.specs.declared.spelling.Form.{Form}
use Rattle.asm_build.specs.declared.spelling.Form.TheVariants.{Registers, Immediate, Load, Store, Branch, Upper, Jump, Control, Alone, Fence}
use Rattle.asm_build.specs.Spelling.{name_of, form_of}

-- a register by its number
abbrev pub register_text : ℕ → List ℕ
register_text n = 120 ∷ decimal n

abbrev pub memory_text : ℤ → ℕ → List ℕ
memory_text offset base = signed_decimal offset ++ (40 ∷ register_text base ++ 41 ∷ [])

-- a number below 4096 in the last three of its eight hexadecimal digits
abbrev pub control_text : ℕ → List ℕ
control_text n = codes "0x" ++ drop 5 (hex_word_text n)

-- the arguments of an instruction, which has arguments of this form
abbrev pub operands_of : Form → Instr → List (List ℕ)
operands_of Registers i = register_text i.rd ∷ register_text i.rs1 ∷ register_text i.rs2 ∷ []
operands_of Immediate i = register_text i.rd ∷ register_text i.rs1 ∷ signed_decimal i.imm ∷ []
operands_of Load i = register_text i.rd ∷ memory_text i.imm i.rs1 ∷ []
operands_of Store i = register_text i.rs2 ∷ memory_text i.imm i.rs1 ∷ []
operands_of Branch i = register_text i.rs1 ∷ register_text i.rs2 ∷ signed_decimal i.imm ∷ []
operands_of Upper i = register_text i.rd ∷ decimal (cast_unsigned w32 i.imm / 2 ^ 12) ∷ []
operands_of Jump i = register_text i.rd ∷ signed_decimal i.imm ∷ []
operands_of Control i = register_text i.rd ∷ control_text (cast_unsigned w32 i.imm) ∷ register_text i.rs1 ∷ []
operands_of Alone i = []
operands_of Fence i = register_text i.rd ∷ register_text i.rs1 ∷ signed_decimal i.imm ∷ []

-- each after a comma and a space
abbrev pub more_operands : List (List ℕ) → List ℕ
more_operands [] = []
more_operands (operand ∷ operands) = 44 ∷ 32 ∷ operand ++ more_operands operands

abbrev pub operand_text : List (List ℕ) → List ℕ
operand_text [] = []
operand_text (operand ∷ operands) = 32 ∷ operand ++ more_operands operands

-- a name, and arguments between commas
abbrev pub text_of : List ℕ → List (List ℕ) → List ℕ
text_of name operands = name ++ operand_text operands

abbrev pub shown_instr : Instr → List ℕ
shown_instr i = text_of (name_of i.op) (operands_of (form_of i.op) i)

-- a word of no instruction
abbrev pub unknown_text : ℕ → List ℕ
unknown_text word = codes ".word 0x" ++ hex_word_text word

abbrev pub shown_by : ℕ → Option Instr → List ℕ
shown_by word (Some i) = shown_instr i
shown_by word None = unknown_text word

-- the canonical line of a word
abbrev pub shown : ℕ → List ℕ
shown word = shown_by word (decode_of word)

abbrev pub shown_line : ℕ → List ℕ
shown_line word = shown word ++ codes "\n"

-- the canonical lines of words, each with its line feed
abbrev pub shown_text : List ℕ → List ℕ
shown_text words = flat_map shown_line words
