-- The words of a line.
use Rattle.std.specs.Prelude.{ℕ, ℤ, pos, ◌+◌, ◌*◌, ◌/◌, ◌%◌, ◌^◌, List, [], ◌∷◌, if◌then◌else◌, Option, Some, None}
use Rattle.std.specs.declared.result.Result.{Result}
use Rattle.std.specs.declared.result.Result.TheVariants.{Ok, Err}
use Rattle.asm_text.specs.declared.fault.AsmKind.{AsmKind}
use Rattle.asm_text.specs.declared.fault.AsmKind.TheVariants.{BadName, BadArgs, OutOfRange, NoLabel}
use Rattle.asm_text.specs.declared.line.Arg.{Arg}
use Rattle.asm_text.specs.declared.line.Arg.TheVariants.{Reg, Num, Name}
use Rattle.asm_text.specs.declared.line.Body.{Body}
use Rattle.asm_text.specs.declared.line.Body.TheVariants.{Empty, Ins, Word}
use Rattle.asm_text.specs.Number.{word_number}
use Rattle.rv_isa.specs.Bits.{signed, fits_signed}
use Rattle.rv_isa.specs.Decode.{instr_of}
use Rattle.rv_isa.specs.Word.{word_of}
use Rattle.rv_isa.specs.declared.instr.Instr.{Instr}
use Rattle.rv_isa.specs.declared.op.Op32.{Op32}
use Rattle.rv_isa.specs.declared.op.Op32.TheVariants.{Lui, Jal, Jalr, Beq, Bne, Addi}
use Rattle.asm_build.specs.declared.code.Code.{Code}
use Rattle.asm_build.specs.declared.code.Code.TheVariants.{Nothing, One, Two}
use Rattle.asm_build.specs.declared.fields.Fields.{Fields}
use Rattle.asm_build.specs.declared.spelling.Pseudo.{Pseudo}
use Rattle.asm_build.specs.declared.spelling.Pseudo.TheVariants.{Nop, Mv, Li, La, J, Call, Ret, Beqz, Bnez}
use Rattle.asm_build.specs.Spelling.{form_of, op_named, pseudo_named}
use Rattle.asm_build.specs.Labels.{address_of}
use Rattle.asm_build.specs.Fields.{offset_of, fields_of}

abbrev pub word_by : Option Instr → Result ℕ AsmKind
word_by (Some i) = Ok (word_of i)
word_by None = Err OutOfRange

-- the word of an instruction with these fields, where they fit
unfoldable pub word_for : Op32 → ℕ → ℕ → ℕ → ℤ → Result ℕ AsmKind
word_for op rd rs1 rs2 imm = word_by (instr_of op rd rs1 rs2 imm)

abbrev pub one : Result ℕ AsmKind → Result Code AsmKind
one (Ok word) = Ok (One word)
one (Err kind) = Err kind

abbrev pub two : Result ℕ AsmKind → Result ℕ AsmKind → Result Code AsmKind
two (Ok first) (Ok second) = Ok (Two first second)
two (Ok first) (Err kind) = Err kind
two (Err kind) second = Err kind

-- the low 12 bits of a number, with a sign
abbrev pub low_part : ℕ → ℤ
low_part n = signed 12 (n % 2 ^ 12)

-- the rest, as the immediate of `lui`
abbrev pub high_part : ℕ → ℤ
high_part n = signed 32 ((n + 2 ^ 11) / 2 ^ 12 % 2 ^ 20 * 2 ^ 12)

-- loads an address, in two words whatever it is
unfoldable pub address_code : ℕ → ℕ → Result Code AsmKind
address_code rd n = two (word_for Lui rd 0 0 (high_part n)) (word_for Addi rd rd 0 (low_part n))

-- loads a number of 32 bits
unfoldable pub number_code : ℕ → ℕ → Result Code AsmKind
number_code rd n =
    if fits_signed 12 (signed 32 n) then one (word_for Addi rd 0 0 (signed 32 n)) else address_code rd n

-- one instruction, whose immediate is an offset
abbrev pub target_code : Op32 → ℕ → ℕ → Result ℤ AsmKind → Result Code AsmKind
target_code op rd rs1 (Ok offset) = one (word_for op rd rs1 0 offset)
target_code op rd rs1 (Err kind) = Err kind

abbrev pub label_code : ℕ → Option ℕ → Result Code AsmKind
label_code rd (Some address) = address_code rd address
label_code rd None = Err NoLabel

-- the names for other instructions
abbrev pub pseudo_code : Pseudo → List (List ℕ × ℕ) → ℕ → List Arg → Result Code AsmKind
pseudo_code Nop places here [] = one (word_for Addi 0 0 0 (pos 0))
pseudo_code Mv places here (Reg rd ∷ Reg rs ∷ []) = one (word_for Addi rd rs 0 (pos 0))
pseudo_code Li places here (Reg rd ∷ Num number ∷ []) = number_code rd (word_number number)
pseudo_code La places here (Reg rd ∷ Name label ∷ []) = label_code rd (address_of label places)
pseudo_code J places here (target ∷ []) = target_code Jal 0 0 (offset_of places here target)
pseudo_code Call places here (target ∷ []) = target_code Jal 1 0 (offset_of places here target)
pseudo_code Ret places here [] = one (word_for Jalr 0 1 0 (pos 0))
pseudo_code Beqz places here (Reg rs ∷ target ∷ []) = target_code Beq 0 rs (offset_of places here target)
pseudo_code Bnez places here (Reg rs ∷ target ∷ []) = target_code Bne 0 rs (offset_of places here target)
pseudo_code _ places here _ = Err BadArgs

abbrev pub op_by : Op32 → Result Fields AsmKind → Result Code AsmKind
op_by op (Ok fields) = one (word_for op fields.rd fields.rs1 fields.rs2 fields.imm)
op_by op (Err kind) = Err kind

-- an instruction with these arguments
abbrev pub op_code : Op32 → List (List ℕ × ℕ) → ℕ → List Arg → Result Code AsmKind
op_code op places here args = op_by op (fields_of (form_of op) places here args)

abbrev pub code_by : Option Op32 → Option Pseudo → List (List ℕ × ℕ) → ℕ → List Arg → Result Code AsmKind
code_by (Some op) pseudo places here args = op_code op places here args
code_by None (Some pseudo) places here args = pseudo_code pseudo places here args
code_by None None places here args = Err BadName

-- an instruction of this name with these arguments
abbrev pub instruction_code : List ℕ → List (List ℕ × ℕ) → ℕ → List Arg → Result Code AsmKind
instruction_code name places here args = code_by (op_named name) (pseudo_named name) places here args

-- the words of a line at an address, where the labels have these addresses
abbrev pub code_of : List (List ℕ × ℕ) → ℕ → Body → Result Code AsmKind
code_of places here Empty = Ok Nothing
code_of places here (Word word) = Ok (One word)
code_of places here (Ins name args) = instruction_code name places here args

abbrev pub words_in : Code → List ℕ
words_in Nothing = []
words_in (One word) = word ∷ []
words_in (Two first second) = first ∷ second ∷ []
