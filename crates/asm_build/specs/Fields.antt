-- The fields of an instruction, by its arguments.
use Rattle.std.specs.Prelude.{ℕ, ℤ, pos, negsuc, ◌-ℤ◌, ◌*◌, ◌^◌, nat_lt, List, [], ◌∷◌, if◌then◌else◌, Option, Some, None}
use Rattle.std.specs.declared.result.Result.{Result}
use Rattle.std.specs.declared.result.Result.TheVariants.{Ok, Err}
use Rattle.asm_text.specs.declared.fault.AsmKind.{AsmKind}
use Rattle.asm_text.specs.declared.fault.AsmKind.TheVariants.{BadArgs, OutOfRange, NoLabel}
use Rattle.asm_text.specs.declared.line.Arg.{Arg}
use Rattle.asm_text.specs.declared.line.Arg.TheVariants.{Reg, Num, Name, Mem}
use Rattle.rv_isa.specs.Bits.{signed}
use Rattle.asm_build.specs.declared.fields.Fields.{Fields}
use Rattle.asm_build.specs.declared.spelling.Form.{Form}
use Rattle.asm_build.specs.declared.spelling.Form.TheVariants.{Registers, Immediate, Load, Store, Branch, Upper, Jump, Control, Alone, Fence}
use Rattle.asm_build.specs.Control.{control_of}
use Rattle.asm_build.specs.Labels.{address_of}

abbrev pub offset_by : ℕ → Option ℕ → Result ℤ AsmKind
offset_by here (Some address) = Ok (pos address -ℤ pos here)
offset_by here None = Err NoLabel

-- a target is an offset, or a label, whose offset is counted from the instruction's own address
abbrev pub offset_of : List (List ℕ × ℕ) → ℕ → Arg → Result ℤ AsmKind
offset_of places here (Num offset) = Ok offset
offset_of places here (Name label) = offset_by here (address_of label places)
offset_of places here _ = Err BadArgs

-- the immediate whose upper 20 bits are a number
abbrev pub upper_of : ℤ → Result ℤ AsmKind
upper_of (pos n) = if nat_lt n (2 ^ 20) then Ok (signed 32 (n * 2 ^ 12)) else Err OutOfRange
upper_of (negsuc n) = Err OutOfRange

abbrev pub control_by : Option ℕ → Result ℤ AsmKind
control_by (Some number) = Ok (pos number)
control_by None = Err BadArgs

-- a control register is a number or a name
abbrev pub control_number : Arg → Result ℤ AsmKind
control_number (Num number) = Ok number
control_number (Name name) = control_by (control_of name)
control_number _ = Err BadArgs

-- these registers beside an immediate
abbrev pub beside : ℕ → ℕ → ℕ → Result ℤ AsmKind → Result Fields AsmKind
beside rd rs1 rs2 (Ok imm) = Ok (record { rd = rd; rs1 = rs1; rs2 = rs2; imm = imm })
beside rd rs1 rs2 (Err kind) = Err kind

abbrev pub register_fields : List Arg → Result Fields AsmKind
register_fields (Reg rd ∷ Reg rs1 ∷ Reg rs2 ∷ []) = Ok (record { rd = rd; rs1 = rs1; rs2 = rs2; imm = pos 0 })
register_fields _ = Err BadArgs

abbrev pub immediate_fields : List Arg → Result Fields AsmKind
immediate_fields (Reg rd ∷ Reg rs1 ∷ Num imm ∷ []) = Ok (record { rd = rd; rs1 = rs1; rs2 = 0; imm = imm })
immediate_fields _ = Err BadArgs

abbrev pub load_fields : List Arg → Result Fields AsmKind
load_fields (Reg rd ∷ Mem imm rs1 ∷ []) = Ok (record { rd = rd; rs1 = rs1; rs2 = 0; imm = imm })
load_fields _ = Err BadArgs

abbrev pub store_fields : List Arg → Result Fields AsmKind
store_fields (Reg rs2 ∷ Mem imm rs1 ∷ []) = Ok (record { rd = 0; rs1 = rs1; rs2 = rs2; imm = imm })
store_fields _ = Err BadArgs

abbrev pub branch_fields : List (List ℕ × ℕ) → ℕ → List Arg → Result Fields AsmKind
branch_fields places here (Reg rs1 ∷ Reg rs2 ∷ target ∷ []) = beside 0 rs1 rs2 (offset_of places here target)
branch_fields places here _ = Err BadArgs

abbrev pub upper_fields : List Arg → Result Fields AsmKind
upper_fields (Reg rd ∷ Num number ∷ []) = beside rd 0 0 (upper_of number)
upper_fields _ = Err BadArgs

abbrev pub jump_fields : List (List ℕ × ℕ) → ℕ → List Arg → Result Fields AsmKind
jump_fields places here (Reg rd ∷ target ∷ []) = beside rd 0 0 (offset_of places here target)
jump_fields places here _ = Err BadArgs

abbrev pub control_fields : List Arg → Result Fields AsmKind
control_fields (Reg rd ∷ register ∷ Reg rs1 ∷ []) = beside rd rs1 0 (control_number register)
control_fields _ = Err BadArgs

-- no argument, and an immediate that is not written
abbrev pub alone_fields : ℤ → List Arg → Result Fields AsmKind
alone_fields imm [] = Ok (record { rd = 0; rs1 = 0; rs2 = 0; imm = imm })
alone_fields imm (arg ∷ args) = Err BadArgs

-- a fence without arguments orders everything
abbrev pub fence_fields : List Arg → Result Fields AsmKind
fence_fields [] = alone_fields (pos 0xff) []
fence_fields (arg ∷ args) = immediate_fields (arg ∷ args)

-- the fields that arguments of a form give
abbrev pub fields_of : Form → List (List ℕ × ℕ) → ℕ → List Arg → Result Fields AsmKind
fields_of Registers places here args = register_fields args
fields_of Immediate places here args = immediate_fields args
fields_of Load places here args = load_fields args
fields_of Store places here args = store_fields args
fields_of Branch places here args = branch_fields places here args
fields_of Upper places here args = upper_fields args
fields_of Jump places here args = jump_fields places here args
fields_of Control places here args = control_fields args
fields_of Alone places here args = alone_fields (pos 0) args
fields_of Fence places here args = fence_fields args
