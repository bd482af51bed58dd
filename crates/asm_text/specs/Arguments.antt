-- The arguments of an instruction.
use Rattle.std.specs.Prelude.{ℕ, ℤ, List, [], ◌∷◌, if◌then◌else◌, Option, Some, None}
use Rattle.std.specs.declared.result.Result.{Result}
use Rattle.std.specs.declared.result.Result.TheVariants.{Ok, Err}
use Rattle.tn_text.specs.declared.numbers.Numeral.{Numeral}
use Rattle.tn_text.specs.declared.numbers.Numeral.TheVariants.{Value, TooLarge, NoNumber}
use Rattle.tn_text.specs.Content.{trimmed}
use Rattle.tn_text.specs.Names.{is_name}
use Rattle.tn_text.specs.Numbers.{signed_number_of}
use Rattle.asm_text.specs.declared.line.Arg.{Arg}
use Rattle.asm_text.specs.declared.line.Arg.TheVariants.{Reg, Num, Name, Mem}
use Rattle.asm_text.specs.declared.fault.AsmKind.{AsmKind}
use Rattle.asm_text.specs.declared.fault.AsmKind.TheVariants.{BadLine, BadNumber}
use Rattle.tn_text.specs.Cut.{cut_at, parts_at}
use Rattle.asm_text.specs.Registers.{register_of}

-- the bracket ends the text
abbrev pub register_before : List ℕ → List ℕ → Option ℕ
register_before front [] = register_of (trimmed front)
register_before front (b ∷ bs) = None

abbrev pub base_by : Option (List ℕ × List ℕ) → Option ℕ
base_by None = None
base_by (Some parts) = register_before parts.0 parts.1

-- the register in front of a closing bracket
abbrev pub base_of : List ℕ → Option ℕ
base_of text = base_by (cut_at 41 text)

abbrev pub with_base : Numeral ℤ → Option ℕ → Result Arg AsmKind
with_base _ None = Err BadLine
with_base (Value n) (Some base) = Ok (Mem n base)
with_base TooLarge (Some base) = Err BadNumber
with_base NoNumber (Some base) = Err BadLine

abbrev pub memory_by : Option (List ℕ × List ℕ) → Result Arg AsmKind
memory_by None = Err BadLine
memory_by (Some parts) = with_base (signed_number_of (trimmed parts.0)) (base_of parts.1)

-- a number, and after it a register in brackets
abbrev pub memory_of : List ℕ → Result Arg AsmKind
memory_of text = memory_by (cut_at 40 text)

-- a register is never a label
abbrev pub arg_by : Option ℕ → Numeral ℤ → List ℕ → Result Arg AsmKind
arg_by (Some register) _ text = Ok (Reg register)
arg_by None (Value n) text = Ok (Num n)
arg_by None TooLarge text = Err BadNumber
arg_by None NoNumber text = if is_name text then Ok (Name text) else memory_of text

abbrev pub arg_of : List ℕ → Result Arg AsmKind
arg_of text = arg_by (register_of text) (signed_number_of text) text

-- an argument of no form is a worse fault than a number that is too large, whichever comes first
abbrev pub arg_before : Result Arg AsmKind → Result (List Arg) AsmKind → Result (List Arg) AsmKind
arg_before (Err BadNumber) (Ok args) = Err BadNumber
arg_before (Err BadNumber) (Err kind) = Err kind
arg_before (Err kind) more = Err kind
arg_before (Ok arg) (Ok args) = Ok (arg ∷ args)
arg_before (Ok arg) (Err kind) = Err kind

abbrev pub args_of : List (List ℕ) → Result (List Arg) AsmKind
args_of [] = Ok []
args_of (part ∷ parts) = arg_before (arg_of (trimmed part)) (args_of parts)

-- the arguments between commas. An empty text has none
abbrev pub args_in : List ℕ → Result (List Arg) AsmKind
args_in [] = Ok []
args_in (b ∷ bs) = args_of (parts_at 44 (b ∷ bs))
