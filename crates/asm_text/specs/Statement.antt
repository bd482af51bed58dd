-- What one line says.
use Rattle.std.specs.Prelude.{ℕ, ℤ, List, [], ◌∷◌, length, drop, if◌then◌else◌, Option, Some, None, codes, bytes_eq}
use Rattle.std.specs.declared.result.Result.{Result}
use Rattle.std.specs.declared.result.Result.TheVariants.{Ok, Err}
use Rattle.tn_text.specs.declared.numbers.Numeral.{Numeral}
use Rattle.tn_text.specs.declared.numbers.Numeral.TheVariants.{Value, TooLarge, NoNumber}
use Rattle.tn_text.specs.Content.{trimmed, without_front_spaces}
use Rattle.tn_text.specs.Names.{is_name}
use Rattle.tn_text.specs.Numbers.{signed_number_of}
use Rattle.tn_text.specs.Reading.{line_says}
use Rattle.tn_text.specs.Words.{words_of}
use Rattle.asm_text.specs.declared.line.Arg.{Arg}
use Rattle.asm_text.specs.declared.line.Body.{Body}
use Rattle.asm_text.specs.declared.line.Body.TheVariants.{Empty, Ins, Word}
use Rattle.asm_text.specs.declared.line.Line.{Line}
use Rattle.asm_text.specs.declared.fault.AsmKind.{AsmKind}
use Rattle.asm_text.specs.declared.fault.AsmKind.TheVariants.{BadLine, BadNumber}
use Rattle.asm_text.specs.Number.{word_number}
use Rattle.asm_text.specs.Arguments.{args_in}
use Rattle.tn_text.specs.Cut.{cut_at}

abbrev pub word_by : Numeral ℤ → Result Body AsmKind
word_by (Value n) = Ok (Word (word_number n))
word_by TooLarge = Err BadNumber
word_by NoNumber = Err BadLine

-- `.word` has one number
abbrev pub word_body : List ℕ → Result Body AsmKind
word_body operands = word_by (signed_number_of operands)

abbrev pub named : List ℕ → Result (List Arg) AsmKind → Result Body AsmKind
named name (Ok args) = Ok (Ins name args)
named name (Err kind) = Err kind

-- `.word`, or an instruction's name
abbrev pub instruction_of : List ℕ → List ℕ → Result Body AsmKind
instruction_of word operands =
    if bytes_eq word (codes ".word") then word_body operands
    else (if is_name word then named word (args_in operands) else Err BadLine)

-- the first word, and the arguments after it
abbrev pub body_by : List ℕ → List (List ℕ) → Result Body AsmKind
body_by text [] = Ok Empty
body_by text (word ∷ words) = instruction_of word (trimmed (drop (length word) (without_front_spaces text)))

abbrev pub body_of : List ℕ → Result Body AsmKind
body_of text = body_by text (words_of text)

abbrev pub with_body : ℕ → Option (List ℕ) → Result Body AsmKind → Result Line AsmKind
with_body number label (Ok body) = Ok (record { number = number; label = label; body = body })
with_body number label (Err kind) = Err kind

abbrev pub labelled : ℕ → List ℕ → Option (List ℕ × List ℕ) → Result Line AsmKind
labelled number text None = with_body number None (body_of text)
labelled number text (Some parts) =
    if is_name (trimmed parts.0) then with_body number (Some (trimmed parts.0)) (body_of parts.1) else Err BadLine

-- a label and a colon, which may be left out, and what the line says after them
abbrev pub line_by : ℕ → List ℕ → Result Line AsmKind
line_by number text = labelled number text (cut_at 58 text)

-- what a line says, or None where it is blank
abbrev pub line_of : ℕ → List ℕ → Result (Option Line) AsmKind
line_of number line = line_says BadLine (line_by number) line
