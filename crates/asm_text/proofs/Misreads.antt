-- Reading finds faults of two kinds alone.
use Rattle.std.proofs.Common.{◌≡◌, ℕ, ℤ, ◌+◌, Bool, true, false, cond, List, [], ◌∷◌, Option, Some, None, length, drop, codes, refl, subst}
use Rattle.std.specs.declared.result.Result.{Result}
use Rattle.std.specs.declared.result.Result.TheVariants.{Ok, Err}
use Rattle.std.specs.Str.{bytes_eq}
use Rattle.std.specs.declared.vec.Vec.{Vec}
use Rattle.tn_text.specs.declared.numbers.Numeral.{Numeral}
use Rattle.tn_text.specs.declared.numbers.Numeral.TheVariants.{Value, TooLarge, NoNumber}
use Rattle.tn_text.specs.declared.stop.Fault.{Fault}
use Rattle.tn_text.specs.declared.stop.Stop.{Stop}
use Rattle.tn_text.specs.declared.stop.Stop.TheVariants as stops
use Rattle.tn_text.specs.Content.{content_of, is_plain, trimmed, without_front_spaces}
use Rattle.tn_text.specs.Gives.{GivesItems}
use Rattle.tn_text.specs.Names.{is_name}
use Rattle.tn_text.specs.Numbers.{signed_number_of}
use Rattle.tn_text.specs.Reading.{content_says, some_said, said_before}
use Rattle.tn_text.specs.Words.{words_of}
use Rattle.asm_text.specs.declared.fault.AsmKind.{AsmKind}
use Rattle.asm_text.specs.declared.fault.AsmKind.TheVariants.{BadLine, BadNumber}
use Rattle.asm_text.specs.declared.line.Arg.{Arg}
use Rattle.asm_text.specs.declared.line.Arg.TheVariants.{Name}
use Rattle.asm_text.specs.declared.line.Body.{Body}
use Rattle.asm_text.specs.declared.line.Line.{Line}
use Rattle.asm_text.specs.Arguments.{base_of, with_base, memory_by, memory_of, arg_by, arg_of, arg_before, args_of, args_in}
use Rattle.tn_text.specs.Cut.{cut_at, parts_at}
use Rattle.asm_text.specs.Registers.{register_of}
use Rattle.asm_text.specs.Statement.{word_by, word_body, named, instruction_of, body_by, body_of, with_body, labelled, line_by, line_of}
use Rattle.asm_text.specs.Text.{is_misread, IsMisread, lines_from}

-- a value, or a fault of these kinds
abbrev Read : {X : Type 0} → Result X AsmKind → Type 0
Read (Ok x) = Unit {0}
Read (Err kind) = is_misread kind ≡ true

read_if : {X : Type 0} (b : Bool) (x y : Result X AsmKind) → Read x → Read y → Read (cond b x y)
read_if true x y h k = h
read_if false x y h k = k

with_base_read : (n : Numeral ℤ) (base : Option ℕ) → Read (with_base n base)
with_base_read (Value n) None = refl
with_base_read TooLarge None = refl
with_base_read NoNumber None = refl
with_base_read (Value n) (Some base) = tt
with_base_read TooLarge (Some base) = refl
with_base_read NoNumber (Some base) = refl

memory_read : (parts : Option (List ℕ × List ℕ)) → Read (memory_by parts)
memory_read None = refl
memory_read (Some parts) = with_base_read (signed_number_of (trimmed parts.0)) (base_of parts.1)

arg_read : (register : Option ℕ) (n : Numeral ℤ) (text : List ℕ) → Read (arg_by register n text)
arg_read (Some register) n text = tt
arg_read None (Value n) text = tt
arg_read None TooLarge text = refl
arg_read None NoNumber text = read_if (is_name text) (Ok (Name text)) (memory_of text) tt (memory_read (cut_at 40 text))

before_read : (arg : Result Arg AsmKind) (more : Result (List Arg) AsmKind) → Read arg → Read more → Read (arg_before arg more)
before_read (Ok arg) (Ok args) h k = tt
before_read (Ok arg) (Err kind) h k = k
before_read (Err BadNumber) (Ok args) h k = refl
before_read (Err BadNumber) (Err kind) h k = k
before_read (Err BadLine) more h k = refl
before_read (Err _) more h k = cc

args_read : (parts : List (List ℕ)) → Read (args_of parts)
args_read [] = tt
args_read (part ∷ parts) =
    before_read (arg_of (trimmed part)) (args_of parts) (arg_read (register_of (trimmed part)) (signed_number_of (trimmed part)) (trimmed part)) (args_read parts)

args_in_read : (text : List ℕ) → Read (args_in text)
args_in_read [] = tt
args_in_read (b ∷ bs) = args_read (parts_at 44 (b ∷ bs))

word_read : (n : Numeral ℤ) → Read (word_by n)
word_read (Value n) = tt
word_read TooLarge = refl
word_read NoNumber = refl

named_read : (name : List ℕ) (args : Result (List Arg) AsmKind) → Read args → Read (named name args)
named_read name (Ok args) h = tt
named_read name (Err kind) h = h

instruction_read : (word operands : List ℕ) → Read (instruction_of word operands)
instruction_read word operands =
    read_if (bytes_eq word (codes ".word")) (word_body operands) (cond (is_name word) (named word (args_in operands)) (Err BadLine)) (word_read (signed_number_of operands))
    (read_if (is_name word) (named word (args_in operands)) (Err BadLine) (named_read word (args_in operands) (args_in_read operands)) refl)

body_read : (text : List ℕ) (words : List (List ℕ)) → Read (body_by text words)
body_read text [] = tt
body_read text (word ∷ words) = instruction_read word (trimmed (drop (length word) (without_front_spaces text)))

with_body_read : (number : ℕ) (label : Option (List ℕ)) (body : Result Body AsmKind) → Read body → Read (with_body number label body)
with_body_read number label (Ok body) h = tt
with_body_read number label (Err kind) h = h

labelled_read : (number : ℕ) (text : List ℕ) (parts : Option (List ℕ × List ℕ)) → Read (labelled number text parts)
labelled_read number text None = with_body_read number None (body_of text) (body_read text (words_of text))
labelled_read number text (Some parts) =
    read_if (is_name (trimmed parts.0)) (with_body number (Some (trimmed parts.0)) (body_of parts.1)) (Err BadLine)
    (with_body_read number (Some (trimmed parts.0)) (body_of parts.1) (body_read parts.1 (words_of parts.1))) refl

some_read : (line : Result Line AsmKind) → Read line → Read (some_said line)
some_read (Ok line) h = tt
some_read (Err kind) h = h

content_read : (number : ℕ) (content : List ℕ) → Read (content_says (line_by number) content)
content_read number [] = tt
content_read number (b ∷ bs) = some_read (line_by number (b ∷ bs)) (labelled_read number (b ∷ bs) (cut_at 58 (b ∷ bs)))

line_read : (number : ℕ) (line : List ℕ) → Read (line_of number line)
line_read number line = read_if (is_plain line) (content_says (line_by number) (content_of line)) (Err BadLine) (content_read number (content_of line)) refl

-- the same of a whole text
abbrev ReadAll : Result (List Line) (Fault AsmKind) → Type 0
ReadAll (Ok lines) = Unit {0}
ReadAll (Err fault) = is_misread fault.kind ≡ true

said_read : (number : ℕ) (said : Result (Option Line) AsmKind) (more : Result (List Line) (Fault AsmKind)) → Read said → ReadAll more → ReadAll (said_before number said more)
said_read number (Ok (Some line)) (Ok lines) h k = tt
said_read number (Ok (Some line)) (Err fault) h k = k
said_read number (Ok None) more h k = k
said_read number (Err kind) more h k = h

all_read : (number : ℕ) (ls : List (List ℕ)) → ReadAll (lines_from number ls)
all_read number [] = tt
all_read number (l ∷ ls) = said_read number (line_of number l) (lines_from (number + 1) ls) (line_read number l) (all_read (number + 1) ls)

misread_by : {A : Type 0} (r : Result (Vec Line A) (Stop (Fault AsmKind))) (read : Result (List Line) (Fault AsmKind)) → GivesItems r read → ReadAll read → IsMisread r
misread_by (Ok lines) read h k = tt
misread_by (Err stops.Memory) read h k = tt
misread_by (Err (stops.Fault fault)) read h k = subst ReadAll h k

pub misread : {A : Type 0} (r : Result (Vec Line A) (Stop (Fault AsmKind))) (number : ℕ) (ls : List (List ℕ)) → GivesItems r (lines_from number ls) → IsMisread r
misread r number ls h = misread_by r (lines_from number ls) h (all_read number ls)
