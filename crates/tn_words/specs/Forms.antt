-- The forms of the command line: which words name which command, and with what.
use Rattle.std.specs.Prelude.{ℕ, ◌&&◌, nat_le, nat_eq, Bool, true, false, List, [], ◌∷◌, codes, drop, length, if◌then◌else◌, Option, Some, None, option_map, option_and_then, bytes_eq}
use Rattle.std.specs.List.{starts_with}
use Rattle.tn_text.specs.Numbers.{decimal_of}
use Rattle.tn_text.specs.declared.numbers.Numeral.{Numeral}
use Rattle.tn_text.specs.declared.numbers.Numeral.TheVariants.{Value, TooLarge, NoNumber}
use Rattle.tn_words.specs.declared.command.Command.{Command}
use Rattle.tn_words.specs.declared.command.Command.TheVariants.{Run, Gen, Asm, Show, Map, Check, Follow, Bsp, Wire}

abbrev pub Text : Type 0
Text = List ℕ

-- Numbers.

abbrev pub within : ℕ → ℕ → Numeral ℕ → Option ℕ
within low high (Value n) = if nat_le low n && nat_le n high then Some n else None
within low high TooLarge = None
within low high NoNumber = None

-- one to ten decimal digits that say a number from `low` to `high`
abbrev pub number_within : ℕ → ℕ → Text → Option ℕ
number_within low high text = if nat_le (length text) 10 then within low high (decimal_of text) else None

-- 1 to 64, and 4 where it is left out
abbrev pub workers_in : Option Text → Option ℕ
workers_in None = Some 4
workers_in (Some text) = number_within 1 64 text

-- any number of 32 bits
abbrev pub word_in : Text → Option ℕ
word_in text = number_within 0 4294967295 text

-- The option `--workers N` or `--workers=N`, at any place among the words.

-- what follows `--workers=`
abbrev pub attached : Text → Option Text
attached word = if starts_with nat_eq word (codes "--workers=") then Some (drop 10 word) else None

-- the value of the option at its first place, and the other words in order
pub record Parted : Type 0 where
  pub value : Option Text
  pub others : List Text

abbrev pub with_other : Text → Parted → Parted
with_other word p = record { value = p.value; others = word ∷ p.others }

abbrev pub beside : List Text → Option Parted
beside [] = None
beside (value ∷ rest) = Some (record { value = Some value; others = rest })

abbrev pub parted_by : Text → Option Text → List Text → Option Parted → Option Parted
parted_by word (Some value) rest more = Some (record { value = Some value; others = rest })
parted_by word None rest more = if bytes_eq word (codes "--workers") then beside rest else option_map (with_other word) more

abbrev pub parted : List Text → Option Parted
parted [] = Some (record { value = None; others = [] })
parted (word ∷ rest) = parted_by word (attached word) rest (parted rest)

-- The forms.

abbrev pub traced : List Text → Option Bool
traced [] = Some false
traced (word ∷ []) = if bytes_eq word (codes "--trace") then Some true else None
traced (word ∷ more ∷ rest) = None

abbrev pub run_with : Option ℕ → Option Bool → Option Command
run_with (Some workers) (Some trace) = Some (Run workers trace)
run_with (Some workers) None = None
run_with None trace = None

-- `[--workers N] [--trace]`
abbrev pub run_of : List Text → Option Command
run_of words = option_and_then (λ p. run_with (workers_in p.value) (traced p.others)) (parted words)

abbrev pub gen_with : Option ℕ → Option ℕ → Option ℕ → Option Command
gen_with (Some start) (Some count) (Some workers) = Some (Gen start count workers)
gen_with (Some start) (Some count) None = None
gen_with (Some start) None workers = None
gen_with None count workers = None

abbrev pub two_of : List Text → Option (Text × Text)
two_of (a ∷ b ∷ []) = Some (a, b)
two_of _ = None

abbrev pub gen_pair : Option Text → Option (Text × Text) → Option Command
gen_pair value (Some p) = gen_with (word_in p.0) (number_within 1 4096 p.1) (workers_in value)
gen_pair value None = None

abbrev pub gen_among : Option Text → List Text → Option Command
gen_among value others = gen_pair value (two_of others)

-- `START N [--workers N]`
abbrev pub gen_of : List Text → Option Command
gen_of words = option_and_then (λ p. gen_among p.value p.others) (parted words)

-- no further word
abbrev pub alone : Command → List Text → Option Command
alone command [] = Some command
alone command (word ∷ rest) = None

abbrev pub follow_with : Option ℕ → Option ℕ → Option Command
follow_with (Some origin) (Some number) = Some (Follow origin number)
follow_with (Some origin) None = None
follow_with None number = None

-- `ORIGIN NUMBER`
abbrev pub follow_of : List Text → Option Command
follow_of (origin ∷ number ∷ []) = follow_with (word_in origin) (word_in number)
follow_of _ = None

-- `SEED`
abbrev pub wire_of : List Text → Option Command
wire_of (seed ∷ []) = option_map (λ n. Wire n) (word_in seed)
wire_of _ = None

-- the command that the first word names, with the words after it
abbrev pub named : Text → List Text → Option Command
named name words =
    if bytes_eq name (codes "run") then run_of words
    else (if bytes_eq name (codes "gen") then gen_of words
    else (if bytes_eq name (codes "asm") then alone Asm words
    else (if bytes_eq name (codes "show") then alone Show words
    else (if bytes_eq name (codes "map") then alone Map words
    else (if bytes_eq name (codes "check") then alone Check words
    else (if bytes_eq name (codes "follow") then follow_of words
    else (if bytes_eq name (codes "bsp") then alone Bsp words
    else (if bytes_eq name (codes "wire") then wire_of words
    else None))))))))

-- the command of a call's words, where they are one of the forms
abbrev pub form_of : List Text → Option Command
form_of [] = None
form_of (name ∷ words) = named name words
