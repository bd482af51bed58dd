-- What the laws say.
use Rattle.std.specs.Prelude.{◌≡◌, ℕ, ℤ, ◌+ℤ◌, ◌%◌, List, [], ◌∷◌, Some}
use Rattle.std.specs.declared.result.Result.{Result}
use Rattle.std.specs.declared.result.Result.TheVariants.{Ok, Err}
use Rattle.asm_text.specs.declared.fault.AsmKind.{AsmKind}
use Rattle.asm_text.specs.Number.{word_number}
use Rattle.rv_isa.specs.declared.op.Op32.TheVariants.{Lui, Addi}
use Rattle.asm_build.specs.declared.code.Code.{Code}
use Rattle.asm_build.specs.declared.code.Code.TheVariants.{Nothing, One, Two}
use Rattle.asm_build.specs.declared.image.Image.{Image}
use Rattle.asm_build.specs.Code.{word_for}
use Rattle.asm_build.specs.Labels.{address_of}
use Rattle.asm_build.specs.Shown.{shown, shown_text}
use Rattle.asm_build.specs.Text.{assembled}

-- the canonical line of a word is assembled to exactly this word
abbrev pub ShowsBack : ℕ → ℕ → Type 0
ShowsBack first word = assembled first (shown word) ≡ Ok (record { words = word ∷ []; labels = [] })

-- the canonical lines of words are assembled to exactly these words
abbrev pub ShowsTextBack : ℕ → List ℕ → Type 0
ShowsTextBack first words = assembled first (shown_text words) ≡ Ok (record { words = words; labels = [] })

-- the words are `addi`, or `lui` and `addi`, and their immediates sum to the number modulo 2^32
abbrev pub Loads : ℕ → ℕ → Code → Type 0
Loads rd n Nothing = ⊥
Loads rd n (One word) = (imm : ℤ) × (word_for Addi rd 0 0 imm ≡ Ok word) × (word_number imm ≡ n)
Loads rd n (Two first second) =
    (high low : ℤ) × (word_for Lui rd 0 0 high ≡ Ok first) × (word_for Addi rd rd 0 low ≡ Ok second) × (word_number (high +ℤ low) ≡ n)

abbrev pub IsLoad : ℕ → ℕ → Result Code AsmKind → Type 0
IsLoad rd n (Ok code) = Loads rd n code
IsLoad rd n (Err kind) = ⊥

-- the address of a label is that of a word
abbrev pub EveryLabelIsAtAWord : Type 0
EveryLabelIsAtAWord = (first : ℕ) (text : List ℕ) (image : Image) (name : List ℕ) (address : ℕ) → assembled first text ≡ Ok image → address_of name image.labels ≡ Some address → address % 4 ≡ 0
