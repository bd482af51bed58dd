-- What a text is in words.
use Rattle.std.specs.Prelude.{ℕ, ◌+◌, ◌*◌, ◌%◌, ◌^◌, Bool, true, false, nat_le, List, [], ◌∷◌, ◌++◌, length, if◌then◌else◌}
use Rattle.std.specs.declared.result.Result.{Result}
use Rattle.std.specs.declared.result.Result.TheVariants.{Ok, Err}
use Rattle.tn_text.specs.declared.stop.Fault.{Fault}
use Rattle.tn_text.specs.Gives.{fault_on}
use Rattle.asm_text.specs.declared.fault.AsmKind.{AsmKind}
use Rattle.asm_text.specs.declared.fault.AsmKind.TheVariants.{Twice, NoLabel, TooMany}
use Rattle.asm_text.specs.declared.line.Line.{Line}
use Rattle.asm_build.specs.declared.code.Code.{Code}
use Rattle.asm_build.specs.declared.image.Image.{Image}
use Rattle.asm_build.specs.Labels.{stood, labelled}
use Rattle.asm_build.specs.Code.{code_of, words_in}

-- a label of an earlier line is a worse fault than a label of no line, and a lesser one than any other kind of its line
abbrev pub checked : Bool → Result Code AsmKind → Result Code AsmKind
checked true (Ok code) = Err Twice
checked true (Err NoLabel) = Err Twice
checked true (Err kind) = Err kind
checked false code = code

-- The addresses of the labels.

-- every label of a text, at 0
abbrev pub known_after : List (List ℕ × ℕ) → List Line → List (List ℕ × ℕ)
known_after labels [] = labels
known_after labels (line ∷ lines) = known_after (labelled line.label 0 labels) lines

abbrev pub size_by : Result Code AsmKind → ℕ
size_by (Ok code) = length (words_in code)
size_by (Err kind) = 1

-- how many words a line has, which no label's address changes. A faulty line counts as one
abbrev pub size_of : List (List ℕ × ℕ) → List (List ℕ × ℕ) → Line → ℕ
size_of known labels line = size_by (checked (stood line.label labels) (code_of known 0 line.body))

-- each label at the address of what follows it. A label that comes twice keeps its first address
abbrev pub places_after : List (List ℕ × ℕ) → List (List ℕ × ℕ) → ℕ → List Line → List (List ℕ × ℕ)
places_after known labels here [] = labels
places_after known labels here (line ∷ lines) =
    places_after known (labelled line.label here labels) ((here + 4 * size_of known labels line) % 2 ^ 32) lines

abbrev pub places_of : List Line → List (List ℕ × ℕ)
places_of lines = places_after (known_after [] lines) [] 0 lines

-- The words.

abbrev pub empty_image : Image
empty_image = record { words = []; labels = [] }

-- a text has at most 16384 words
abbrev pub limited : ℕ → Result Code AsmKind → Result Code AsmKind
limited done (Ok code) = if nat_le (done + length (words_in code)) 16384 then Ok code else Err TooMany
limited done (Err kind) = Err kind

-- the code of a line after the words and labels of an image, or the first kind of fault that the line has
abbrev pub line_code : List (List ℕ × ℕ) → Image → Line → Result Code AsmKind
line_code places image line =
    limited (length image.words) (checked (stood line.label image.labels) (code_of places (4 * length image.words) line.body))

abbrev pub grown : Image → Line → Result Code AsmKind → Result Image (Fault AsmKind)
grown image line (Ok code) =
    Ok (record { words = image.words ++ words_in code; labels = labelled line.label (4 * length image.words) image.labels })
grown image line (Err kind) = Err (fault_on line.number kind)

abbrev pub and_then : Result Image (Fault AsmKind) → (Image → Result Image (Fault AsmKind)) → Result Image (Fault AsmKind)
and_then (Ok image) more = more image
and_then (Err fault) more = Err fault

-- an image with more lines, or the first line at fault
abbrev pub image_after : List (List ℕ × ℕ) → Image → List Line → Result Image (Fault AsmKind)
image_after places image [] = Ok image
image_after places image (line ∷ lines) =
    and_then (grown image line (line_code places image line)) (λ next. image_after places next lines)

-- the words and labels of a text, or the first line at fault
abbrev pub image_of : List Line → Result Image (Fault AsmKind)
image_of lines = image_after (places_of lines) empty_image lines
