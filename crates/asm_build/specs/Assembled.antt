-- What an image is of its lines.
use Rattle.std.specs.Prelude.{◌≡◌, ℕ, ◌+◌, ◌*◌, List, [], ◌∷◌, ◌++◌, length, map, Option, Some, None}
use Rattle.std.specs.List.{filter_map}
use Rattle.std.specs.declared.result.Result.TheVariants.{Ok}
use Rattle.asm_text.specs.declared.line.Line.{Line}
use Rattle.asm_build.specs.declared.code.Code.{Code}
use Rattle.asm_build.specs.declared.image.Image.{Image}
use Rattle.asm_build.specs.Labels.{address_of}
use Rattle.asm_build.specs.Code.{code_of, words_in}

-- a line's label has this address
abbrev pub StandsAt : List (List ℕ × ℕ) → ℕ → Option (List ℕ) → Type 0
StandsAt labels here None = Unit {0}
StandsAt labels here (Some name) = address_of name labels ≡ Some here

-- from this address on the words are those of the lines in order, by these addresses of labels, and each line's label
-- has the address of the line's own words
abbrev pub Spells : List (List ℕ × ℕ) → ℕ → List Line → List ℕ → Type 0
Spells labels here [] words = words ≡ []
Spells labels here (line ∷ lines) words =
    (code : Code) × (rest : List ℕ) × (code_of labels here line.body ≡ Ok code) × (words ≡ words_in code ++ rest)
    × StandsAt labels here line.label × Spells labels (here + 4 * length (words_in code)) lines rest

-- an image's words are those of its lines by the addresses of its own labels, and its labels are those of the lines, in order
pub record IsAssembled (lines : List Line) (image : Image) : Type 0 where
  pub words : Spells image.labels 0 lines image.words
  pub labels : map (λ label. label.0) image.labels ≡ filter_map (λ line. line.label) lines
