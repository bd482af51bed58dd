-- Texts that differ in comments and outer spaces alone.
use Rattle.std.specs.Prelude.{◌≡◌, ℕ, List, ◌++◌, ◌∷◌, map}
use Rattle.tn_text.specs.Lines.{lines_of}
use Rattle.job_text.specs.Text.{bare}

-- line by line, the texts have the same content, or both have a byte that is not allowed
abbrev pub SameContents : List ℕ → List ℕ → Type 0
SameContents text other = map bare (lines_of text) ≡ map bare (lines_of other)

-- a line between spaces, with a comment after it
abbrev pub commented : List ℕ → List ℕ → List ℕ → List ℕ → List ℕ
commented front line back comment = front ++ line ++ back ++ 35 ∷ comment
