-- The code of each tile.
use Rattle.std.specs.Prelude.{ℕ, ◌==◌, Bool, true, false, List, [], ◌∷◌, length, Option, Some, None, if◌then◌else◌}
use Rattle.std.specs.List.{list_any, range_with_len}
use Rattle.tn_base.specs.declared.shape.ShapeNumbers.{ShapeNumbers}
use Rattle.tn_base.specs.Parts.{tile_at, tile_count}
use Rattle.job_text.specs.declared.job.CodeSection.{CodeSection}
use Rattle.job_text.specs.declared.job.Owner.{Owner}
use Rattle.job_text.specs.declared.job.Owner.TheVariants as owner

abbrev pub is_all : Owner → Bool
is_all owner.All = true
is_all (owner.Tile tile) = false

abbrev pub is_tile : ℕ → Owner → Bool
is_tile tile owner.All = false
is_tile tile (owner.Tile other) = tile == other

-- the words of the section whose owner passes the test, where there is one
abbrev pub words_by : (Owner → Bool) → List CodeSection → Option (List ℕ)
words_by test [] = None
words_by test (s ∷ ss) = if test s.owner then Some s.words else words_by test ss

abbrev pub or_words : Option (List ℕ) → List ℕ → List ℕ
or_words (Some words) others = words
or_words None others = others

-- a tile's own section, even one without words, wins over that of all tiles
abbrev pub code_of : List CodeSection → ℕ → List ℕ
code_of sections tile = or_words (words_by (is_tile tile) sections) (or_words (words_by is_all sections) [])

abbrev pub is_empty : List ℕ → Bool
is_empty words = length words == 0

-- some tile has no code
abbrev pub lacks_code : ShapeNumbers → List CodeSection → Bool
lacks_code n sections = list_any (λ i. is_empty (code_of sections (tile_at n i))) (range_with_len 0 (tile_count n))
