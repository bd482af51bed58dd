-- The lines of beats, here and in a job.
use Rattle.std.proofs.Common.{ℕ, ◌≡◌, ◌++◌, ◌∷◌, [], ◌∙◌, List, ap, flat_map, map, refl, sym}
use Rattle.tn_text.specs.Hex.{hex_text}
use Rattle.tn_keys.specs.Tables.{Table}
use Rattle.tn_keys.specs.Written.{written}
use Rattle.job_text.specs.declared.job.BeatLine.{BeatLine}
use Rattle.job_text.specs.Printed.{beat_text}
use Rattle.tn_text.specs.Lines.{feed}
use Rattle.map_text.specs.Text.{beat_line}

abbrev bytes_line : List ℕ → List ℕ
bytes_line bytes = hex_text bytes ++ feed

abbrev bytes_of : BeatLine → List ℕ
bytes_of line = line.bytes

joined : {X Y A : Type 0} (f : Y → List A) (g : X → Y) (xs : List X) → flat_map (λ x. f (g x)) xs ≡ flat_map f (map g xs)
joined f g [] = refl
joined f g (x ∷ xs) = ap (λ ys. f (g x) ++ ys) (joined f g xs)

pub same_beats : (lines : List BeatLine) (beats : Table) → map bytes_of lines ≡ map written beats → flat_map beat_line beats ≡ flat_map beat_text lines
same_beats lines beats e = joined bytes_line written beats ∙ sym (ap (flat_map bytes_line) e) ∙ sym (joined bytes_line bytes_of lines)
