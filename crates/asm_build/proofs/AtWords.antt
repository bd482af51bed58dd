-- Each label of an image has the address of a word.
use Rattle.std.proofs.Common.{◌≡◌, ℕ, ◌*◌, ◌%◌, Bool, true, false, cond, Option, Some, None, List, [], ◌∷◌, ◌++◌, length, bytes_eq, is_some, arith, subst}
use Rattle.std.specs.List.{AllByRecursion}
use Rattle.std.specs.declared.result.Result.{Result}
use Rattle.std.specs.declared.result.Result.TheVariants.{Ok, Err}
use Rattle.tn_text.specs.declared.stop.Fault.{Fault}
use Rattle.tn_text.specs.Lines.{lines_of}
use Rattle.asm_text.specs.declared.fault.AsmKind.{AsmKind}
use Rattle.asm_text.specs.declared.line.Line.{Line}
use Rattle.asm_text.specs.Text.{lines_from}
use Rattle.asm_build.specs.declared.code.Code.{Code}
use Rattle.asm_build.specs.declared.image.Image.{Image}
use Rattle.asm_build.specs.Code.{words_in}
use Rattle.asm_build.specs.Image.{empty_image, grown, and_then, image_after, line_code, places_of}
use Rattle.asm_build.specs.Labels.{address_of, labelled}
use Rattle.asm_build.specs.Laws.{EveryLabelIsAtAWord}
use Rattle.asm_build.specs.Text.{assembled, image_by}

abbrev Labels : Type 0
Labels = List (List ℕ × ℕ)

-- each label of a list is at a word
abbrev AtWords : Labels → Type 0
AtWords labels = AllByRecursion (λ (l : List ℕ × ℕ). l.1 % 4 ≡ 0) labels

more : (labels : Labels) (name : List ℕ) (a : ℕ) → AtWords labels → a % 4 ≡ 0 → AtWords (labels ++ (name, a) ∷ [])
more [] name a all h = (h, tt)
more (l ∷ ls) name a all h = (all.0, more ls name a all.1 h)

with_more : (labels : Labels) (name : List ℕ) (a : ℕ) (there : Bool) → AtWords labels → a % 4 ≡ 0 → AtWords (cond there labels (labels ++ (name, a) ∷ []))
with_more labels name a true all h = all
with_more labels name a false all h = more labels name a all h

four_times : (k : ℕ) → (4 * k) % 4 ≡ 0
four_times k = omega arith

label_more : (labels : Labels) (label : Option (List ℕ)) (k : ℕ) → AtWords labels → AtWords (labelled label (4 * k) labels)
label_more labels None k all = all
label_more labels (Some name) k all = with_more labels name (4 * k) (is_some (address_of name labels)) all (four_times k)

abbrev Images : Type 0
Images = Result Image (Fault AsmKind)

abbrev ok : Image → Images
ok i = Ok i

ok_is : (a b : Image) → ok a ≡ ok b → a ≡ b
ok_is a b e = cc e

after_by : (places : Labels) (image : Image) (line : Line) (lines : List Line) (end : Image) (code : Result Code AsmKind) → ((i : Image) → AtWords i.labels → image_after places i lines ≡ Ok end → AtWords end.labels) → AtWords image.labels
    → and_then (grown image line code) (λ next. image_after places next lines) ≡ Ok end → AtWords end.labels
after_by places image line lines end (Ok code) more_lines all e = more_lines (record { words = image.words ++ words_in code; labels = labelled line.label (4 * length image.words) image.labels }) (label_more image.labels line.label (length image.words) all) e
after_by places image line lines end (Err kind) more_lines all e = absurd cc

after : (places : Labels) (image : Image) (lines : List Line) (end : Image) → AtWords image.labels → image_after places image lines ≡ Ok end → AtWords end.labels
after places image [] end all e = subst (λ (i : Image). AtWords i.labels) (ok_is image end e) all
after places image (line ∷ lines) end all e = after_by places image line lines end (line_code places image line) (λ i a h. after places i lines end a h) all e

found_by : (P : ℕ → Type 0) (b : Bool) (here a : ℕ) (rest : Option ℕ) → P here → (rest ≡ Some a → P a) → cond b (Some here) rest ≡ Some a → P a
found_by P true here a rest p more_labels e = subst P (cc e) p
found_by P false here a rest p more_labels e = more_labels e

found_in : (P : ℕ → Type 0) (labels : Labels) (name : List ℕ) (a : ℕ) → AllByRecursion (λ (l : List ℕ × ℕ). P l.1) labels → address_of name labels ≡ Some a → P a
found_in P [] name a all e = absurd cc
found_in P (l ∷ ls) name a all e = found_by P (bytes_eq name l.0) l.1 a (address_of name ls) all.0 (λ h. found_in P ls name a all.1 h) e

by_lines : (lines : Result (List Line) (Fault AsmKind)) (image : Image) → image_by lines ≡ Ok image → AtWords image.labels
by_lines (Ok lines) image e = after (places_of lines) empty_image lines image tt e
by_lines (Err fault) image e = absurd cc

pub labels_at_words : EveryLabelIsAtAWord
unfolding assembled
labels_at_words first text image name a e h = found_in (λ x. x % 4 ≡ 0) image.labels name a (by_lines (lines_from first (lines_of text)) image e) h
