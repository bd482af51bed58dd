-- The code of a graph's job is assembly of at most 16,384 words.
use Rattle.std.proofs.Common.{ℕ, ◌≡◌, ◌≤◌, ◌+◌, ◌*◌, ◌++◌, ◌∷◌, [], Bool, true, false, cond, List, length, map, nat_le, nat_lt, refl, sym, subst, arith, Some, Ok, Err, Result}
use Rattle.std.proofs.lemmas.Bool.{ltb-false}
use Rattle.std.proofs.lemmas.Bool.Decides.{nat_tests}
use Rattle.std.proofs.lemmas.List.{length-append, nil_from_length}
use Rattle.tn_text.specs.declared.stop.Fault.{Fault}
use Rattle.asm_text.specs.declared.fault.AsmKind.{AsmKind}
use Rattle.asm_text.specs.declared.fault.AsmKind.TheVariants.{TooMany}
use Rattle.asm_text.specs.declared.line.Line.{Line}
use Rattle.asm_text.specs.Text.{lines_from}
use Rattle.asm_build.specs.declared.image.Image.{Image}
use Rattle.asm_build.specs.Code.{words_in}
use Rattle.asm_build.specs.Image.{and_then, empty_image, grown, image_after, limited, line_code, places_of}
use Rattle.asm_build.specs.Labels.{labelled}
use Rattle.asm_build.specs.Text.{assembled, image_by}
use Rattle.tn_text.specs.Lines.{lines_of}
use Rattle.job_text.specs.declared.job.CodeSection.{CodeSection}
use Rattle.job_text.specs.declared.job.Job.{Job}
use Rattle.job_text.specs.declared.job.Owner.{Owner}
use Rattle.job_text.specs.declared.job.TextSection.{TextSection}
use Rattle.job_faults.specs.Assembly.{as_code, image_words, sections_of}
use Rattle.job_faults.specs.Assembly.{image_of as section_image}
use Rattle.job_faults.specs.Code.{code_of, is_all, is_tile, or_words, words_by}

-- a line is refused whose words would be too many
limit_ok : (done : ℕ) (r : Result _ AsmKind) (code : _) → limited done r ≡ Ok code → done + length (words_in code) ≤ 16384
limit_ok done (Err kind) code e = absurd (cc e)
limit_ok done (Ok c) code e = by (nat_le (done + length (words_in c)) 16384) refl e where
  by : (b : Bool) → b ≡ nat_le (done + length (words_in c)) 16384 → cond b (Ok c) (Err TooMany) ≡ Ok code → done + length (words_in code) ≤ 16384
  by true is same = let few : done + length (words_in c) ≤ 16384 = grind (arith, nat_tests) in let one : c ≡ code = cc same in subst (λ x. done + length (words_in x) ≤ 16384) one few
  by false is same = absurd (cc same)

more_lines : (places : List (List ℕ × ℕ)) (image final : Image) (line : Line) (lines : List Line) (r : Result _ AsmKind)
    → ((code : _) → r ≡ Ok code → length image.words + length (words_in code) ≤ 16384)
    → ((next : Image) → length next.words ≤ 16384 → image_after places next lines ≡ Ok final → length final.words ≤ 16384)
    → and_then (grown image line r) (λ next. image_after places next lines) ≡ Ok final → length final.words ≤ 16384
more_lines places image final line lines (Ok code) limit rest e =
    let long = length-append image.words (words_in code) in
    let few = limit code refl in
    rest (record { words = image.words ++ words_in code; labels = labelled line.label (4 * length image.words) image.labels }) (omega arith) e
more_lines places image final line lines (Err kind) limit rest e = absurd (cc e)

few_after : (lines : List Line) (places : List (List ℕ × ℕ)) (image final : Image) → length image.words ≤ 16384 → image_after places image lines ≡ Ok final → length final.words ≤ 16384
few_after [] places image final few e = let same : image ≡ final = cc e in subst (λ (x : Image). length x.words ≤ 16384) same few
few_after (line ∷ lines) places image final few e =
    more_lines places image final line lines (line_code places image line)
    (λ code is. limit_ok (length image.words) _ code is)
    (λ next short after. few_after lines places next final short after) e

few_in : (r : Result Image (Fault AsmKind)) → ((image : Image) → r ≡ Ok image → length image.words ≤ 16384) → length (image_words r) ≤ 16384
few_in (Ok image) few = few image refl
few_in (Err found) few = omega arith

few_of_lines : (r : Result (List Line) (Fault AsmKind)) → length (image_words (image_by r)) ≤ 16384
few_of_lines (Err found) = omega arith
few_of_lines (Ok lines) = few_in (image_after (places_of lines) empty_image lines) (λ image is. few_after lines (places_of lines) empty_image image (omega arith) is)

few_words : (s : TextSection) → length (image_words (section_image s)) ≤ 16384
unfolding assembled
few_words s = few_of_lines (lines_from (s.line + 1) (lines_of s.text))

few_by : (test : Owner → Bool) (asms : List TextSection) (others : List ℕ) → length others ≤ 16384 → length (or_words (words_by test (map as_code asms)) others) ≤ 16384
few_by test [] others few = few
few_by test (s ∷ ss) others few = by (test s.owner) (few_by test ss others few) where
  by : (b : Bool) → length (or_words (words_by test (map as_code ss)) others) ≤ 16384 → length (or_words (cond b (Some (as_code s).words) (words_by test (map as_code ss))) others) ≤ 16384
  by true rest = few_words s
  by false rest = rest

pub few_code : (job : Job) (tile : ℕ) → nat_lt 0 (length job.codes) ≡ false → length (code_of (sections_of job) tile) ≤ 16384
few_code job tile none =
    let short = ltb-false 0 (length job.codes) none in
    let empty : job.codes ≡ [] = nil_from_length job.codes (omega arith) in
    subst (λ (cs : List CodeSection). length (code_of (cs ++ map as_code job.asms) tile) ≤ 16384) (sym empty)
    (few_by (is_tile tile) job.asms (or_words (words_by is_all (map as_code job.asms)) []) (few_by is_all job.asms [] (omega arith)))
