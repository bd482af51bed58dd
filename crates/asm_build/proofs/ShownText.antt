-- The canonical lines of words are assembled to the words.
use Rattle.std.proofs.Common.{◌≡◌, ℕ, ◌+◌, ◌*◌, ◌%◌, ◌^◌, ◌≤◌, ◌<◌, zero, suc, List, [], ◌∷◌, ◌++◌, Option, Some, length, get_or, refl, sym, ap, ◌∙◌, arith, Fits, w32, append-nil, append_assoc, length-append}
use Rattle.std.specs.declared.result.Result.{Result}
use Rattle.std.specs.declared.result.Result.TheVariants.{Ok}
use Rattle.std.proofs.lemmas.Bool.{le-leb}
use Rattle.tn_text.specs.declared.stop.Fault.{Fault}
use Rattle.tn_text.specs.Lines.{lines_of}
use Rattle.tn_text.specs.Reading.{said_before}
use Rattle.tn_text.proofs.Clean.{IsLine, lines_of-line, one_line}
use Rattle.rv_isa.specs.Decode.{decode_of}
use Rattle.asm_text.specs.declared.fault.AsmKind.{AsmKind}
use Rattle.asm_text.specs.declared.line.Body.{Body}
use Rattle.asm_text.specs.declared.line.Line.{Line}
use Rattle.asm_text.specs.Text.{lines_from}
use Rattle.asm_build.specs.declared.code.Code.{Code}
use Rattle.asm_build.specs.declared.code.Code.TheVariants.{One}
use Rattle.asm_build.specs.declared.image.Image.{Image}
use Rattle.asm_build.specs.Code.{code_of}
use Rattle.asm_build.specs.Image.{limited, line_code, grown, and_then, known_after, size_of, places_after, image_after, empty_image}
use Rattle.asm_build.specs.Text.{image_by, assembled}
use Rattle.asm_build.specs.Shown.{shown, shown_line, shown_text}
use Rattle.asm_build.proofs.ShowBack.{line_with, body_shown, shows}

-- Lines.

abbrev body_of_word : ℕ → Body
body_of_word word = body_shown word (decode_of word)

-- what the canonical lines of words say
abbrev shown_lines : ℕ → List ℕ → List Line
shown_lines number [] = []
shown_lines number (w ∷ ws) = line_with number (body_of_word w) ∷ shown_lines (number + 1) ws

first_line : (w : ℕ) (rest : List ℕ) → IsLine (shown w) → lines_of (shown_line w ++ rest) ≡ shown w ∷ lines_of rest
first_line w rest h = ap lines_of (append_assoc (shown w) (10 ∷ []) rest) ∙ lines_of-line (shown w) rest h.bytes

read_all : (number : ℕ) (ws : List ℕ) → ((k : ℕ) → Fits w32 (get_or ws k 0)) → lines_from number (lines_of (shown_text ws)) ≡ Ok (shown_lines number ws)
read_all number [] h = refl
read_all number (w ∷ ws) h =
    let own = shows w (omega (arith, h 0)) in
    let rest = lines_of (shown_text ws) in
    ap (lines_from number) (first_line w (shown_text ws) own.line)
    ∙ ap (λ (r : Result (Option Line) AsmKind). said_before number r (lines_from (number + 1) rest)) (own.reads number)
    ∙ ap (λ (r : Result (List Line) (Fault AsmKind)). said_before number (Ok (Some (line_with number (body_of_word w)))) r)
    (read_all (number + 1) ws (λ k. h (suc k)))

-- the lines have no labels
places_none : (known labels : List (List ℕ × ℕ)) (here number : ℕ) (ws : List ℕ) → places_after known labels here (shown_lines number ws) ≡ labels
places_none known labels here number [] = refl
places_none known labels here number (w ∷ ws) =
    places_none known labels ((here + 4 * size_of known labels (line_with number (body_of_word w))) % 2 ^ 32) (number + 1) ws

-- Words.

abbrev with_words : List ℕ → Image
with_words words = record { words = words; labels = [] }

one_more : (number w : ℕ) (words : List ℕ) (body : Body) → code_of [] (4 * length words) body ≡ Ok (One w) → length words + 1 ≤ 16384
    → grown (with_words words) (line_with number body) (line_code [] (with_words words) (line_with number body)) ≡ Ok (with_words (words ++ w ∷ []))
one_more number w words body e short =
    let t = le-leb (length words + 1) 16384 short in
    ap (λ (r : Result Code AsmKind). grown (with_words words) (line_with number body) (limited (length words) r)) e ∙ rw t refl

image_all : (number : ℕ) (ws words : List ℕ) → ((k : ℕ) → Fits w32 (get_or ws k 0)) → length words + length ws ≤ 16384
    → image_after [] (with_words words) (shown_lines number ws) ≡ Ok (with_words (words ++ ws))
image_all number [] words h short = ap (λ (l : List ℕ). Ok (with_words l)) (sym (append-nil words))
image_all number (w ∷ ws) words h short =
    let own = shows w (omega (arith, h 0)) in
    let next : length (words ++ w ∷ []) + length ws ≤ 16384 = omega (arith, short, length-append words (w ∷ [])) in
    ap (λ (r : Result Image (Fault AsmKind)). and_then r (λ image. image_after [] image (shown_lines (number + 1) ws)))
    (one_more number w words (body_of_word w) (own.code (4 * length words)) (omega (arith, short)))
    ∙ image_all (number + 1) ws (words ++ w ∷ []) (λ k. h (suc k)) next
    ∙ ap (λ (l : List ℕ). Ok (with_words l)) (append_assoc words (w ∷ []) ws)

-- The laws.

pub text_back : (number : ℕ) (ws : List ℕ) → ((k : ℕ) → Fits w32 (get_or ws k 0)) → length ws ≤ 16384 → assembled number (shown_text ws) ≡ Ok (with_words ws)
unfolding assembled
text_back number ws h short =
    let lines = shown_lines number ws in
    ap image_by (read_all number ws h)
    ∙ ap (λ (places : List (List ℕ × ℕ)). image_after places empty_image lines) (places_none (known_after [] lines) [] 0 number ws)
    ∙ image_all number ws [] h (omega (arith, short))

alone_fits : (word : ℕ) → word < 2 ^ 32 → (k : ℕ) → Fits w32 (get_or (word ∷ []) k 0)
alone_fits word h zero = omega (arith, h)
alone_fits word h (suc k) = omega arith

pub show_back : (number word : ℕ) → word < 2 ^ 32 → assembled number (shown word) ≡ Ok (with_words (word ∷ []))
unfolding assembled
show_back number word h =
    let line = (shows word h).line in
    ap (λ (ls : List (List ℕ)). image_by (lines_from number ls)) (one_line (shown word) line ∙ sym (first_line word [] line))
    ∙ text_back number (word ∷ []) (alone_fits word h) (omega arith)
