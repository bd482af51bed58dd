-- What an image is of its lines.
use Rattle.std.proofs.Common.{◌≡◌, ℕ, ◌+◌, ◌*◌, ◌%◌, ◌^◌, ◌≤◌, Bool, true, false, leb, List, [], ◌∷◌, ◌++◌, Option, Some, None, is_some, length, map, refl, sym, ap, ◌∙◌, subst, arith, append_assoc, append-nil, length-append, cond, IfOk}
use Rattle.std.specs.declared.result.Result.{Result}
use Rattle.std.specs.declared.result.Result.TheVariants.{Ok, Err}
use Rattle.std.specs.List.{filter_map, cons_option}
use Rattle.std.proofs.lemmas.Bool.{leb-true}
use Rattle.std.proofs.lemmas.List.{map-append}
use Rattle.tn_text.specs.declared.stop.Fault.{Fault}
use Rattle.tn_text.specs.declared.stop.Stop.{Stop}
use Rattle.tn_text.specs.Gives.{Gives}
use Rattle.asm_text.specs.declared.fault.AsmKind.{AsmKind}
use Rattle.asm_text.specs.declared.fault.AsmKind.TheVariants.{NoLabel}
use Rattle.asm_text.specs.declared.fault.AsmKind.TheVariants as kinds
use Rattle.asm_text.specs.declared.line.Line.{Line}
use Rattle.asm_build.specs.declared.code.Code.{Code}
use Rattle.asm_build.specs.declared.image.Image.{Image}
use Rattle.asm_build.specs.Assembled.{StandsAt, Spells, IsAssembled}
use Rattle.asm_build.specs.Code.{code_of, words_in}
use Rattle.asm_build.specs.Image.{checked, known_after, size_by, size_of, places_after, places_of, empty_image, limited, line_code, grown, and_then, image_after, image_of}
use Rattle.asm_build.specs.Labels.{address_of, with_label, stood, labelled}
use Rattle.asm_build.proofs.Places.{with_new, own, cover_all, keeps_after}
use Rattle.asm_build.proofs.Sizes.{Covers, body_size}

checked_ok : (twice : Bool) (r : Result Code AsmKind) (code : Code) → checked twice r ≡ Ok code → (twice ≡ false) × (r ≡ Ok code)
checked_ok false r code h = (refl, h)
checked_ok true (Ok c) code h = cc
checked_ok true (Err NoLabel) code h = cc
checked_ok true (Err _) code h = cc

limited_by : (done : ℕ) (c code : Code) (b : Bool) → leb (done + length (words_in c)) 16384 ≡ b → cond b (Ok c) (Err kinds.TooMany) ≡ Ok code
    → (c ≡ code) × (done + length (words_in code) ≤ 16384)
limited_by done c code true e h =
    let same : c ≡ code = cc in
    (same, subst (λ (x : Code). done + length (words_in x) ≤ 16384) same (leb-true (done + length (words_in c)) 16384 e))
limited_by done c code false e h = cc

limited_ok : (done : ℕ) (r : Result Code AsmKind) (code : Code) → limited done r ≡ Ok code → (r ≡ Ok code) × (done + length (words_in code) ≤ 16384)
limited_ok done (Ok c) code h =
    let both = limited_by done c code (leb (done + length (words_in c)) 16384) refl h in (ap (λ (x : Code). Ok x) both.0, both.1)
limited_ok done (Err kind) code h = cc

abbrev next_image : Image → Line → Code → Image
next_image image line code =
    record { words = image.words ++ words_in code; labels = labelled line.label (4 * length image.words) image.labels }

grown_ok : (image : Image) (line : Line) (r : Result Code AsmKind) (next : Image) → grown image line r ≡ Ok next → (code : Code) × (r ≡ Ok code) × (next ≡ next_image image line code)
grown_ok image line (Ok code) next h = (code, refl, cc)
grown_ok image line (Err kind) next h = cc

and_then_ok : (r : Result Image (Fault AsmKind)) (more : Image → Result Image (Fault AsmKind)) (final : Image) → and_then r more ≡ Ok final → (next : Image) × (r ≡ Ok next) × (more next ≡ Ok final)
and_then_ok (Ok next) more final h = (next, refl, h)
and_then_ok (Err fault) more final h = cc

none_from : (o : Option ℕ) → is_some o ≡ false → o ≡ None
none_from None h = refl
none_from (Some n) h = cc

new_label : (label : Option (List ℕ)) (here : ℕ) (labels places sizes : List (List ℕ × ℕ)) (after : ℕ) (lines : List Line) → stood label labels ≡ false
    → places_after sizes (labelled label here labels) after lines ≡ places → StandsAt places here label
new_label None here labels places sizes after lines h e = tt
new_label (Some name) here labels places sizes after lines h e =
    let there = own name here labels (none_from (address_of name labels) h) in
    ap (address_of name) (sym e) ∙ keeps_after lines name sizes (with_label name here labels) after here there

abbrev keys : List (List ℕ × ℕ) → List (List ℕ)
keys labels = map (λ label. label.0) labels

abbrev line_labels : List Line → List (List ℕ)
line_labels lines = filter_map (λ line. line.label) lines

label_keys_by : (label : Option (List ℕ)) (here : ℕ) (labels : List (List ℕ × ℕ)) (rest : List (List ℕ)) → stood label labels ≡ false
    → keys (labelled label here labels) ++ rest ≡ keys labels ++ cons_option label rest
label_keys_by None here labels rest h = refl
label_keys_by (Some name) here labels rest h =
    let new = with_new name here labels (none_from (address_of name labels) h) in
    ap (λ (ls : List (List ℕ × ℕ)). keys ls ++ rest) new
    ∙ ap (λ (ks : List (List ℕ)). ks ++ rest) (map-append (λ label. label.0) labels ((name, here) ∷ []))
    ∙ append_assoc (keys labels) (name ∷ []) rest

-- what the lines from an image on make of it
record Finishes (places : List (List ℕ × ℕ)) (image : Image) (lines : List Line) (final : Image) : Type 0 where
  pub labels : final.labels ≡ places
  pub rest : List ℕ
  pub words : final.words ≡ image.words ++ rest
  pub spells : Spells places (4 * length image.words) lines rest
  pub keys : keys places ≡ keys image.labels ++ line_labels lines

spells_step : (places : List (List ℕ × ℕ)) (here : ℕ) (line : Line) (lines : List Line) (code : Code) (rest : List ℕ) → code_of places here line.body ≡ Ok code
    → StandsAt places here line.label → Spells places (here + 4 * length (words_in code)) lines rest → Spells places here (line ∷ lines) (words_in code ++ rest)
spells_step places here line lines code rest h k more = (code, rest, h, refl, k, more)

joined_step : (final front words rest : List ℕ) → final ≡ (front ++ words) ++ rest → final ≡ front ++ (words ++ rest)
joined_step final front words rest h = h ∙ append_assoc front words rest

keys_step : (label : Option (List ℕ)) (here : ℕ) (labels places : List (List ℕ × ℕ)) (rest : List (List ℕ)) → stood label labels ≡ false
    → keys places ≡ keys (labelled label here labels) ++ rest → keys places ≡ keys labels ++ cons_option label rest
keys_step label here labels places rest h e = e ∙ label_keys_by label here labels rest h

size_is : (known : List (List ℕ × ℕ)) (image : Image) (line : Line) (code : Code) → stood line.label image.labels ≡ false
    → size_by (code_of known 0 line.body) ≡ length (words_in code) → size_of known image.labels line ≡ length (words_in code)
size_is known image line code h e = ap (λ (b : Bool). size_by (checked b (code_of known 0 line.body))) h ∙ e

finishes : (lines : List Line) (known places : List (List ℕ × ℕ)) (image final : Image) → Covers known places
    → places_after known image.labels (4 * length image.words) lines ≡ places → image_after places image lines ≡ Ok final → Finishes places image lines final
finishes [] known places image final c p h =
    let same : image ≡ final = cc in
    record {
      labels = ap (λ (i : Image). i.labels) (sym same) ∙ p;
      rest = [];
      words = ap (λ (i : Image). i.words) (sym same) ∙ sym (append-nil image.words);
      spells = refl;
      keys = ap keys (sym p) ∙ sym (append-nil (keys image.labels));
    }
finishes (line ∷ lines) known places image final c p h =
    let here = 4 * length image.words in
    let step = and_then_ok (grown image line (line_code places image line)) (λ next. image_after places next lines) final h in
    let grows = grown_ok image line (line_code places image line) step.0 step.1 in
    let code : Code = grows.0 in
    let next : Image = next_image image line code in
    let bounded = limited_ok (length image.words) (checked (stood line.label image.labels) (code_of places here line.body)) code grows.1 in
    let clean = checked_ok (stood line.label image.labels) (code_of places here line.body) code bounded.0 in
    let size = size_is known image line code clean.0 (body_size known places c here line.body code clean.1) in
    let long : length next.words ≡ length image.words + length (words_in code) = length-append image.words (words_in code) in
    let limit : length image.words + length (words_in code) ≤ 16384 = bounded.1 in
    let after : (here + 4 * size_of known image.labels line) % 2 ^ 32 ≡ 4 * length next.words = omega (arith, size, long, limit) in
    let there : places_after known next.labels (4 * length next.words) lines ≡ places =
    ap (λ (n : ℕ). places_after known next.labels n lines) (sym after) ∙ p in
    let more = finishes lines known places next final c there (ap (λ (i : Image). image_after places i lines) (sym grows.2) ∙ step.2) in
    let address : 4 * length next.words ≡ here + 4 * length (words_in code) = omega (arith, long) in
    record {
      labels = more.labels;
      rest = words_in code ++ more.rest;
      words = joined_step final.words image.words (words_in code) more.rest more.words;
      spells = spells_step places here line lines code more.rest clean.1
          (new_label line.label here image.labels places known (4 * length next.words) lines clean.0 there)
          (subst (λ (n : ℕ). Spells places n lines more.rest) address more.spells);
      keys = keys_step line.label here image.labels places (line_labels lines) clean.0 more.keys;
    }

pub is_assembled : (lines : List Line) (image : Image) → image_of lines ≡ Ok image → IsAssembled lines image
is_assembled lines image h =
    let known = known_after [] lines in
    let whole = finishes lines known (places_of lines) empty_image image (cover_all lines known) refl h in
    let words : image.words ≡ whole.rest = whole.words in
    let spells : Spells (places_of lines) 0 lines image.words = subst (λ (ws : List ℕ). Spells (places_of lines) 0 lines ws) (sym words) whole.spells in
    record {
      words = subst (λ (ls : List (List ℕ × ℕ)). Spells ls 0 lines image.words) (sym whole.labels) spells;
      labels = ap keys whole.labels ∙ whole.keys;
    }

pub gives_assembled : (r : Result Image (Stop (Fault AsmKind))) (lines : List Line) → Gives r (image_of lines) → IfOk r (λ image. IsAssembled lines image)
gives_assembled (Ok image) lines h = is_assembled lines image h
gives_assembled (Err stop) lines h = tt
