-- The words of a line.
use Rattle.std.proofs.Common.{◌≡◌, ℕ, ◌+◌, ◌-◌, ◌<◌, ◌≤◌, suc, true, false, List, [], ◌∷◌, length, take, drop, get_or, filter, refl, sym, ap, ◌∙◌, ⊎_elim, one-add, add-one, arith, length-drop, length-take, drop-cons}
use Rattle.std.specs.List.{before_first, after_first, position_or_len, prefix_len, slice_split}
use Rattle.std.proofs.lemmas.Bool.{cases_Bool, cases_lt}
use Rattle.std.proofs.lemmas.Grind.{common_steps}
use Rattle.std.proofs.lemmas.List.{take_rest}
use Rattle.std.proofs.lemmas.List.Splits.{slice_split_first}
use Rattle.std.proofs.lemmas.List.Sums.{passes_at_first}
use Rattle.tn_text.proofs.Parts.{split_whole}
use Rattle.tn_text.specs.Content.{is_space, without_front_spaces}
use Rattle.tn_text.specs.Words.{is_some_text, words_of, StartsWord}

is_some_text-from : (xs : List ℕ) → 0 < length xs → is_some_text xs ≡ true
is_some_text-from [] h = absurd (omega arith)
is_some_text-from (x ∷ xs) h = refl

filter-some : (w : List ℕ) (ws : List (List ℕ)) → 0 < length w → filter is_some_text (w ∷ ws) ≡ w ∷ filter is_some_text ws
filter-some w ws h = let e = is_some_text-from w h in rw e refl

words_of-space : (b : ℕ) (bs : List ℕ) → is_space b ≡ true → words_of (b ∷ bs) ≡ words_of bs
words_of-space b bs e = rw e refl

front_space : (b : ℕ) (bs : List ℕ) → is_space b ≡ true → without_front_spaces (b ∷ bs) ≡ without_front_spaces bs
front_space b bs e = rw (e, one-add) refl

front_byte : (b : ℕ) (bs : List ℕ) → is_space b ≡ false → without_front_spaces (b ∷ bs) ≡ b ∷ bs
front_byte b bs e = rw e refl

pub words_of-front : (bs : List ℕ) → words_of (without_front_spaces bs) ≡ words_of bs
words_of-front [] = refl
words_of-front (b ∷ bs) =
    ⊎_elim (λ e. ap words_of (front_space b bs e) ∙ words_of-front bs ∙ sym (words_of-space b bs e))
    (λ e. ap words_of (front_byte b bs e)) (cases_Bool (is_space b))

front_first : (bs : List ℕ) (b : ℕ) (xs : List ℕ) → without_front_spaces bs ≡ b ∷ xs → is_space b ≡ false
front_first [] b xs e = cc
front_first (c ∷ cs) b xs e =
    ⊎_elim (λ s. front_first cs b xs (sym (front_space c cs s) ∙ e))
    (λ s. let f : c ∷ cs ≡ b ∷ xs = sym (front_byte c cs s) ∙ e in cc) (cases_Bool (is_space c))

words_whole : (xs : List ℕ) → 0 < length xs → length xs ≤ position_or_len is_space xs
    → words_of xs ≡ before_first is_space xs ∷ words_of (drop (position_or_len is_space xs) xs)
words_whole xs some h =
    let e : take (position_or_len is_space xs) xs ≡ xs = grind (arith, common_steps) in
    let f : drop (position_or_len is_space xs) xs ≡ [] = grind (arith, common_steps) in
    let g = split_whole is_space xs h in
    rw (e, f, g) (filter-some xs [] some)

words_parted : (xs : List ℕ) → 0 < position_or_len is_space xs → position_or_len is_space xs < length xs
    → words_of xs ≡ before_first is_space xs ∷ words_of (drop (position_or_len is_space xs) xs)
words_parted xs pos h =
    let n = position_or_len is_space xs in
    let e : slice_split is_space xs ≡ before_first is_space xs ∷ slice_split is_space (after_first is_space xs) = slice_split_first is_space xs 0 h in
    let f : drop n xs ≡ get_or xs n 0 ∷ drop (suc n) xs = drop-cons xs n 0 h in
    let s : is_space (get_or xs n 0) ≡ true = passes_at_first is_space xs 0 h in
    let long : 0 < length (before_first is_space xs) = omega (arith, length-take n xs) in
    let front = filter-some (before_first is_space xs) (slice_split is_space (after_first is_space xs)) long in
    let back : words_of (drop n xs) ≡ words_of (drop (suc n) xs) = ap words_of f ∙ words_of-space (get_or xs n 0) (drop (suc n) xs) s in
    let same : words_of (drop (n + 1) xs) ≡ words_of (drop (suc n) xs) = rw add-one refl in
    ap (filter is_some_text) e ∙ front ∙ ap (λ (ws : List (List ℕ)). before_first is_space xs ∷ ws) (same ∙ sym back)

words_first : (b : ℕ) (bs : List ℕ) → is_space b ≡ false
    → words_of (b ∷ bs) ≡ before_first is_space (b ∷ bs) ∷ words_of (drop (position_or_len is_space (b ∷ bs)) (b ∷ bs))
words_first b bs s =
    let pos : 0 < position_or_len is_space (b ∷ bs) = rw s (omega arith) in
    ⊎_elim (λ h. words_parted (b ∷ bs) pos h) (λ h. words_whole (b ∷ bs) (omega arith) h)
    (cases_lt (position_or_len is_space (b ∷ bs)) (length (b ∷ bs)))

words_start : (start line : List ℕ) → start ≡ without_front_spaces line → 0 < length start
    → words_of start ≡ before_first is_space start ∷ words_of (drop (position_or_len is_space start) start)
words_start [] line e some = absurd (omega arith)
words_start (b ∷ bs) line e some = words_first b bs (front_first line b bs (sym e))

word_is_some : (start line : List ℕ) → start ≡ without_front_spaces line → 0 < length start → 0 < position_or_len is_space start
word_is_some [] line e some = absurd (omega arith)
word_is_some (b ∷ bs) line e some = let s = front_first line b bs (sym e) in rw s (omega arith)

pub starts_word : (line start : List ℕ) (n : ℕ) → start ≡ without_front_spaces line → 0 < length start → n ≡ position_or_len is_space start
    → n ≤ length start → StartsWord line (take n start) (take (length start - n) (drop n start))
starts_word line start n e some p within =
    let rest : take (length start - n) (drop n start) ≡ drop n start = take_rest start n in
    let len : length (take n start) ≡ n = omega (arith, length-take n start) in
    let pos = word_is_some start line e some in
    let all : words_of line ≡ words_of start = sym (words_of-front line) ∙ ap words_of (sym e) in
    record {
      word_is = rw (p, e) refl;
      rest_is = rest ∙ rw (len, e) refl;
      words = all ∙ words_start start line e some ∙ rw (rest, p) refl;
      shorter = omega (arith, ap length rest, length-drop n start, ap length e, length-drop (prefix_len is_space line) line);
    }

pub no_word : (line : List ℕ) → without_front_spaces line ≡ [] → words_of line ≡ []
no_word line e = sym (words_of-front line) ∙ ap words_of e
