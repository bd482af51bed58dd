-- What a line's content is.
use Rattle.std.proofs.Common.{◌≡◌, ℕ, ◌+◌, ◌-◌, ◌<◌, ◌≤◌, zero, suc, Bool, true, false, not, List, [], ◌∷◌, length, take, drop, reverse, get_or, filter, refl, sym, ap, ◌∙◌, ⊎_elim, arith, one-add, take_all, codes}
use Rattle.std.specs.List.{list_all, list_any, prefix_len, suffix_len, slice_split, AllByRecursion}
use Rattle.std.specs.Str.{bytes_eq}
use Rattle.std.proofs.lemmas.Bool.{cases_Bool, cases_lt, and_parts, and_from, or_from, not-true}
use Rattle.std.proofs.lemmas.Bool.Decides.{nat_tests}
use Rattle.std.proofs.lemmas.List.{length-reverse, get_or-reverse}
use Rattle.std.proofs.lemmas.List.Sums.{suffix_len-take_no, suffix_len-le-length, prefix_len_stops}
use Rattle.tn_text.specs.Lines.{is_feed}
use Rattle.tn_text.specs.Content.{is_space, is_hash, may_stand, before_comment, content_of, trimmed, without_front_spaces, without_back_spaces, is_plain}
use Rattle.tn_text.specs.Words.{is_some_text, words_of}
use Rattle.job_text.specs.WellFormed.{IsTextLine}

all_take : (p : ℕ → Bool) (n : ℕ) (xs : List ℕ) → list_all p xs ≡ true → list_all p (take n xs) ≡ true
all_take p zero xs h = refl
all_take p (suc n) [] h = refl
all_take p (suc n) (x ∷ xs) h =
    let both = and_parts (p x) (list_all p xs) h in and_from (p x) (list_all p (take n xs)) both.0 (all_take p n xs both.1)

all_drop : (p : ℕ → Bool) (n : ℕ) (xs : List ℕ) → list_all p xs ≡ true → list_all p (drop n xs) ≡ true
all_drop p zero xs h = h
all_drop p (suc n) [] h = refl
all_drop p (suc n) (x ∷ xs) h = all_drop p n xs (and_parts (p x) (list_all p xs) h).1

all_trimmed : (p : ℕ → Bool) (xs : List ℕ) → list_all p xs ≡ true → list_all p (trimmed xs) ≡ true
all_trimmed p xs h =
    let y = without_front_spaces xs in
    all_take p (length y - suffix_len is_space y) y (all_drop p (prefix_len is_space xs) xs h)

prefix_yes : (p : ℕ → Bool) (x : ℕ) (xs : List ℕ) → p x ≡ true → prefix_len p (x ∷ xs) ≡ suc (prefix_len p xs)
prefix_yes p x xs e = rw (e, one-add) refl

prefix_no : (p : ℕ → Bool) (x : ℕ) (xs : List ℕ) → p x ≡ false → prefix_len p (x ∷ xs) ≡ 0
prefix_no p x xs e = rw e refl

-- the front that passes passes
all_prefix : (p : ℕ → Bool) (xs : List ℕ) → list_all p (take (prefix_len p xs) xs) ≡ true
all_prefix p [] = refl
all_prefix p (x ∷ xs) =
    ⊎_elim (λ e. ap (λ (n : ℕ). list_all p (take n (x ∷ xs))) (prefix_yes p x xs e) ∙ and_from (p x) (list_all p (take (prefix_len p xs) xs)) e (all_prefix p xs))
    (λ e. ap (λ (n : ℕ). list_all p (take n (x ∷ xs))) (prefix_no p x xs e)) (cases_Bool (p x))

abbrev pub no_hash : ℕ → Bool
no_hash b = not (is_hash b)

hashless : (xs : List ℕ) → list_all no_hash xs ≡ true → before_comment xs ≡ xs
hashless [] h = refl
hashless (x ∷ xs) h =
    let both = and_parts (no_hash x) (list_all no_hash xs) h in
    let e = not-true (is_hash x) both.0 in
    let more = hashless xs both.1 in
    rw (e, one-add) (ap (λ (ys : List ℕ). x ∷ ys) more)

may_feed : (b : ℕ) → may_stand b ≡ true → is_feed b ≡ false
may_feed b h = grind (arith, nat_tests)

all_may : (xs : List ℕ) → list_all may_stand xs ≡ true → list_any is_feed xs ≡ false
all_may [] h = refl
all_may (x ∷ xs) h =
    let both = and_parts (may_stand x) (list_all may_stand xs) h in
    or_from (is_feed x) (list_any is_feed xs) (may_feed x both.0) (all_may xs both.1)

-- spaces at the front

front_gone : (xs : List ℕ) → prefix_len is_space (without_front_spaces xs) ≡ 0
front_gone [] = refl
front_gone (x ∷ xs) =
    ⊎_elim (λ e. ap (λ (n : ℕ). prefix_len is_space (drop n (x ∷ xs))) (prefix_yes is_space x xs e) ∙ front_gone xs)
    (λ e. ap (λ (n : ℕ). prefix_len is_space (drop n (x ∷ xs))) (prefix_no is_space x xs e) ∙ prefix_no is_space x xs e) (cases_Bool (is_space x))

front_take : (n : ℕ) (xs : List ℕ) → prefix_len is_space xs ≡ 0 → prefix_len is_space (take n xs) ≡ 0
front_take zero xs h = refl
front_take (suc n) [] h = refl
front_take (suc n) (x ∷ xs) h =
    ⊎_elim (λ e. let k : 1 + prefix_len is_space xs ≡ 0 = rw e at h in absurd (omega (arith, k))) (λ e. rw e refl) (cases_Bool (is_space x))

trimmed_at : (z : List ℕ) → prefix_len is_space z ≡ 0 → suffix_len is_space z ≡ 0 → trimmed z ≡ z
trimmed_at z f b = rw (f, b) (take_all (length z - 0) z (omega arith))

-- spaces at the back

back_at : (xs : List ℕ) (k : ℕ) → k ≡ suffix_len is_space xs → k < length xs → is_space (get_or xs (length xs - k - 1) 0) ≡ false
back_at xs k e h =
    let long = length-reverse xs in
    let within : prefix_len is_space (reverse xs) < length (reverse xs) = omega (arith, e, long) in
    let stop = prefix_len_stops is_space (reverse xs) 0 within in
    let there : get_or (reverse xs) k 0 ≡ get_or xs (length xs - 1 - k) 0 = get_or-reverse xs k 0 h in
    let same : length xs - k - 1 ≡ length xs - 1 - k = omega arith in
    let stop' : is_space (get_or (reverse xs) k 0) ≡ false = rw e stop in
    ap (λ (i : ℕ). is_space (get_or xs i 0)) same ∙ ap is_space (sym there) ∙ stop'

back_by : (xs : List ℕ) (k : ℕ) → k ≡ suffix_len is_space xs → k ≤ length xs → suffix_len is_space (take (length xs - k) xs) ≡ 0
back_by xs k e h =
    ⊎_elim (λ lt. suffix_len-take_no is_space xs (length xs - k) 0 (omega arith) (omega arith) (back_at xs k e lt))
    (λ ge. let none : length xs - k ≡ 0 = omega arith in rw none refl) (cases_lt k (length xs))

back_gone : (xs : List ℕ) → suffix_len is_space (without_back_spaces xs) ≡ 0
back_gone xs = back_by xs (suffix_len is_space xs) refl (suffix_len-le-length is_space xs)

trimmed_again : (xs : List ℕ) → trimmed (trimmed xs) ≡ trimmed xs
trimmed_again xs =
    let y = without_front_spaces xs in
    let z = without_back_spaces y in
    let front : prefix_len is_space z ≡ 0 = front_take (length y - suffix_len is_space y) y (front_gone xs) in
    let back : suffix_len is_space z ≡ 0 = back_gone y in
    trimmed_at z front back

pub content_good : (l : List ℕ) → is_plain l ≡ true → bytes_eq (content_of l) (codes "end") ≡ false → IsTextLine (content_of l)
content_good l h goes_on =
    let b = before_comment l in
    let c = trimmed b in
    let may = all_trimmed may_stand b h in
    let hashes : list_all no_hash b ≡ true = all_prefix no_hash l in
    let bare : before_comment c ≡ c = hashless c (all_trimmed no_hash b hashes) in
    record {
      one_line = all_may c may;
      plain = ap (list_all may_stand) bare ∙ may;
      content = ap trimmed bare ∙ trimmed_again b;
      goes_on = goes_on;
    }

some_filter : (xs : List (List ℕ)) → AllByRecursion (λ w. is_some_text w ≡ true) (filter is_some_text xs)
some_filter [] = tt
some_filter (x ∷ xs) =
    ⊎_elim (λ e. let more : (is_some_text x ≡ true) × AllByRecursion (λ w. is_some_text w ≡ true) (filter is_some_text xs) = (e, some_filter xs) in rw e more)
    (λ e. let more = some_filter xs in rw e more) (cases_Bool (is_some_text x))

pub words_some : (l : List ℕ) → AllByRecursion (λ w. is_some_text w ≡ true) (words_of l)
words_some l = some_filter (slice_split is_space l)
