-- Lines of words, and what reading makes of them.
use Rattle.std.proofs.Common.{◌≡◌, ℕ, ◌-◌, Bool, true, false, not, ◌&&◌, ◌||◌, leb, eqb, List, [], ◌∷◌, ◌++◌, length, reverse, filter, flat_map, refl, sym, subst, ap, ◌∙◌, ◌<◌, ◌+◌, take, drop, arith, take_all, append-nil, append_assoc, one-add}
use Rattle.std.specs.List.{list_all, prefix_len, suffix_len, slice_split, onto_first}
use Rattle.std.proofs.lemmas.Bool.{and_parts, and_from}
use Rattle.std.proofs.lemmas.Bool.Decides.{nat_tests}
use Rattle.std.proofs.lemmas.Grind.{common_steps}
use Rattle.std.proofs.lemmas.List.{reverse-append}
use Rattle.std.proofs.lemmas.List.Folds.{list_all-append}
use Rattle.std.proofs.lemmas.List.Splits.{slice_split-cons_no}
use Rattle.tn_text.specs.Lines.{is_feed, lines_of}
use Rattle.tn_text.specs.Content.{is_space, is_hash, may_stand, before_comment, content_of, trimmed, is_plain, without_back_spaces, without_front_spaces}
use Rattle.tn_text.specs.Words.{is_some_text, words_of, spaced}
use Rattle.tn_text.proofs.FirstLine.{lines_of-parted}
use Rattle.tn_text.proofs.Parts.{lacks_all}

-- a byte of a word: none that a reader passes over
abbrev pub clean : ℕ → Bool
clean b = leb 33 b && leb b 126 && not (eqb b 35)

abbrev pub line_byte : ℕ → Bool
line_byte b = clean b || eqb b 32

abbrev pub ends_clean : List ℕ → Bool
ends_clean [] = false
ends_clean (b ∷ []) = clean b
ends_clean (b ∷ c ∷ cs) = ends_clean (c ∷ cs)

abbrev pub begins_clean : List ℕ → Bool
begins_clean [] = false
begins_clean (b ∷ bs) = clean b

pub record IsLine (l : List ℕ) : Type 0 where
  pub bytes : list_all line_byte l ≡ true
  pub begins : begins_clean l ≡ true
  pub ends : ends_clean l ≡ true

pub record IsWord (w : List ℕ) : Type 0 where
  pub bytes : list_all clean w ≡ true
  pub some : is_some_text w ≡ true

-- a test that passes where another does
pub all_pass : (p q : ℕ → Bool) → ((b : ℕ) → p b ≡ true → q b ≡ true) → (w : List ℕ) → list_all p w ≡ true → list_all q w ≡ true
all_pass p q f [] h = refl
all_pass p q f (b ∷ bs) h = let both = and_parts (p b) (list_all p bs) h in and_from (q b) (list_all q bs) (f b both.0) (all_pass p q f bs both.1)

clean-space : (b : ℕ) → clean b ≡ true → is_space b ≡ false
clean-space b h = grind (arith, nat_tests)

line_byte-feed : (b : ℕ) → line_byte b ≡ true → is_feed b ≡ false
line_byte-feed b h = grind (arith, nat_tests)

line_byte-hash : (b : ℕ) → line_byte b ≡ true → is_hash b ≡ false
line_byte-hash b h = grind (arith, nat_tests)

line_byte-may : (b : ℕ) → line_byte b ≡ true → may_stand b ≡ true
line_byte-may b h = grind (arith, nat_tests)

clean-line_byte : (b : ℕ) → clean b ≡ true → line_byte b ≡ true
clean-line_byte b h = rw h refl

pub lines_of-line : (l rest : List ℕ) → list_all line_byte l ≡ true → lines_of (l ++ 10 ∷ rest) ≡ l ∷ lines_of rest
lines_of-line [] rest h = refl
lines_of-line (b ∷ bs) rest h =
    let both = and_parts (line_byte b) (list_all line_byte bs) h in
    let e = line_byte-feed b both.0 in
    let more = lines_of-line bs rest both.1 in
    rw (e, more) refl

no_hash : (l : List ℕ) → list_all line_byte l ≡ true → before_comment l ≡ l
no_hash [] h = refl
no_hash (b ∷ bs) h =
    let both = and_parts (line_byte b) (list_all line_byte bs) h in
    let e = line_byte-hash b both.0 in
    let more = no_hash bs both.1 in
    rw (e, one-add) (ap (λ (xs : List ℕ). b ∷ xs) more)

pub plain_line : (l : List ℕ) → IsLine l → is_plain l ≡ true
plain_line l h = let e = no_hash l h.bytes in rw e (all_pass line_byte may_stand line_byte-may l h.bytes)

last_of : (l : List ℕ) → ends_clean l ≡ true → (ys : List ℕ) × (z : ℕ) × (l ≡ ys ++ z ∷ []) × (clean z ≡ true)
last_of [] h = cc
last_of (b ∷ []) h = ([], b, refl, h)
last_of (b ∷ c ∷ cs) h = let r = last_of (c ∷ cs) h in (b ∷ r.0, r.1, ap (λ (xs : List ℕ). b ∷ xs) r.2, r.3)

no_back_space : (l : List ℕ) → ends_clean l ≡ true → suffix_len is_space l ≡ 0
no_back_space l h =
    let r = last_of l h in
    let e : reverse l ≡ r.1 ∷ reverse r.0 = ap reverse r.2 ∙ reverse-append r.0 (r.1 ∷ []) in
    let s = clean-space r.1 r.3 in
    rw (e, s) refl

no_front_space : (l : List ℕ) → begins_clean l ≡ true → prefix_len is_space l ≡ 0
no_front_space [] h = refl
no_front_space (b ∷ bs) h = let s = clean-space b h in rw s refl

pub without_front_is : (l : List ℕ) → IsLine l → without_front_spaces l ≡ l
without_front_is l h = let f = no_front_space l h.begins in rw f refl

pub trimmed_line : (l : List ℕ) → IsLine l → trimmed l ≡ l
trimmed_line l h =
    let f = no_front_space l h.begins in
    let b = no_back_space l h.ends in
    rw (f, b) (take_all (length l - 0) l (omega arith))

pub content_line_is : (l : List ℕ) → IsLine l → content_of l ≡ l
content_line_is l h = let e = no_hash l h.bytes in ap trimmed e ∙ trimmed_line l h

after_space : (l : List ℕ) → without_front_spaces (32 ∷ l) ≡ without_front_spaces l
after_space l = rw one-add refl

pub trimmed_behind : (l : List ℕ) → IsLine l → trimmed (32 ∷ l) ≡ l
trimmed_behind l h = ap without_back_spaces (after_space l) ∙ trimmed_line l h

pub some_bytes : (l : List ℕ) → begins_clean l ≡ true → 0 < length l
some_bytes [] h = cc
some_bytes (b ∷ bs) h = omega arith

line_byte-no_feed : (b : ℕ) → line_byte b ≡ true → not (eqb b 10) ≡ true
line_byte-no_feed b h = grind (arith, nat_tests)

-- a text without a line feed is one line
pub one_line : (l : List ℕ) → IsLine l → lines_of l ≡ l ∷ []
one_line l h =
    let e = lacks_all 10 l (all_pass line_byte (λ b. not (eqb b 10)) line_byte-no_feed l h.bytes) in
    let front : take (length l) l ≡ l = take_all (length l) l (omega arith) in
    let rest : drop (length l + 1) l ≡ [] = grind (arith, common_steps) in
    lines_of-parted l (some_bytes l h.begins) ∙ rw (e, front, rest) refl

filter-word : (w : List ℕ) (ws : List (List ℕ)) → is_some_text w ≡ true → filter is_some_text (w ∷ ws) ≡ w ∷ filter is_some_text ws
filter-word w ws h = rw h refl

split_word : (w rest : List ℕ) → list_all clean w ≡ true → slice_split is_space (w ++ 32 ∷ rest) ≡ w ∷ slice_split is_space rest
split_word [] rest h = refl
split_word (b ∷ bs) rest h =
    let both = and_parts (clean b) (list_all clean bs) h in
    slice_split-cons_no is_space b (bs ++ 32 ∷ rest) (clean-space b both.0) ∙ ap (onto_first b) (split_word bs rest both.1)

split_last : (w : List ℕ) → list_all clean w ≡ true → slice_split is_space w ≡ w ∷ []
split_last [] h = refl
split_last (b ∷ bs) h =
    let both = and_parts (clean b) (list_all clean bs) h in
    slice_split-cons_no is_space b bs (clean-space b both.0) ∙ ap (onto_first b) (split_last bs both.1)

abbrev pub AreWords : List (List ℕ) → Type 0
AreWords [] = Unit {0}
AreWords (w ∷ ws) = IsWord w × AreWords ws

pub words_of-line : (w : List ℕ) (ws : List (List ℕ)) → IsWord w → AreWords ws → words_of (w ++ flat_map spaced ws) ≡ w ∷ ws
words_of-line w [] h hs =
    ap words_of (append-nil w) ∙ ap (filter is_some_text) (split_last w h.bytes) ∙ filter-word w [] h.some
words_of-line w (v ∷ vs) h hs =
    ap (filter is_some_text) (split_word w (v ++ flat_map spaced vs) h.bytes)
    ∙ filter-word w (slice_split is_space (v ++ flat_map spaced vs)) h.some
    ∙ ap (λ (xs : List (List ℕ)). w ∷ xs) (words_of-line v vs hs.0 hs.1)

clean_line_bytes : (w : List ℕ) → list_all clean w ≡ true → list_all line_byte w ≡ true
clean_line_bytes w h = all_pass clean line_byte clean-line_byte w h

line_bytes : (w : List ℕ) (ws : List (List ℕ)) → IsWord w → AreWords ws → list_all line_byte (w ++ flat_map spaced ws) ≡ true
line_bytes w [] h hs = ap (list_all line_byte) (append-nil w) ∙ clean_line_bytes w h.bytes
line_bytes w (v ∷ vs) h hs =
    list_all-append line_byte w (32 ∷ (v ++ flat_map spaced vs))
    ∙ and_from (list_all line_byte w) (list_all line_byte (v ++ flat_map spaced vs)) (clean_line_bytes w h.bytes) (line_bytes v vs hs.0 hs.1)

ends_clean-append : (xs ys : List ℕ) → ends_clean ys ≡ true → ends_clean (xs ++ ys) ≡ true
ends_clean-append [] ys h = h
ends_clean-append (x ∷ []) [] h = cc
ends_clean-append (x ∷ []) (y ∷ ys) h = h
ends_clean-append (x ∷ z ∷ zs) ys h = ends_clean-append (z ∷ zs) ys h

word_ends : (w : List ℕ) → list_all clean w ≡ true → is_some_text w ≡ true → ends_clean w ≡ true
word_ends [] h s = s
word_ends (b ∷ []) h s = (and_parts (clean b) true h).0
word_ends (b ∷ c ∷ cs) h s = word_ends (c ∷ cs) (and_parts (clean b) (list_all clean (c ∷ cs)) h).1 refl

line_ends : (w : List ℕ) (ws : List (List ℕ)) → IsWord w → AreWords ws → ends_clean (w ++ flat_map spaced ws) ≡ true
line_ends w [] h hs = ap ends_clean (append-nil w) ∙ word_ends w h.bytes h.some
line_ends w (v ∷ vs) h hs =
    let more : ends_clean (32 ∷ (v ++ flat_map spaced vs)) ≡ true = ends_clean-append (32 ∷ []) (v ++ flat_map spaced vs) (line_ends v vs hs.0 hs.1) in
    ends_clean-append w (32 ∷ (v ++ flat_map spaced vs)) more

line_begins : (w rest : List ℕ) → IsWord w → begins_clean (w ++ rest) ≡ true
line_begins [] rest h = let e = h.some in cc
line_begins (b ∷ bs) rest h = (and_parts (clean b) (list_all clean bs) h.bytes).0

pub line_of_words : (w : List ℕ) (ws : List (List ℕ)) → IsWord w → AreWords ws → IsLine (w ++ flat_map spaced ws)
line_of_words w ws h hs = record {
  bytes = line_bytes w ws h hs;
  begins = line_begins w (flat_map spaced ws) h;
  ends = line_ends w ws h hs;
}

pub word_line : (w : List ℕ) → IsWord w → IsLine w
word_line w h = subst IsLine (append-nil w) (line_of_words w [] h tt)

-- words as texts are printed

pub spaced_one : (w a : List ℕ) → w ++ spaced a ≡ w ++ flat_map spaced (a ∷ [])
spaced_one w a = ap (λ (xs : List ℕ). w ++ 32 ∷ xs) (sym (append-nil a))

pub spaced_two : (w a b : List ℕ) → w ++ spaced a ++ spaced b ≡ w ++ flat_map spaced (a ∷ b ∷ [])
spaced_two w a b = append_assoc w (spaced a) (spaced b) ∙ ap (λ (xs : List ℕ). w ++ (spaced a ++ 32 ∷ xs)) (sym (append-nil b))

pub spaced_three : (w a b c : List ℕ) → w ++ spaced a ++ spaced b ++ spaced c ≡ w ++ flat_map spaced (a ∷ b ∷ c ∷ [])
spaced_three w a b c =
    append_assoc (w ++ spaced a) (spaced b) (spaced c) ∙ append_assoc w (spaced a) (spaced b ++ spaced c)
    ∙ ap (λ (xs : List ℕ). w ++ (spaced a ++ (spaced b ++ 32 ∷ xs))) (sym (append-nil c))
