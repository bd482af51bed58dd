-- Where clap takes the words of a command with one argument or two, they are no more than that, and clap gives these words.
use Rattle.std.proofs.Common.{◌≡◌, ◌∙◌, ℕ, false, List, [], ◌∷◌, ◌++◌, codes, refl, ap, Option, Some, None, bytes_eq, fold, inl, inr, slice_get}
use Rattle.std.specs.Option.{is_some}
use Rattle.std.specs.Str.{chars}
use Rattle.clap.specs.Faults.{entered_fault, fault_of, turn_fault}
use Rattle.clap.specs.Lexer.{long_of, short_of}
use Rattle.clap.specs.Simple.{App, Shape, built, entered, filled, matches_of, with_index}
use Rattle.clap.specs.Walk.{Row, Rule, Text, Walk, first_of, has_row, idle, reading_by, walked, with_default}
use Rattle.clap.proofs.OnLiterals.{clap_on_literals}
use Rattle.tn_words.specs.Forms.{follow_of, wire_of}
use Rattle.tn_words.specs.Parsers.{first_rule, follow_told, one_app, second_rule, two_app, wire_told}
use Rattle.tn_words.proofs.Dashes.{NoDashes}
use Rattle.tn_words.proofs.GivenRows.{new_row, same_rows}
use Rattle.tn_words.proofs.Looks.{Look, look}
use Rattle.tn_words.proofs.Turns.{OneMore, Passes, Pending, last_rows, level_passes, one_more, turn_of, walk_at}

-- how many arguments the command has
pub data Count : Type 0 where
  one : Count
  two : Count

abbrev app : Count → App
app one = one_app
app two = two_app

abbrev shape : Count → Shape
shape n = (built (app n)).top

abbrev first : Rule
first = with_index 1 (filled first_rule)

abbrev second : Rule
second = with_index 2 (filled second_rule)

abbrev fid : Text
fid = codes "first"

abbrev sid : Text
sid = codes "second"

abbrev start : Walk
start = walk_at [] None idle 1

abbrev after_one : Text → Walk
after_one a = walk_at [] (Some (fid, a ∷ [])) idle 2

abbrev first_row : Text → List Row
first_row a = new_row fid (reading_by first) (a ∷ [])

abbrev after_two : Text → Text → Walk
after_two a b = walk_at (first_row a) (Some (sid, b ∷ [])) idle 3

-- A word that is no flag.

pub record IsValue (w : Text) : Type 0 where
  pub first_step : (n : Count) → walked (shape n).rules [] start w ≡ after_one w
  pub second_step : (a : Text) → walked (shape two).rules [] (after_one a) w ≡ after_two a w
  pub second_refused : (a : Text) → turn_fault (shape one) [] (after_one a) w ≡ [] → ⊥
  pub third_refused : (a b : Text) → turn_fault (shape two) [] (after_two a b) w ≡ [] → ⊥

plain_first : (n : Count) (w : Text) → bytes_eq w (codes "--") ≡ false → long_of w ≡ None → short_of w ≡ None → walked (shape n).rules [] start w ≡ after_one w
unfolding clap_on_literals
plain_first one w d l e = rw (d, l, e) refl
plain_first two w d l e = rw (d, l, e) refl

plain_second : (a w : Text) → bytes_eq w (codes "--") ≡ false → long_of w ≡ None → short_of w ≡ None → walked (shape two).rules [] (after_one a) w ≡ after_two a w
unfolding clap_on_literals
plain_second a w d l e = rw (d, l, e) refl

plain_no_second : (a w : Text) → bytes_eq w (codes "--") ≡ false → long_of w ≡ None → short_of w ≡ None → turn_fault (shape one) [] (after_one a) w ≡ [] → ⊥
unfolding clap_on_literals
plain_no_second a w d l e h = let k = rw (d, l, e) at h in cc k

plain_no_third : (a b w : Text) → bytes_eq w (codes "--") ≡ false → long_of w ≡ None → short_of w ≡ None → turn_fault (shape two) [] (after_two a b) w ≡ [] → ⊥
unfolding clap_on_literals
plain_no_third a b w d l e h = let k = rw (d, l, e) at h in cc k

plain_value : (w : Text) → bytes_eq w (codes "--") ≡ false → long_of w ≡ None → short_of w ≡ None → IsValue w
plain_value w d l e = record {
  first_step = λ n. plain_first n w d l e;
  second_step = λ a. plain_second a w d l e;
  second_refused = λ a. plain_no_second a w d l e;
  third_refused = λ a b. plain_no_third a b w d l e;
}

-- a hyphen and what begins no character: no word is that, but lists of bytes are
empty_first : (n : Count) (w : Text) (f : ℕ) (fs : Text) → bytes_eq w (codes "--") ≡ false → long_of w ≡ None → short_of w ≡ Some (f ∷ fs) → slice_get (chars (f ∷ fs)) 0 ≡ None → walked (shape n).rules [] start w ≡ after_one w
unfolding clap_on_literals
empty_first one w f fs d l e c = rw (d, l, e, c) refl
empty_first two w f fs d l e c = rw (d, l, e, c) refl

empty_second : (a w : Text) (f : ℕ) (fs : Text) → bytes_eq w (codes "--") ≡ false → long_of w ≡ None → short_of w ≡ Some (f ∷ fs) → slice_get (chars (f ∷ fs)) 0 ≡ None → walked (shape two).rules [] (after_one a) w ≡ after_two a w
unfolding clap_on_literals
empty_second a w f fs d l e c = rw (d, l, e, c) refl

empty_no_second : (a w : Text) (f : ℕ) (fs : Text) → bytes_eq w (codes "--") ≡ false → long_of w ≡ None → short_of w ≡ Some (f ∷ fs) → slice_get (chars (f ∷ fs)) 0 ≡ None → turn_fault (shape one) [] (after_one a) w ≡ [] → ⊥
unfolding clap_on_literals
empty_no_second a w f fs d l e c h = let k = rw (d, l, e, c) at h in cc k

empty_no_third : (a b w : Text) (f : ℕ) (fs : Text) → bytes_eq w (codes "--") ≡ false → long_of w ≡ None → short_of w ≡ Some (f ∷ fs) → slice_get (chars (f ∷ fs)) 0 ≡ None → turn_fault (shape two) [] (after_two a b) w ≡ [] → ⊥
unfolding clap_on_literals
empty_no_third a b w f fs d l e c h = let k = rw (d, l, e, c) at h in cc k

empty_value : (w : Text) (f : ℕ) (fs : Text) → bytes_eq w (codes "--") ≡ false → long_of w ≡ None → short_of w ≡ Some (f ∷ fs) → slice_get (chars (f ∷ fs)) 0 ≡ None → IsValue w
empty_value w f fs d l e c = record {
  first_step = λ n. empty_first n w f fs d l e c;
  second_step = λ a. empty_second a w f fs d l e c;
  second_refused = λ a. empty_no_second a w f fs d l e c;
  third_refused = λ a b. empty_no_third a b w f fs d l e c;
}

-- A flag.

long_refused : (n : Count) (R : List Row) (P : Pending) (p : ℕ) (w name : Text) (g : Option Text) → bytes_eq w (codes "--") ≡ false → long_of w ≡ Some (name, g) → turn_fault (shape n) [] (walk_at R P idle p) w ≡ [] → ⊥
unfolding clap_on_literals
long_refused one R P p w name g d l h = let k = rw (d, l) at h in cc k
long_refused two R P p w name g d l h = let k = rw (d, l) at h in cc k

short_refused : (n : Count) (R : List Row) (P : Pending) (p : ℕ) (w : Text) (f : ℕ) (fs : Text) (x : ℕ) → bytes_eq w (codes "--") ≡ false → long_of w ≡ None → short_of w ≡ Some (f ∷ fs) → slice_get (chars (f ∷ fs)) 0 ≡ Some x → turn_fault (shape n) [] (walk_at R P idle p) w ≡ [] → ⊥
unfolding clap_on_literals
short_refused one R P p w f fs x d l e c h = let k = rw (d, l, e, c) at h in cc k
short_refused two R P p w f fs x d l e c h = let k = rw (d, l, e, c) at h in cc k

pub data Word (w : Text) : Type 0 where
  is_value : IsValue w → Word w
  is_refused : ((n : Count) (R : List Row) (P : Pending) (p : ℕ) → turn_fault (shape n) [] (walk_at R P idle p) w ≡ [] → ⊥) → Word w

short_by : (w : Text) (f : ℕ) (fs : Text) (x : Option ℕ) → bytes_eq w (codes "--") ≡ false → long_of w ≡ None → short_of w ≡ Some (f ∷ fs) → slice_get (chars (f ∷ fs)) 0 ≡ x → Word w
short_by w f fs (Some x) d l e c = is_refused (λ n R P p. short_refused n R P p w f fs x d l e c)
short_by w f fs None d l e c = is_value (empty_value w f fs d l e c)

word_by : (w : Text) → bytes_eq w (codes "--") ≡ false → Look w → Word w
word_by w d (inl l) = is_refused (λ n R P p. long_refused n R P p w l.name l.given d l.looks)
word_by w d (inr (inl s)) = short_by w s.flag s.flags (slice_get (chars (s.flag ∷ s.flags)) 0) d s.no_long s.looks refl
word_by w d (inr (inr p)) = is_value (plain_value w d p.no_long p.no_short)

word_of : (w : Text) → bytes_eq w (codes "--") ≡ false → Word w
word_of w d = word_by w d (look w d)

-- The whole walk.

passes_by : (n : Count) (words : List Text) → fault_of (app n) words ≡ [] → Passes (shape n) start words
passes_by one words h =
    let stop = (fold (walked (shape one).rules []) start words).stopped in
    level_passes (shape one) words (is_some (entered (built one_app) stop)) (entered_fault (built one_app) stop) h
passes_by two words h =
    let stop = (fold (walked (shape two).rules []) start words).stopped in
    level_passes (shape two) words (is_some (entered (built two_app) stop)) (entered_fault (built two_app) stop) h

-- no argument has a default
no_defaults : (n : Count) (rows : List Row) → fold with_default rows (shape n).rules ≡ rows
no_defaults one rows = same_rows (has_row fid rows) rows
no_defaults two rows = ap (λ (xs : List Row). with_default xs second) (same_rows (has_row fid rows) rows) ∙ same_rows (has_row sid rows) rows

matches_are : (n : Count) (words : List Text) → matches_of (app n) words ≡ last_rows (shape n) start words
matches_are one words = no_defaults one (last_rows (shape one) start words)
matches_are two words = no_defaults two (last_rows (shape two) start words)

-- the first word is a value
at_first : (n : Count) (a : Text) (rest : List Text) → Word a → Passes (shape n) start (a ∷ rest) → OneMore (shape n) start (after_one a) a rest
at_first n a rest (is_value v) p = one_more (shape n) start (after_one a) a rest (v.first_step n) p
at_first n a rest (is_refused f) p = absurd (f n [] None 1 (turn_of (shape n) start a rest p))

-- a second one is, where there are two
at_second : (a b : Text) (rest : List Text) → Word b → Passes (shape two) (after_one a) (b ∷ rest) → OneMore (shape two) (after_one a) (after_two a b) b rest
at_second a b rest (is_value v) p = one_more (shape two) (after_one a) (after_two a b) b rest (v.second_step a) p
at_second a b rest (is_refused f) p = absurd (f two [] (Some (fid, a ∷ [])) 2 (turn_of (shape two) (after_one a) b rest p))

no_second : (a b : Text) (rest : List Text) → Word b → Passes (shape one) (after_one a) (b ∷ rest) → ⊥
no_second a b rest (is_value v) p = v.second_refused a (turn_of (shape one) (after_one a) b rest p)
no_second a b rest (is_refused f) p = f one [] (Some (fid, a ∷ [])) 2 (turn_of (shape one) (after_one a) b rest p)

no_third : (a b d : Text) (rest : List Text) → Word d → Passes (shape two) (after_two a b) (d ∷ rest) → ⊥
no_third a b d rest (is_value v) p = v.third_refused a b (turn_of (shape two) (after_two a b) d rest p)
no_third a b d rest (is_refused f) p = f two (first_row a) (Some (sid, b ∷ [])) 3 (turn_of (shape two) (after_two a b) d rest p)

-- where clap takes a word of `wire`, its row says what the form says
pub wire_read : (words : List Text) → NoDashes words → fault_of one_app words ≡ [] → wire_of words ≡ wire_told (first_of (codes "first") (matches_of one_app words))
wire_read [] ds h = refl
wire_read (a ∷ []) ds h =
    let m = at_first one a [] (word_of a ds.0) (passes_by one (a ∷ []) h) in
    let rows : matches_of one_app (a ∷ []) ≡ first_row a = matches_are one (a ∷ []) ∙ m.rows in
    rw rows refl
wire_read (a ∷ b ∷ rest) ds h =
    let m = at_first one a (b ∷ rest) (word_of a ds.0) (passes_by one (a ∷ b ∷ rest) h) in
    absurd (no_second a b rest (word_of b ds.1.0) m.passes)

-- where clap takes words of `follow`, its rows say what the form says
pub follow_read : (words : List Text) → NoDashes words → fault_of two_app words ≡ [] → follow_of words ≡ follow_told (first_of (codes "first") (matches_of two_app words)) (first_of (codes "second") (matches_of two_app words))
follow_read [] ds h = refl
follow_read (a ∷ []) ds h =
    let m = at_first two a [] (word_of a ds.0) (passes_by two (a ∷ []) h) in
    let rows : matches_of two_app (a ∷ []) ≡ first_row a = matches_are two (a ∷ []) ∙ m.rows in
    rw rows refl
follow_read (a ∷ b ∷ []) ds h =
    let m = at_first two a (b ∷ []) (word_of a ds.0) (passes_by two (a ∷ b ∷ []) h) in
    let k = at_second a b [] (word_of b ds.1.0) m.passes in
    let rows : matches_of two_app (a ∷ b ∷ []) ≡ first_row a ++ new_row sid (reading_by second) (b ∷ []) = matches_are two (a ∷ b ∷ []) ∙ (m.rows ∙ k.rows) in
    rw rows refl
follow_read (a ∷ b ∷ d ∷ rest) ds h =
    let m = at_first two a (b ∷ d ∷ rest) (word_of a ds.0) (passes_by two (a ∷ b ∷ d ∷ rest) h) in
    let k = at_second a b (d ∷ rest) (word_of b ds.1.0) m.passes in
    absurd (no_third a b d rest (word_of d ds.1.1.0) k.passes)
