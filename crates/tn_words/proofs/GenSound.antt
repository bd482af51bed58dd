-- Where clap takes the words of `gen`, they are its numbers and its option, and what clap gives is what the form says.
use Rattle.std.proofs.Common.{◌≡◌, ◌∙◌, ℕ, ◌≤◌, true, false, List, [], ◌∷◌, ◌++◌, codes, refl, ap, sym, subst, arith, Option, Some, None, bytes_eq, fold, length, ⊎_elim, inl, inr, slice_get}
use Rattle.std.specs.Option.{is_some, option_and_then, option_map}
use Rattle.std.specs.Str.{chars}
use Rattle.std.proofs.Math.Bool.{or-false}
use Rattle.std.proofs.lemmas.Bool.{cases_Bool}
use Rattle.clap.specs.Faults.{entered_fault, fault_of, settle_fault, turn_fault, use_fault}
use Rattle.clap.specs.Kinds.{Kinds, or_else}
use Rattle.clap.specs.Lexer.{long_of, short_of}
use Rattle.clap.specs.Simple.{Shape, built, entered, filled, matches_of, with_index}
use Rattle.clap.specs.Walk.{Row, Rule, Text, reading_by, with_default, first_of, has_row, idle, is_pending, option, settled_rows, used, walked}
use Rattle.clap.proofs.OnLiterals.{clap_on_literals}
use Rattle.tn_words.specs.Forms.{Parted, attached, gen_among, gen_of, gen_pair, parted, two_of, with_other}
use Rattle.tn_words.specs.Parsers.{first_rule, gen_app, gen_told, pair_of, second_rule, workers_rule}
use Rattle.tn_words.proofs.Dashes.{NoDashes}
use Rattle.tn_words.proofs.GivenRows.{appended, first-before, first-behind, given, given_none, has-append, new_row, or_true, same_rows}
use Rattle.tn_words.proofs.Looks.{Look, Spells, look}
use Rattle.tn_words.proofs.Splits.{IsSplit, and_false, attached_is, other_first, same_text, split}
use Rattle.tn_words.proofs.Turns.{Passes, Pending, held_at, last_rows, level_passes, one_more, or_none, turn_of, walk_at}

abbrev shape : Shape
shape = (built gen_app).top

abbrev own : List Rule
own = shape.rules

abbrev first : Rule
first = with_index 1 (filled first_rule)

abbrev second : Rule
second = with_index 2 (filled second_rule)

abbrev workers : Rule
workers = filled workers_rule

abbrev fid : Text
fid = codes "first"

abbrev sid : Text
sid = codes "second"

abbrev wid : Text
wid = codes "workers"

abbrev settle : List Row → Pending → List Row
settle rows pending = settled_rows own pending rows

abbrev debt : List Row → Pending → Kinds
debt rows pending = settle_fault own false (held_at rows pending)

-- The option.

workers_step : (R : List Row) (P : Pending) (p : ℕ) → walked own [] (walk_at R P idle p) (codes "--workers") ≡ walk_at (settle R P) (Some (wid, [])) (option wid) p
unfolding clap_on_literals
workers_step R P p = refl

workers_fault : (R : List Row) (P : Pending) (p : ℕ) → turn_fault shape [] (walk_at R P idle p) (codes "--workers") ≡ or_else (debt R P) []
unfolding clap_on_literals
workers_fault R P p = refl

joined_step : (R : List Row) (P : Pending) (p : ℕ) (n : Text) → walked own [] (walk_at R P idle p) (codes "--workers=" ++ n) ≡ walk_at (used workers (n ∷ []) (settle R P)) None idle p
unfolding clap_on_literals
joined_step R P p n = refl

joined_fault : (R : List Row) (P : Pending) (p : ℕ) (n : Text) → turn_fault shape [] (walk_at R P idle p) (codes "--workers=" ++ n) ≡ or_else (or_else (debt R P) (use_fault false workers (n ∷ []) (settle R P))) []
unfolding clap_on_literals
joined_fault R P p n = refl

-- A word where nothing waits, and one behind `--workers`.

abbrev Idle : List Row → Pending → ℕ → Text → Kinds
Idle R P p w = turn_fault shape [] (walk_at R P idle p) w

abbrev Waits : List Row → ℕ → Text → Kinds
Waits R p w = turn_fault shape [] (walk_at R (Some (wid, [])) (option wid) p) w

abbrev Next : List Row → ℕ → Text → Type 0
Next R p w = walked own [] (walk_at R (Some (wid, [])) (option wid) p) w ≡ walk_at R (Some (wid, w ∷ [])) idle p

-- a word that is no flag
pub record IsValue (w : Text) : Type 0 where
  pub no_long : long_of w ≡ None
  pub first_step : (R : List Row) (P : Pending) → walked own [] (walk_at R P idle 1) w ≡ walk_at (settle R P) (Some (fid, w ∷ [])) idle 2
  pub first_fault : (R : List Row) (P : Pending) → Idle R P 1 w ≡ debt R P
  pub second_step : (R : List Row) (P : Pending) → walked own [] (walk_at R P idle 2) w ≡ walk_at (settle R P) (Some (sid, w ∷ [])) idle 3
  pub second_fault : (R : List Row) (P : Pending) → Idle R P 2 w ≡ debt R P
  pub third_refused : (R : List Row) (P : Pending) → Idle R P 3 w ≡ [] → ⊥
  pub next : (R : List Row) (p : ℕ) → Next R p w

plain_first : (R : List Row) (P : Pending) (w : Text) → bytes_eq w (codes "--") ≡ false → long_of w ≡ None → short_of w ≡ None → walked own [] (walk_at R P idle 1) w ≡ walk_at (settle R P) (Some (fid, w ∷ [])) idle 2
unfolding clap_on_literals
plain_first R P w d l e = rw (d, l, e, and_false (is_pending first P)) refl

plain_first_fault : (R : List Row) (P : Pending) (w : Text) → bytes_eq w (codes "--") ≡ false → long_of w ≡ None → short_of w ≡ None → Idle R P 1 w ≡ debt R P
unfolding clap_on_literals
plain_first_fault R P w d l e = rw (d, l, e, and_false (is_pending first P)) refl

plain_second : (R : List Row) (P : Pending) (w : Text) → bytes_eq w (codes "--") ≡ false → long_of w ≡ None → short_of w ≡ None → walked own [] (walk_at R P idle 2) w ≡ walk_at (settle R P) (Some (sid, w ∷ [])) idle 3
unfolding clap_on_literals
plain_second R P w d l e = rw (d, l, e, and_false (is_pending second P)) refl

plain_second_fault : (R : List Row) (P : Pending) (w : Text) → bytes_eq w (codes "--") ≡ false → long_of w ≡ None → short_of w ≡ None → Idle R P 2 w ≡ debt R P
unfolding clap_on_literals
plain_second_fault R P w d l e = rw (d, l, e, and_false (is_pending second P)) refl

plain_third : (R : List Row) (P : Pending) (w : Text) → bytes_eq w (codes "--") ≡ false → long_of w ≡ None → short_of w ≡ None → Idle R P 3 w ≡ [] → ⊥
unfolding clap_on_literals
plain_third R P w d l e h = let k = rw (d, l, e) at h in cc k

plain_next : (R : List Row) (p : ℕ) (w : Text) → bytes_eq w (codes "--") ≡ false → long_of w ≡ None → short_of w ≡ None → Next R p w
unfolding clap_on_literals
plain_next R p w d l e = rw (d, l, e) refl

plain_value : (w : Text) → bytes_eq w (codes "--") ≡ false → long_of w ≡ None → short_of w ≡ None → IsValue w
plain_value w d l e = record {
  no_long = l;
  first_step = λ R P. plain_first R P w d l e;
  first_fault = λ R P. plain_first_fault R P w d l e;
  second_step = λ R P. plain_second R P w d l e;
  second_fault = λ R P. plain_second_fault R P w d l e;
  third_refused = λ R P. plain_third R P w d l e;
  next = λ R p. plain_next R p w d l e;
}

-- a hyphen and what begins no character: no word is that, but lists of bytes are
empty_first : (R : List Row) (P : Pending) (w : Text) (f : ℕ) (fs : Text) → bytes_eq w (codes "--") ≡ false → long_of w ≡ None → short_of w ≡ Some (f ∷ fs) → slice_get (chars (f ∷ fs)) 0 ≡ None
    → walked own [] (walk_at R P idle 1) w ≡ walk_at (settle R P) (Some (fid, w ∷ [])) idle 2
unfolding clap_on_literals
empty_first R P w f fs d l e c = rw (d, l, e, c, and_false (is_pending first P)) refl

empty_first_fault : (R : List Row) (P : Pending) (w : Text) (f : ℕ) (fs : Text) → bytes_eq w (codes "--") ≡ false → long_of w ≡ None → short_of w ≡ Some (f ∷ fs) → slice_get (chars (f ∷ fs)) 0 ≡ None → Idle R P 1 w ≡ debt R P
unfolding clap_on_literals
empty_first_fault R P w f fs d l e c = rw (d, l, e, c, and_false (is_pending first P)) refl

empty_second : (R : List Row) (P : Pending) (w : Text) (f : ℕ) (fs : Text) → bytes_eq w (codes "--") ≡ false → long_of w ≡ None → short_of w ≡ Some (f ∷ fs) → slice_get (chars (f ∷ fs)) 0 ≡ None
    → walked own [] (walk_at R P idle 2) w ≡ walk_at (settle R P) (Some (sid, w ∷ [])) idle 3
unfolding clap_on_literals
empty_second R P w f fs d l e c = rw (d, l, e, c, and_false (is_pending second P)) refl

empty_second_fault : (R : List Row) (P : Pending) (w : Text) (f : ℕ) (fs : Text) → bytes_eq w (codes "--") ≡ false → long_of w ≡ None → short_of w ≡ Some (f ∷ fs) → slice_get (chars (f ∷ fs)) 0 ≡ None → Idle R P 2 w ≡ debt R P
unfolding clap_on_literals
empty_second_fault R P w f fs d l e c = rw (d, l, e, c, and_false (is_pending second P)) refl

empty_third : (R : List Row) (P : Pending) (w : Text) (f : ℕ) (fs : Text) → bytes_eq w (codes "--") ≡ false → long_of w ≡ None → short_of w ≡ Some (f ∷ fs) → slice_get (chars (f ∷ fs)) 0 ≡ None → Idle R P 3 w ≡ [] → ⊥
unfolding clap_on_literals
empty_third R P w f fs d l e c h = let k = rw (d, l, e, c) at h in cc k

empty_next : (R : List Row) (p : ℕ) (w : Text) (f : ℕ) (fs : Text) → bytes_eq w (codes "--") ≡ false → long_of w ≡ None → short_of w ≡ Some (f ∷ fs) → slice_get (chars (f ∷ fs)) 0 ≡ None → Next R p w
unfolding clap_on_literals
empty_next R p w f fs d l e c = rw (d, l, e, c) refl

empty_value : (w : Text) (f : ℕ) (fs : Text) → bytes_eq w (codes "--") ≡ false → long_of w ≡ None → short_of w ≡ Some (f ∷ fs) → slice_get (chars (f ∷ fs)) 0 ≡ None → IsValue w
empty_value w f fs d l e c = record {
  no_long = l;
  first_step = λ R P. empty_first R P w f fs d l e c;
  first_fault = λ R P. empty_first_fault R P w f fs d l e c;
  second_step = λ R P. empty_second R P w f fs d l e c;
  second_fault = λ R P. empty_second_fault R P w f fs d l e c;
  third_refused = λ R P. empty_third R P w f fs d l e c;
  next = λ R p. empty_next R p w f fs d l e c;
}

-- The words that are refused.

unknown_refused : (R : List Row) (P : Pending) (p : ℕ) (w name : Text) (g : Option Text) → bytes_eq w (codes "--") ≡ false → long_of w ≡ Some (name, g) → bytes_eq (codes "workers") name ≡ false → Idle R P p w ≡ [] → ⊥
unfolding clap_on_literals
unknown_refused R P p w name g d l e h = let k = rw (d, l, e) at h in cc k

short_refused : (R : List Row) (P : Pending) (p : ℕ) (w : Text) (f : ℕ) (fs : Text) (x : ℕ) → bytes_eq w (codes "--") ≡ false → long_of w ≡ None → short_of w ≡ Some (f ∷ fs) → slice_get (chars (f ∷ fs)) 0 ≡ Some x → Idle R P p w ≡ [] → ⊥
unfolding clap_on_literals
short_refused R P p w f fs x d l e c h = let k = rw (d, l, e, c) at h in cc k

waits_workers : (R : List Row) (p : ℕ) → Waits R p (codes "--workers") ≡ [] → ⊥
unfolding clap_on_literals
waits_workers R p h = cc h

waits_joined : (R : List Row) (p : ℕ) (v : Text) → Waits R p (codes "--workers=" ++ v) ≡ [] → ⊥
unfolding clap_on_literals
waits_joined R p v h = cc h

waits_unknown : (R : List Row) (p : ℕ) (w name : Text) (g : Option Text) → bytes_eq w (codes "--") ≡ false → long_of w ≡ Some (name, g) → bytes_eq (codes "workers") name ≡ false → Waits R p w ≡ [] → ⊥
unfolding clap_on_literals
waits_unknown R p w name g d l e h = let k = rw (d, l, e) at h in cc k

waits_short : (R : List Row) (p : ℕ) (w : Text) (f : ℕ) (fs : Text) (x : ℕ) → bytes_eq w (codes "--") ≡ false → long_of w ≡ None → short_of w ≡ Some (f ∷ fs) → slice_get (chars (f ∷ fs)) 0 ≡ Some x → Waits R p w ≡ [] → ⊥
unfolding clap_on_literals
waits_short R p w f fs x d l e c h = let k = rw (d, l, e, c) at h in cc k

pub data Word (w : Text) : Type 0 where
  is_workers : w ≡ codes "--workers" → Word w
  is_joined : (v : Text) → w ≡ codes "--workers=" ++ v → Word w
  is_value : IsValue w → Word w
  is_refused : ((R : List Row) (P : Pending) (p : ℕ) → Idle R P p w ≡ [] → ⊥) → ((R : List Row) (p : ℕ) → Waits R p w ≡ [] → ⊥) → Word w

workers_by : (w name : Text) (g : Option Text) → codes "workers" ≡ name → Spells w name g → Word w
workers_by w name None e h = is_workers (rw (← e) at h)
workers_by w name (Some v) e h = is_joined v (rw (← e) at h)

short_by : (w : Text) (f : ℕ) (fs : Text) (x : Option ℕ) → bytes_eq w (codes "--") ≡ false → long_of w ≡ None → short_of w ≡ Some (f ∷ fs) → slice_get (chars (f ∷ fs)) 0 ≡ x → Word w
short_by w f fs (Some x) d l e c = is_refused (λ R P p. short_refused R P p w f fs x d l e c) (λ R p. waits_short R p w f fs x d l e c)
short_by w f fs None d l e c = is_value (empty_value w f fs d l e c)

word_by : (w : Text) → bytes_eq w (codes "--") ≡ false → Look w → Word w
word_by w d (inl l) =
    ⊎_elim (λ e. workers_by w l.name l.given (same_text (codes "workers") l.name e) l.spells)
    (λ e. is_refused (λ R P p. unknown_refused R P p w l.name l.given d l.looks e) (λ R p. waits_unknown R p w l.name l.given d l.looks e))
    (cases_Bool (bytes_eq (codes "workers") l.name))
word_by w d (inr (inl s)) = short_by w s.flag s.flags (slice_get (chars (s.flag ∷ s.flags)) 0) d s.no_long s.looks refl
word_by w d (inr (inr p)) = is_value (plain_value w d p.no_long p.no_short)

word_of : (w : Text) → bytes_eq w (codes "--") ≡ false → Word w
word_of w d = word_by w d (look w d)

next_by : (R : List Row) (p : ℕ) (w : Text) → Word w → Waits R p w ≡ [] → Next R p w
next_by R p w (is_workers e) h = absurd (waits_workers R p (subst (λ (x : Text). Waits R p x ≡ []) e h))
next_by R p w (is_joined v e) h = absurd (waits_joined R p v (subst (λ (x : Text). Waits R p x ≡ []) e h))
next_by R p w (is_value v) h = v.next R p
next_by R p w (is_refused f g) h = absurd (g R p h)

-- a value is not the option
not_attached_by : (w : Text) (a : Option Text) → long_of w ≡ None → attached w ≡ a → a ≡ None
not_attached_by w None l e = refl
not_attached_by w (Some v) l e = let k : long_of (codes "--workers=" ++ v) ≡ None = subst (λ (x : Text). long_of x ≡ None) (attached_is w v e) l in cc k

not_attached : (w : Text) → long_of w ≡ None → attached w ≡ None
not_attached w l = not_attached_by w (attached w) l refl

not_workers : (w : Text) → long_of w ≡ None → bytes_eq w (codes "--workers") ≡ false
not_workers w l =
    ⊎_elim (λ e. let k : long_of (codes "--workers") ≡ None = subst (λ (x : Text). long_of x ≡ None) (same_text w (codes "--workers") e) l in cc k)
    (λ e. e) (cases_Bool (bytes_eq w (codes "--workers")))

-- Rows.

abbrev new_workers : Text → List Row
new_workers n = new_row wid (reading_by workers) (n ∷ [])

abbrev new_first : Text → List Row
new_first n = new_row fid (reading_by first) (n ∷ [])

abbrev new_second : Text → List Row
new_second n = new_row sid (reading_by second) (n ∷ [])

used_workers : (n : Text) (rows : List Row) → has_row wid rows ≡ false → used workers (n ∷ []) rows ≡ rows ++ new_workers n
used_workers n rows h = appended wid (reading_by workers) (n ∷ []) rows h

used_first : (n : Text) (rows : List Row) → has_row fid rows ≡ false → used first (n ∷ []) rows ≡ rows ++ new_first n
used_first n rows h = appended fid (reading_by first) (n ∷ []) rows h

used_second : (n : Text) (rows : List Row) → has_row sid rows ≡ false → used second (n ∷ []) rows ≡ rows ++ new_second n
used_second n rows h = appended sid (reading_by second) (n ∷ []) rows h

free_workers : (n : Text) (rows : List Row) → use_fault false workers (n ∷ []) rows ≡ [] → has_row wid rows ≡ false
free_workers n rows h = ⊎_elim (λ e. let k = rw e at h in cc k) (λ e. e) (cases_Bool (has_row wid rows))

free_first : (n : Text) (rows : List Row) → use_fault false first (n ∷ []) rows ≡ [] → has_row fid rows ≡ false
free_first n rows h = ⊎_elim (λ e. let k = rw e at h in cc k) (λ e. e) (cases_Bool (has_row fid rows))

free_second : (n : Text) (rows : List Row) → use_fault false second (n ∷ []) rows ≡ [] → has_row sid rows ≡ false
free_second n rows h = ⊎_elim (λ e. let k = rw e at h in cc k) (λ e. e) (cases_Bool (has_row sid rows))

-- The whole walk.

-- how many of the two numbers are still to come
pub data Left : Type 0 where
  two : Left
  one : Left
  none : Left

abbrev place : Left → ℕ
place two = 1
place one = 2
place none = 3

abbrev room : Left → ℕ
room two = 2
room one = 1
room none = 0

abbrev head_of : List Text → Option Text
head_of [] = None
head_of (x ∷ xs) = Some x

-- the first and the second number, where they are among these words
abbrev firsts : Left → List Text → Option Text
firsts two words = head_of words
firsts one words = None
firsts none words = None

abbrev after_head : List Text → Option Text
after_head [] = None
after_head (x ∷ xs) = head_of xs

abbrev seconds : Left → List Text → Option Text
seconds two words = after_head words
seconds one words = head_of words
seconds none words = None

-- from these rows on, the words are the parts of a form, and the rows at the end say so
pub record Sound (R : List Row) (P : Pending) (l : Left) (words : List Text) (end : List Row) : Type 0 where
  pub no_debt : debt R P ≡ []
  pub parts : Parted
  pub parted_is : parted words ≡ Some parts
  pub few : length parts.others ≤ room l
  pub value_is : first_of wid end ≡ given parts.value (first_of wid (settle R P))
  pub first_is : first_of fid end ≡ given (firsts l parts.others) (first_of fid (settle R P))
  pub second_is : first_of sid end ≡ given (seconds l parts.others) (first_of sid (settle R P))
  pub once_value : is_some parts.value ≡ true → has_row wid (settle R P) ≡ false

abbrev SoundAt : List Row → Pending → Left → List Text → Type 0
SoundAt R P l words = Sound R P l words (last_rows shape (walk_at R P idle (place l)) words)

sound_none : (R : List Row) (P : Pending) (l : Left) → Passes shape (walk_at R P idle (place l)) [] → SoundAt R P l []
sound_none R P two p = record { no_debt = p.settles; parts = record { value = None; others = [] }; parted_is = refl; few = omega arith; value_is = refl; first_is = refl; second_is = refl; once_value = λ e. cc e }
sound_none R P one p = record { no_debt = p.settles; parts = record { value = None; others = [] }; parted_is = refl; few = omega arith; value_is = refl; first_is = refl; second_is = refl; once_value = λ e. cc e }
sound_none R P none p = record { no_debt = p.settles; parts = record { value = None; others = [] }; parted_is = refl; few = omega arith; value_is = refl; first_is = refl; second_is = refl; once_value = λ e. cc e }

-- the option, in either spelling
use_by : (R : List Row) (P : Pending) (l : Left) (n : Text) (rest words : List Text) (end : List Row) (v : Option Text) (others : List Text)
    → parted words ≡ Some (record { value = Some n; others = rest }) → debt R P ≡ [] → has_row wid (settle R P) ≡ false
    → IsSplit v rest others → length others ≤ room l
    → first_of wid end ≡ given v (first_of wid (settle R P ++ new_workers n))
    → first_of fid end ≡ given (firsts l others) (first_of fid (settle R P ++ new_workers n))
    → first_of sid end ≡ given (seconds l others) (first_of sid (settle R P ++ new_workers n))
    → (is_some v ≡ true → has_row wid (settle R P ++ new_workers n) ≡ false)
    → Sound R P l words end
use_by R P l n rest words end None others is debt free same few value f s once = record {
  no_debt = debt;
  parts = record { value = Some n; others = rest };
  parted_is = is;
  few = subst (λ (ws : List Text). length ws ≤ room l) (sym same) few;
  value_is = value ∙ first-behind wid (settle R P) (new_workers n) free;
  first_is = f ∙ (ap (given (firsts l others)) (first-before fid (settle R P) (new_workers n) refl) ∙ ap (λ (ws : List Text). given (firsts l ws) (first_of fid (settle R P))) (sym same));
  second_is = s ∙ (ap (given (seconds l others)) (first-before sid (settle R P) (new_workers n) refl) ∙ ap (λ (ws : List Text). given (seconds l ws) (first_of sid (settle R P))) (sym same));
  once_value = λ e. free;
}
use_by R P l n rest words end (Some m) others is debt free same few value f s once =
    let no = once refl in
    let yes : has_row wid (settle R P ++ new_workers n) ≡ true = has-append wid (settle R P) (new_workers n) ∙ or_true (has_row wid (settle R P)) in
    cc (no, yes)

with_use : (R : List Row) (P : Pending) (l : Left) (n : Text) (rest words : List Text) (end : List Row)
    → parted words ≡ Some (record { value = Some n; others = rest }) → debt R P ≡ [] → has_row wid (settle R P) ≡ false
    → Sound (used workers (n ∷ []) (settle R P)) None l rest end → Sound R P l words end
with_use R P l n rest words end is debt free q =
    let new = used_workers n (settle R P) free in
    use_by R P l n rest words end q.parts.value q.parts.others is debt free (split rest q.parts q.parted_is) q.few
    (q.value_is ∙ ap (λ (xs : List Row). given q.parts.value (first_of wid xs)) new)
    (q.first_is ∙ ap (λ (xs : List Row). given (firsts l q.parts.others) (first_of fid xs)) new)
    (q.second_is ∙ ap (λ (xs : List Row). given (seconds l q.parts.others) (first_of sid xs)) new)
    (λ e. sym (ap (has_row wid) new) ∙ q.once_value e)

-- the first number
with_first : (R : List Row) (P : Pending) (w : Text) (rest : List Text) (end : List Row) → attached w ≡ None → bytes_eq w (codes "--workers") ≡ false → debt R P ≡ []
    → Sound (settle R P) (Some (fid, w ∷ [])) one rest end → Sound R P two (w ∷ rest) end
with_first R P w rest end a b debt q =
    let S = settle R P in
    let free = free_first w S q.no_debt in
    let new = used_first w S free in
    record {
      no_debt = debt;
      parts = with_other w q.parts;
      parted_is = other_first w rest a b ∙ ap (option_map (with_other w)) q.parted_is;
      few = let few = q.few in omega arith;
      value_is = q.value_is ∙ (ap (λ (xs : List Row). given q.parts.value (first_of wid xs)) new ∙ ap (given q.parts.value) (first-before wid S (new_first w) refl));
      first_is = q.first_is ∙ (ap (first_of fid) new ∙ first-behind fid S (new_first w) free);
      second_is = q.second_is ∙ (ap (λ (xs : List Row). given (head_of q.parts.others) (first_of sid xs)) new ∙ ap (given (head_of q.parts.others)) (first-before sid S (new_first w) refl));
      once_value = λ e. sym (has-append wid S (new_first w) ∙ or-false (has_row wid S)) ∙ (sym (ap (has_row wid) new) ∙ q.once_value e);
    }

-- the second number
with_second : (R : List Row) (P : Pending) (w : Text) (rest : List Text) (end : List Row) → attached w ≡ None → bytes_eq w (codes "--workers") ≡ false → debt R P ≡ []
    → Sound (settle R P) (Some (sid, w ∷ [])) none rest end → Sound R P one (w ∷ rest) end
with_second R P w rest end a b debt q =
    let S = settle R P in
    let free = free_second w S q.no_debt in
    let new = used_second w S free in
    record {
      no_debt = debt;
      parts = with_other w q.parts;
      parted_is = other_first w rest a b ∙ ap (option_map (with_other w)) q.parted_is;
      few = let few = q.few in omega arith;
      value_is = q.value_is ∙ (ap (λ (xs : List Row). given q.parts.value (first_of wid xs)) new ∙ ap (given q.parts.value) (first-before wid S (new_second w) refl));
      first_is = q.first_is ∙ (ap (first_of fid) new ∙ first-before fid S (new_second w) refl);
      second_is = q.second_is ∙ (ap (first_of sid) new ∙ first-behind sid S (new_second w) free);
      once_value = λ e. sym (has-append wid S (new_second w) ∙ or-false (has_row wid S)) ∙ (sym (ap (has_row wid) new) ∙ q.once_value e);
    }

-- no number behind `--workers`
lone_refused : (S : List Row) (p : ℕ) → Passes shape (walk_at S (Some (wid, [])) (option wid) p) [] → ⊥
lone_refused S p h = let k = h.settles in cc k

-- the value that is pending is as one that was used
settle_value : (S : List Row) (l : Left) (n : Text) (rest : List Text) (end : List Row) → Sound S (Some (wid, n ∷ [])) l rest end → Sound (used workers (n ∷ []) S) None l rest end
settle_value S l n rest end q = record {
  no_debt = refl;
  parts = q.parts;
  parted_is = q.parted_is;
  few = q.few;
  value_is = q.value_is;
  first_is = q.first_is;
  second_is = q.second_is;
  once_value = q.once_value;
}

-- what is known of shorter lists of words
abbrev Known : List Text → Type 0
Known words = (Q : List Row) (O : Pending) (k : Left) → Passes shape (walk_at Q O idle (place k)) words → SoundAt Q O k words

abbrev Past : List Text → Type 0
Past [] = Unit {0}
Past (n ∷ rest) = Known rest

joined_case : (R : List Row) (P : Pending) (l : Left) (v : Text) (ws : List Text) → Known ws → Passes shape (walk_at R P idle (place l)) ((codes "--workers=" ++ v) ∷ ws) → SoundAt R P l ((codes "--workers=" ++ v) ∷ ws)
joined_case R P l v ws known p =
    let words = (codes "--workers=" ++ v) ∷ ws in
    let next = walk_at (used workers (v ∷ []) (settle R P)) None idle (place l) in
    let m = one_more shape (walk_at R P idle (place l)) next (codes "--workers=" ++ v) ws (joined_step R P (place l) v) p in
    let turn : or_else (or_else (debt R P) (use_fault false workers (v ∷ []) (settle R P))) [] ≡ [] = sym (joined_fault R P (place l) v) ∙ m.turn in
    let both = or_none (or_else (debt R P) (use_fault false workers (v ∷ []) (settle R P))) [] turn in
    let parts = or_none (debt R P) (use_fault false workers (v ∷ []) (settle R P)) both.0 in
    let q = known (used workers (v ∷ []) (settle R P)) None l m.passes in
    subst (λ (end : List Row). Sound R P l words end) (sym m.rows)
    (with_use R P l v ws words (last_rows shape next ws) refl parts.0 (free_workers v (settle R P) parts.1) q)

workers_case : (R : List Row) (P : Pending) (l : Left) (ws : List Text) → NoDashes ws → Past ws → Passes shape (walk_at R P idle (place l)) (codes "--workers" ∷ ws) → SoundAt R P l (codes "--workers" ∷ ws)
workers_case R P l [] ds past p =
    let m = one_more shape (walk_at R P idle (place l)) (walk_at (settle R P) (Some (wid, [])) (option wid) (place l)) (codes "--workers") [] (workers_step R P (place l)) p in
    absurd (lone_refused (settle R P) (place l) m.passes)
workers_case R P l (n ∷ rest) ds past p =
    let S = settle R P in
    let wait = walk_at S (Some (wid, [])) (option wid) (place l) in
    let m = one_more shape (walk_at R P idle (place l)) wait (codes "--workers") (n ∷ rest) (workers_step R P (place l)) p in
    let turn : or_else (debt R P) [] ≡ [] = sym (workers_fault R P (place l)) ∙ m.turn in
    let both = or_none (debt R P) [] turn in
    let next = next_by S (place l) n (word_of n ds.0) (turn_of shape wait n rest m.passes) in
    let end_at = walk_at S (Some (wid, n ∷ [])) idle (place l) in
    let k = one_more shape wait end_at n rest next m.passes in
    let q = past S (Some (wid, n ∷ [])) l k.passes in
    let free = free_workers n S q.no_debt in
    let end = last_rows shape end_at rest in
    subst (λ (e : List Row). Sound R P l (codes "--workers" ∷ n ∷ rest) e) (sym (m.rows ∙ k.rows))
    (with_use R P l n rest (codes "--workers" ∷ n ∷ rest) end refl both.0 free (settle_value S l n rest end q))

value_case : (R : List Row) (P : Pending) (l : Left) (w : Text) (ws : List Text) → IsValue w → Known ws → Passes shape (walk_at R P idle (place l)) (w ∷ ws) → SoundAt R P l (w ∷ ws)
value_case R P two w ws v known p =
    let S = settle R P in
    let next = walk_at S (Some (fid, w ∷ [])) idle 2 in
    let m = one_more shape (walk_at R P idle 1) next w ws (v.first_step R P) p in
    subst (λ (e : List Row). Sound R P two (w ∷ ws) e) (sym m.rows)
    (with_first R P w ws (last_rows shape next ws) (not_attached w v.no_long) (not_workers w v.no_long) (sym (v.first_fault R P) ∙ m.turn) (known S (Some (fid, w ∷ [])) one m.passes))
value_case R P one w ws v known p =
    let S = settle R P in
    let next = walk_at S (Some (sid, w ∷ [])) idle 3 in
    let m = one_more shape (walk_at R P idle 2) next w ws (v.second_step R P) p in
    subst (λ (e : List Row). Sound R P one (w ∷ ws) e) (sym m.rows)
    (with_second R P w ws (last_rows shape next ws) (not_attached w v.no_long) (not_workers w v.no_long) (sym (v.second_fault R P) ∙ m.turn) (known S (Some (sid, w ∷ [])) none m.passes))
value_case R P none w ws v known p = absurd (v.third_refused R P (turn_of shape (walk_at R P idle 3) w ws p))

sound_by : (R : List Row) (P : Pending) (l : Left) (w : Text) (ws : List Text) → Word w → NoDashes ws → Known ws → Past ws → Passes shape (walk_at R P idle (place l)) (w ∷ ws) → SoundAt R P l (w ∷ ws)
sound_by R P l w ws (is_workers e) ds known past = subst (λ (x : Text). Passes shape (walk_at R P idle (place l)) (x ∷ ws) → SoundAt R P l (x ∷ ws)) (sym e) (workers_case R P l ws ds past)
sound_by R P l w ws (is_joined v e) ds known past = subst (λ (x : Text). Passes shape (walk_at R P idle (place l)) (x ∷ ws) → SoundAt R P l (x ∷ ws)) (sym e) (joined_case R P l v ws known)
sound_by R P l w ws (is_value v) ds known past = value_case R P l w ws v known
sound_by R P l w ws (is_refused f g) ds known past = λ p. absurd (f R P (place l) (turn_of shape (walk_at R P idle (place l)) w ws p))

-- what clap takes is a form's words, but for `--`
sound : (words : List Text) → NoDashes words → (R : List Row) (P : Pending) (l : Left) → Passes shape (walk_at R P idle (place l)) words → SoundAt R P l words
sound [] ds R P l p = sound_none R P l p
sound (w ∷ []) ds R P l p = sound_by R P l w [] (word_of w ds.0) tt (λ Q O k h. sound_none Q O k h) tt p
sound (w ∷ n ∷ rest) ds R P l p = sound_by R P l w (n ∷ rest) (word_of w ds.0) ds.1 (λ Q O k h. sound (n ∷ rest) ds.1 Q O k h) (λ Q O k h. sound rest ds.1.1 Q O k h) p

-- What `clap` gives for the words of `gen`.

passes_by : (words : List Text) → fault_of gen_app words ≡ [] → Passes shape (walk_at [] None idle 1) words
passes_by words h =
    let stop = (fold (walked own []) (walk_at [] None idle 1) words).stopped in
    level_passes shape words (is_some (entered (built gen_app) stop)) (entered_fault (built gen_app) stop) h

-- no argument has a default
no_defaults : (rows : List Row) → fold with_default rows own ≡ rows
no_defaults rows =
    ap (λ (xs : List Row). with_default (with_default xs second) workers) (same_rows (has_row fid rows) rows)
    ∙ (ap (λ (xs : List Row). with_default xs workers) (same_rows (has_row sid rows) rows) ∙ same_rows (has_row wid rows) rows)

two_pair : (others : List Text) → length others ≤ 2 → two_of others ≡ pair_of (head_of others) (after_head others)
two_pair [] h = refl
two_pair (a ∷ []) h = refl
two_pair (a ∷ b ∷ []) h = refl
two_pair (a ∷ b ∷ d ∷ rest) h = absurd (omega arith)

-- where clap takes words of `gen` without `--`, its rows say what the form says
pub gen_read : (words : List Text) → NoDashes words → fault_of gen_app words ≡ []
    → gen_of words ≡ gen_told (first_of (codes "workers") (matches_of gen_app words)) (first_of (codes "first") (matches_of gen_app words)) (first_of (codes "second") (matches_of gen_app words))
gen_read words ds h =
    let q = sound words ds [] None two (passes_by words h) in
    let rows = last_rows shape (walk_at [] None idle 1) words in
    let all : matches_of gen_app words ≡ rows = no_defaults rows in
    let value : first_of wid (matches_of gen_app words) ≡ q.parts.value = ap (first_of wid) all ∙ (q.value_is ∙ given_none q.parts.value) in
    let start : first_of fid (matches_of gen_app words) ≡ head_of q.parts.others = ap (first_of fid) all ∙ (q.first_is ∙ given_none (head_of q.parts.others)) in
    let count : first_of sid (matches_of gen_app words) ≡ after_head q.parts.others = ap (first_of sid) all ∙ (q.second_is ∙ given_none (after_head q.parts.others)) in
    let form : gen_of words ≡ gen_among q.parts.value q.parts.others = ap (option_and_then (λ p. gen_among p.value p.others)) q.parted_is in
    let pair : gen_among q.parts.value q.parts.others ≡ gen_told q.parts.value (head_of q.parts.others) (after_head q.parts.others) = ap (gen_pair q.parts.value) (two_pair q.parts.others q.few) in
    form ∙ (pair ∙ sym (
    ap (λ (v : Option Text). gen_told v (first_of fid (matches_of gen_app words)) (first_of sid (matches_of gen_app words))) value
    ∙ (ap (λ (v : Option Text). gen_told q.parts.value v (first_of sid (matches_of gen_app words))) start
    ∙ ap (λ (v : Option Text). gen_told q.parts.value (head_of q.parts.others) v) count)))
