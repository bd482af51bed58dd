-- Where clap takes the words of a command without arguments, there are none.
use Rattle.std.proofs.Common.{◌≡◌, ℕ, List, [], ◌∷◌, refl, false, codes, Option, Some, None, bytes_eq, inl, inr, slice_get}
use Rattle.std.specs.Str.{chars}
use Rattle.clap.specs.Faults.{fault_of}
use Rattle.clap.specs.Lexer.{long_of, short_of}
use Rattle.clap.specs.Walk.{Text}
use Rattle.clap.proofs.OnLiterals.{clap_on_literals}
use Rattle.tn_words.specs.Parsers.{bare}
use Rattle.tn_words.proofs.Dashes.{NoDashes}
use Rattle.tn_words.proofs.Looks.{Look, look}

long_refused : (w : Text) (ws : List Text) (name : Text) (g : Option Text) → bytes_eq w (codes "--") ≡ false → long_of w ≡ Some (name, g) → fault_of bare (w ∷ ws) ≡ [] → ⊥
unfolding clap_on_literals
long_refused w ws name g d l h = let k = rw (d, l) at h in cc k

short_refused : (w : Text) (ws : List Text) (f : ℕ) (fs : Text) (x : Option ℕ) → bytes_eq w (codes "--") ≡ false → long_of w ≡ None → short_of w ≡ Some (f ∷ fs) → slice_get (chars (f ∷ fs)) 0 ≡ x → fault_of bare (w ∷ ws) ≡ [] → ⊥
unfolding clap_on_literals
short_refused w ws f fs (Some x) d l e c h = let k = rw (d, l, e, c) at h in cc k
short_refused w ws f fs None d l e c h = let k = rw (d, l, e, c) at h in cc k

plain_refused : (w : Text) (ws : List Text) → bytes_eq w (codes "--") ≡ false → long_of w ≡ None → short_of w ≡ None → fault_of bare (w ∷ ws) ≡ [] → ⊥
unfolding clap_on_literals
plain_refused w ws d l e h = let k = rw (d, l, e) at h in cc k

word_refused : (w : Text) (ws : List Text) → bytes_eq w (codes "--") ≡ false → Look w → fault_of bare (w ∷ ws) ≡ [] → ⊥
word_refused w ws d (inl l) h = long_refused w ws l.name l.given d l.looks h
word_refused w ws d (inr (inl s)) h = short_refused w ws s.flag s.flags (slice_get (chars (s.flag ∷ s.flags)) 0) d s.no_long s.looks refl h
word_refused w ws d (inr (inr p)) h = plain_refused w ws d p.no_long p.no_short h

pub bare_read : (words : List Text) → NoDashes words → fault_of bare words ≡ [] → words ≡ []
bare_read [] ds h = refl
bare_read (w ∷ ws) ds h = absurd (word_refused w ws ds.0 (look w ds.0) h)
