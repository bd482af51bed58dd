-- What a list shows of parts that were written.
use Rattle.std.proofs.Common.{ℕ, ◌≡◌, ◌≢◌, zero, suc, List, [], ◌∷◌, set, slice_get, refl, sym, ap, ◌∙◌, Some, option_map}
use Rattle.std.proofs.lemmas.Option.{slice_get-map}
use Rattle.tn_rest.specs.Seen.{Becomes, OnlyAt}
use Rattle.tn_rows.specs.Events.{Met, with_both, with_part}
use Rattle.tn_rows.specs.PartView.{PartView}
use Rattle.tn_rows.specs.WorldView.{WorldView}
use Rattle.tn_quiet.specs.Machine.{shown, shows}

get_set : {X : Type 0} (xs : List X) (p : ℕ) (x y : X) → slice_get xs p ≡ Some x → slice_get (set xs p y) p ≡ Some y
get_set [] p x y e = cc e
get_set (z ∷ xs) zero x y e = refl
get_set (z ∷ xs) (suc p) x y e = get_set xs p x y e

get_other : {X : Type 0} (xs : List X) (p i : ℕ) (y : X) → i ≢ p → slice_get (set xs p y) i ≡ slice_get xs i
get_other [] p i y ne = refl
get_other (z ∷ xs) zero zero y ne = absurd (ne refl)
get_other (z ∷ xs) zero (suc i) y ne = refl
get_other (z ∷ xs) (suc p) zero y ne = refl
get_other (z ∷ xs) (suc p) (suc i) y ne = get_other xs p i y (λ e. ne (ap suc e))

-- what is shown at a place
pub shown_at : (w : WorldView) (p : ℕ) (x : PartView) → slice_get w.parts p ≡ Some x → slice_get (shown w) p ≡ Some (shows x)
shown_at w p x e = slice_get-map shows w.parts p ∙ ap (option_map shows) e

shown_same : (v w : WorldView) (i : ℕ) → slice_get w.parts i ≡ slice_get v.parts i → slice_get (shown w) i ≡ slice_get (shown v) i
shown_same v w i e = slice_get-map shows w.parts i ∙ (ap (option_map shows) e ∙ sym (slice_get-map shows v.parts i))

-- one part was written
pub one_becomes : (w : WorldView) (p : ℕ) (x y : PartView) → slice_get w.parts p ≡ Some x → Becomes p (shows x) (shows y) (shown w) (shown (with_part w p y))
one_becomes w p x y e = record { was = shown_at w p x e; is = shown_at (with_part w p y) p y (get_set w.parts p x y e) }

pub one_only : (w : WorldView) (p : ℕ) (y : PartView) → OnlyAt p p (shown w) (shown (with_part w p y))
one_only w p y = record { others = λ i ne same. shown_same w (with_part w p y) i (get_other w.parts p i y ne) }

-- two parts were written
pub low_becomes : (w : WorldView) (p q : ℕ) (x : PartView) (m : Met) → p ≢ q → slice_get w.parts p ≡ Some x → Becomes p (shows x) (shows m.low) (shown w) (shown (with_both w p q m))
low_becomes w p q x m ne e = record {
  was = shown_at w p x e;
  is = shown_at (with_both w p q m) p m.low (get_other (set w.parts p m.low) q p m.high ne ∙ get_set w.parts p x m.low e);
}

pub high_becomes : (w : WorldView) (p q : ℕ) (x : PartView) (m : Met) → q ≢ p → slice_get w.parts q ≡ Some x → Becomes q (shows x) (shows m.high) (shown w) (shown (with_both w p q m))
high_becomes w p q x m ne e = record {
  was = shown_at w q x e;
  is = shown_at (with_both w p q m) q m.high (get_set (set w.parts p m.low) q x m.high (get_other w.parts p q m.low ne ∙ e));
}

pub both_only : (w : WorldView) (p q : ℕ) (m : Met) → OnlyAt p q (shown w) (shown (with_both w p q m))
both_only w p q m = record { others = λ i a b. shown_same w (with_both w p q m) i (get_other (set w.parts p m.low) q i m.high b ∙ get_other w.parts p i m.low a) }
