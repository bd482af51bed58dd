-- Entries stand at their part.
use Rattle.std.proofs.Common.{◌≡◌, ◌∙◌, ◌==◌, ◌||◌, ℕ, Bool, true, false, ap, subst, sym, refl, eqb, arith}
use Rattle.std.specs.List.{All}
use Rattle.std.proofs.lemmas.Bool.Decides.{nat_tests}
use Rattle.std.proofs.lemmas.List.Elements.{All-push}
use Rattle.tn_base.specs.declared.event.Event.{Event}
use Rattle.tn_base.specs.declared.event.Event.TheVariants as event
use Rattle.tn_base.specs.declared.ids.ThreadId.{ThreadId}
use Rattle.tn_base.specs.declared.shape.ShapeNumbers.{ShapeNumbers}
use Rattle.tn_stamp.specs.declared.entry.Entry.{Entry}
use Rattle.std.specs.declared.alloc.AllocError.{AllocError}
use Rattle.std.specs.declared.result.Result.{Result}
use Rattle.std.specs.declared.result.Result.TheVariants.{Ok, Err}
use Rattle.tn_tile.specs.declared.deliver.Did.{Did}
use Rattle.tn_tile.specs.Turns.{moved}
use Rattle.tn_tile.specs.declared.step.Turned.{Turned}
use Rattle.tn_tile.specs.declared.step.Turned.TheVariants as turned
use Rattle.tn_rows.specs.Places.{One, Two, places}
use Rattle.tn_rows.specs.Stamped.{StampedView, StandsAt, touches}
use Rattle.tn_stamped.specs.Doing.{DoesOne, DoesTurn, DoesTwo, DoesTwoOr, Grown}

eqb_self : (a : ℕ) → eqb a a ≡ true
eqb_self a = grind (arith, nat_tests)

or_left : (a b : Bool) → a ≡ true → (a || b) ≡ true
or_left true b h = refl
or_left false b h = cc

or_right : (a b : Bool) → b ≡ true → (a || b) ≡ true
or_right true b h = refl
or_right false b h = h

grown_stands : (n : ShapeNumbers) (i : ℕ) (old new : StampedView) (e : Entry) → Grown old e new → StandsAt n i e → All (StandsAt n i) old.entries → All (StandsAt n i) new.entries
grown_stands n i old new e g s a = subst (All (StandsAt n i)) (sym g.entries) (All-push (StandsAt n i) old.entries e a s)

same_stands : (n : ShapeNumbers) (i : ℕ) (old new : StampedView) → new ≡ old → All (StandsAt n i) old.entries → All (StandsAt n i) new.entries
same_stands n i old new e a = subst (λ (s : StampedView). All (StandsAt n i) s.entries) (sym e) a

pub one_stands : (n : ShapeNumbers) (i : ℕ) (old new : StampedView) (b : Bool) (e : Event) → places n e ≡ One i → DoesOne b e old new → All (StandsAt n i) old.entries → All (StandsAt n i) new.entries
one_stands n i old new true e here d a = grown_stands n i old new _ d (ap (λ p. touches p i) here ∙ eqb_self i) a
one_stands n i old new false e here d a = same_stands n i old new d.0 a

pub turn_stands : (n : ShapeNumbers) (i : ℕ) (old new : StampedView) (r : Turned) (t : ThreadId) → places n (event.Turn t 1) ≡ One i → DoesTurn r t old new → All (StandsAt n i) old.entries → All (StandsAt n i) new.entries
turn_stands n i old new (turned.Moved k) t here d a = grown_stands n i old new _ d.0 (ap (λ p. touches p i) here ∙ eqb_self i) a
turn_stands n i old new turned.Nothing t here d a = same_stands n i old new d.0 a

pub low_stands : (n : ShapeNumbers) (i j : ℕ) (low high low' high' : StampedView) (b : Bool) (e : Event) → places n e ≡ Two i j → DoesTwo b e low high low' high' → All (StandsAt n i) low.entries → All (StandsAt n i) low'.entries
low_stands n i j low high low' high' true e here d a = grown_stands n i low low' _ d.low_grown (ap (λ p. touches p i) here ∙ or_left (i == i) (j == i) (eqb_self i)) a
low_stands n i j low high low' high' false e here d a = same_stands n i low low' d.0 a

pub high_stands : (n : ShapeNumbers) (i j : ℕ) (low high low' high' : StampedView) (b : Bool) (e : Event) → places n e ≡ Two i j → DoesTwo b e low high low' high' → All (StandsAt n j) high.entries → All (StandsAt n j) high'.entries
high_stands n i j low high low' high' true e here d a = grown_stands n j high high' _ d.high_grown (ap (λ p. touches p j) here ∙ or_right (i == j) (j == j) (eqb_self j)) a
high_stands n i j low high low' high' false e here d a = same_stands n j high high' d.1 a

-- the same of a call that may want memory
pub low_stands_or : (n : ShapeNumbers) (i j : ℕ) (low high low' high' : StampedView) (r : Result Did AllocError) (e : Event) → places n e ≡ Two i j → DoesTwoOr r e low high low' high' → All (StandsAt n i) low.entries → All (StandsAt n i) low'.entries
low_stands_or n i j low high low' high' (Ok did) e here d a = low_stands n i j low high low' high' (moved did) e here d a
low_stands_or n i j low high low' high' (Err x) e here d a = same_stands n i low low' d.0 a

pub high_stands_or : (n : ShapeNumbers) (i j : ℕ) (low high low' high' : StampedView) (r : Result Did AllocError) (e : Event) → places n e ≡ Two i j → DoesTwoOr r e low high low' high' → All (StandsAt n j) high.entries → All (StandsAt n j) high'.entries
high_stands_or n i j low high low' high' (Ok did) e here d a = high_stands n i j low high low' high' (moved did) e here d a
high_stands_or n i j low high low' high' (Err x) e here d a = same_stands n j high high' d.1 a
