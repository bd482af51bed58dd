-- What events add to the journals of placed parts.
use Rattle.std.proofs.Common.{◌≡◌, ◌∙◌, ◌++◌, ◌∷◌, [], ℕ, Bool, true, false, None, ◌⊎◌, inr, refl, ap, sym, append-nil}
use Rattle.std.proofs.lemmas.List.Elements.{All-nil, All-push}
use Rattle.std.specs.declared.alloc.AllocError.{AllocError}
use Rattle.std.specs.declared.result.Result.{Result}
use Rattle.std.specs.declared.result.Result.TheVariants.{Ok, Err}
use Rattle.tn_base.specs.declared.event.Event.{Event}
use Rattle.tn_base.specs.declared.ids.ThreadId.{ThreadId}
use Rattle.tn_base.specs.declared.shape.ShapeNumbers.{ShapeNumbers}
use Rattle.tn_base.specs.Parts.{part_count}
use Rattle.tn_rows.proofs.Standing.{pair_at, single_at}
use Rattle.tn_rows.specs.PartView.{PartView}
use Rattle.tn_rows.specs.Places.{One, Two, places}
use Rattle.tn_rows.specs.Stamped.{StampedView}
use Rattle.tn_stamp.specs.declared.entry.Entry.{Entry}
use Rattle.tn_stamp.specs.Pairs.{AllBetween, AllSingle, pair, pair_of}
use Rattle.tn_stamped.specs.Doing.{DoesOne, DoesTurn, DoesTwo, DoesTwoOr, Grown}
use Rattle.tn_stamped.specs.Placed.{GrewAlone, GrewTogether, PlacedView, began_with}
use Rattle.tn_tile.specs.declared.deliver.Did.{Did}
use Rattle.tn_tile.specs.declared.step.Turned.{Turned}
use Rattle.tn_tile.specs.declared.step.Turned.TheVariants as turned
use Rattle.tn_tile.specs.Turns.{moved}

-- a part at the same place, with the same start
began_same : (n : ShapeNumbers) (k : ℕ) (s t : PartView) → t ≡ s → began_with t n k ≡ began_with s n k
began_same n k s t e = ap (λ (x : PartView). began_with x n k) e

one_single : (n : ShapeNumbers) (e : Entry) → pair_of (part_count n) e.event ≡ None → AllSingle (part_count n) (e ∷ [])
one_single n e h = All-push (λ (x : Entry). pair_of (part_count n) x.event ≡ None) [] e (All-nil (λ (x : Entry). pair_of (part_count n) x.event ≡ None)) h

none_single : (n : ShapeNumbers) → AllSingle (part_count n) []
none_single n = All-nil (λ (x : Entry). pair_of (part_count n) x.event ≡ None)

abbrev IsBetween : ShapeNumbers → ℕ → ℕ → Entry → Type 0
IsBetween n i j x = (pair_of (part_count n) x.event ≡ None) ⊎ (pair_of (part_count n) x.event ≡ pair i j)

one_between : (n : ShapeNumbers) (i j : ℕ) (e : Entry) → pair_of (part_count n) e.event ≡ pair i j → AllBetween (part_count n) i j (e ∷ [])
one_between n i j e h = All-push (IsBetween n i j) [] e (All-nil (IsBetween n i j)) (inr h)

none_between : (n : ShapeNumbers) (i j : ℕ) → AllBetween (part_count n) i j []
none_between n i j = All-nil (IsBetween n i j)

same_entries : (s t : StampedView) → t ≡ s → t.entries ≡ s.entries ++ []
same_entries s t e = ap (λ (x : StampedView). x.entries) e ∙ sym (append-nil s.entries)

same_start : (s t : StampedView) → t ≡ s → t.start ≡ s.start
same_start s t e = ap (λ (x : StampedView). x.start) e

abbrev at : StampedView → ShapeNumbers → ℕ → PlacedView
at s n k = record { stamped = s; shape = n; place = k }

grown_alone : (n : ShapeNumbers) (k : ℕ) (old new : StampedView) (e : Entry) → Grown old e new → pair_of (part_count n) e.event ≡ None → GrewAlone (at old n k) (at new n k)
grown_alone n k old new e g h = record { stays = began_same n k old.start new.start g.start; grows = (e ∷ [], g.entries, one_single n e h) }

same_alone : (n : ShapeNumbers) (k : ℕ) (old new : StampedView) → new ≡ old → GrewAlone (at old n k) (at new n k)
same_alone n k old new e = record { stays = began_same n k old.start new.start (same_start old new e); grows = ([], same_entries old new e, none_single n) }

pub one_grows : (n : ShapeNumbers) (k : ℕ) (old new : StampedView) (b : Bool) (e : Event) → places n e ≡ One k → DoesOne b e old new → GrewAlone (at old n k) (at new n k)
one_grows n k old new true e here d = grown_alone n k old new _ d (single_at n e k here)
one_grows n k old new false e here d = same_alone n k old new d.0

pub turn_grows : (n : ShapeNumbers) (k : ℕ) (old new : StampedView) (r : Turned) (t : ThreadId) → DoesTurn r t old new → GrewAlone (at old n k) (at new n k)
turn_grows n k old new (turned.Moved m) t d = grown_alone n k old new _ d.0 refl
turn_grows n k old new turned.Nothing t d = same_alone n k old new d.0

same_both : (n : ShapeNumbers) (i j : ℕ) (low high low' high' : StampedView) → low' ≡ low → high' ≡ high → GrewTogether (at low n i) (at high n j) (at low' n i) (at high' n j)
same_both n i j low high low' high' a b = record {
  low_stays = began_same n i low.start low'.start (same_start low low' a);
  high_stays = began_same n j high.start high'.start (same_start high high' b);
  grows = ([], same_entries low low' a, same_entries high high' b, none_between n i j);
}

two_by : (n : ShapeNumbers) (i j : ℕ) (low high low' high' : StampedView) (b : Bool) (e : Event) → places n e ≡ Two i j → DoesTwo b e low high low' high' → GrewTogether (at low n i) (at high n j) (at low' n i) (at high' n j)
two_by n i j low high low' high' true e here d = record {
  low_stays = began_same n i low.start low'.start d.low_grown.start;
  high_stays = began_same n j high.start high'.start d.high_grown.start;
  grows = (_ ∷ [], d.low_grown.entries, d.high_grown.entries, one_between n i j _ (pair_at n e i j here));
}
two_by n i j low high low' high' false e here d = same_both n i j low high low' high' d.0 d.1

pub two_grows : (n : ShapeNumbers) (i j : ℕ) (low high low' high' : StampedView) (r : Result Did AllocError) (e : Event) → places n e ≡ Two i j → DoesTwoOr r e low high low' high' → GrewTogether (at low n i) (at high n j) (at low' n i) (at high' n j)
two_grows n i j low high low' high' (Ok did) e here d = two_by n i j low high low' high' (moved did) e here d
two_grows n i j low high low' high' (Err x) e here d = same_both n i j low high low' high' d.0 d.1
