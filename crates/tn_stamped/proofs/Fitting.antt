-- An event leaves a part what the shape names at its place.
use Rattle.std.proofs.Common.{◌≡◌, ℕ, Bool, true, false, Some, subst, sym}
use Rattle.std.specs.declared.alloc.AllocError.{AllocError}
use Rattle.std.specs.declared.result.Result.{Result}
use Rattle.std.specs.declared.result.Result.TheVariants.{Ok, Err}
use Rattle.tn_base.specs.declared.event.Event.{Event}
use Rattle.tn_base.specs.declared.ids.ThreadId.{ThreadId}
use Rattle.tn_base.specs.declared.part.Kind.{Kind}
use Rattle.tn_base.specs.declared.port.Port.{Port}
use Rattle.tn_base.specs.declared.shape.ShapeNumbers.{ShapeNumbers}
use Rattle.tn_base.specs.Parts.{kind_of}
use Rattle.tn_part.specs.Meeting.{FitTwo, IsJoined, port_of}
use Rattle.tn_rows.proofs.Keeping.{kind_stays}
use Rattle.tn_rows.proofs.Ways.{Behind}
use Rattle.tn_rows.specs.Events.{FitsKind}
use Rattle.tn_rows.specs.PartView.{PartView}
use Rattle.tn_rows.specs.Places.{Places, Two, places}
use Rattle.tn_rows.specs.Stamped.{StampedView}
use Rattle.tn_stamp.specs.declared.entry.Entry.{Entry}
use Rattle.tn_stamped.proofs.Joined.{joined}
use Rattle.tn_stamped.specs.Doing.{DoesOne, DoesTurn, DoesTwo, DoesTwoOr, Grown}
use Rattle.tn_tile.specs.declared.deliver.Did.{Did}
use Rattle.tn_tile.specs.declared.step.Turned.{Turned}
use Rattle.tn_tile.specs.declared.step.Turned.TheVariants as turned
use Rattle.tn_tile.specs.Turns.{moved}

grown_fits : (n : ShapeNumbers) (k : Kind) (old new : StampedView) (e : Entry) → Grown old e new → FitsKind n k old.present → FitsKind n k new.present
grown_fits n k old new e g f = kind_stays e.event e.crossing n k old.present new.present g.row f

same_fits : (n : ShapeNumbers) (k : Kind) (old new : StampedView) → new ≡ old → FitsKind n k old.present → FitsKind n k new.present
same_fits n k old new e f = subst (λ (s : StampedView). FitsKind n k s.present) (sym e) f

pub one_fits : (n : ShapeNumbers) (k : Kind) (old new : StampedView) (b : Bool) (e : Event) → DoesOne b e old new → FitsKind n k old.present → FitsKind n k new.present
one_fits n k old new true e d f = grown_fits n k old new _ d f
one_fits n k old new false e d f = same_fits n k old new d.0 f

pub turn_fits : (n : ShapeNumbers) (k : Kind) (old new : StampedView) (r : Turned) (t : ThreadId) → DoesTurn r t old new → FitsKind n k old.present → FitsKind n k new.present
turn_fits n k old new (turned.Moved m) t d f = grown_fits n k old new _ d.0 f
turn_fits n k old new turned.Nothing t d f = same_fits n k old new d.0 f

low_fits : (n : ShapeNumbers) (k : Kind) (low high low' high' : StampedView) (b : Bool) (e : Event) → DoesTwo b e low high low' high' → FitsKind n k low.present → FitsKind n k low'.present
low_fits n k low high low' high' true e d f = grown_fits n k low low' _ d.low_grown f
low_fits n k low high low' high' false e d f = same_fits n k low low' d.0 f

high_fits : (n : ShapeNumbers) (k : Kind) (low high low' high' : StampedView) (b : Bool) (e : Event) → DoesTwo b e low high low' high' → FitsKind n k high.present → FitsKind n k high'.present
high_fits n k low high low' high' true e d f = grown_fits n k high high' _ d.high_grown f
high_fits n k low high low' high' false e d f = same_fits n k high high' d.1 f

-- the same of a call that may want memory
pub low_fits_or : (n : ShapeNumbers) (k : Kind) (low high low' high' : StampedView) (r : Result Did AllocError) (e : Event) → DoesTwoOr r e low high low' high' → FitsKind n k low.present → FitsKind n k low'.present
low_fits_or n k low high low' high' (Ok did) e d f = low_fits n k low high low' high' (moved did) e d f
low_fits_or n k low high low' high' (Err x) e d f = same_fits n k low low' d.0 f

pub high_fits_or : (n : ShapeNumbers) (k : Kind) (low high low' high' : StampedView) (r : Result Did AllocError) (e : Event) → DoesTwoOr r e low high low' high' → FitsKind n k high.present → FitsKind n k high'.present
high_fits_or n k low high low' high' (Ok did) e d f = high_fits n k low high low' high' (moved did) e d f
high_fits_or n k low high low' high' (Err x) e d f = same_fits n k high high' d.1 f

-- the parts of an event on two parts at their places are joined at the event's port
pub joined_here : (n : ShapeNumbers) (e : Event) (at : Port) (i j : ℕ) (low high : PartView) → Behind n → port_of n e ≡ Some at → places n e ≡ Two i j → FitsKind n (kind_of n i) low → FitsKind n (kind_of n j) high → IsJoined e low high at
joined_here n e at i j low high behind port here f g = joined n e at low high behind (sym port) (subst (λ (p : Places). FitTwo n p low high) (sym here) (f, g))
