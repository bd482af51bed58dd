-- Events by the part that they are on.
use Rattle.std.proofs.Common.{◌≡◌, ◌∙◌, ℕ, Bool, None, Some, refl, ap, subst, sym, get_or, set, length, ◌<◌, MatchResult, option_and_then, option_map}
use Rattle.std.specs.declared.option.Option.{Option}
use Rattle.std.specs.List.{slice_get}
use Rattle.std.proofs.lemmas.List.{get_or-set_same, length-set, set-get_or}
use Rattle.std.proofs.lemmas.Option.{slice_get_read}
use Rattle.tn_base.specs.declared.event.Event.{Event}
use Rattle.tn_base.specs.Does.{Does}
use Rattle.tn_base.specs.Parts.{kind_of}
use Rattle.tn_base.specs.declared.event.Event.TheVariants as event
use Rattle.tn_base.specs.declared.ids.PartId.{PartId}
use Rattle.tn_base.specs.declared.ids.ThreadId.{ThreadId}
use Rattle.tn_base.specs.declared.shape.ShapeNumbers.{ShapeNumbers}
use Rattle.std.specs.declared.result.Result.{Result}
use Rattle.std.specs.declared.result.Result.TheVariants.{Ok, Err}
use Rattle.std.specs.declared.alloc.AllocError.{AllocError}
use Rattle.tn_tile.specs.declared.deliver.Did.{Did}
use Rattle.tn_tile.specs.declared.step.Turned.{Turned}
use Rattle.tn_tile.specs.declared.step.Turned.TheVariants as turned
use Rattle.tn_tile.specs.Turns.{moved}
use Rattle.tn_world.specs.Plays.{Turns, TurnsUpTo}
use Rattle.tn_part.specs.Turning.{TurnsPart, TurnsUpTo as PartTurnsUpTo}
use Rattle.tn_rows.specs.Ends.{ended_on, final_of}
use Rattle.tn_rows.specs.Events.{after, happened, with_part, FitsKind, IsWorld}
use Rattle.tn_rows.specs.Places.{One, at_part, part_of, places}
use Rattle.tn_stamp.specs.declared.entry.Crossing.TheVariants as crossing
use Rattle.tn_rows.specs.PartView.{PartView}
use Rattle.tn_rows.specs.WorldView.{WorldView}
use Rattle.tn_rows.proofs.Keeping.{kind_stays, world_keeps}
use Rattle.tn_part.proofs.Standing.{placed, routed}

-- what stands at a place of a machine
pub record At (w : WorldView) (p : ℕ) (part : PartView) : Type 0 where
  pub within : p < length w.parts
  pub is : part ≡ get_or w.parts p part

pub read : (w : WorldView) (p : ℕ) (part : PartView) → At w p part → slice_get w.parts p ≡ Some part
read w p part a = slice_get_read w.parts (length w.parts) p part refl a.within a.is

-- a thread's events by their part
pub at_place : (w : WorldView) (e : Event) (p : ℕ) (part : PartView) → places w.shape e ≡ One p → At w p part → happened e w ≡ option_map (with_part w p) (after e crossing.None part)
at_place w e p part here a = placed w e p part here (read w p part a)

pub one_place : (n : ShapeNumbers) (t : ThreadId) (p : ℕ) → part_of n t ≡ Some p → at_part (part_of n t) ≡ One p
one_place n t p e = ap at_part e

-- the part that was there, put back
pub back : (w : WorldView) (p : ℕ) (part : PartView) → At w p part → record w { parts = set w.parts p part } ≡ w
back w p part a = let s : set w.parts p part ≡ w.parts = rw (← a.is) at (set-get_or w.parts p part) in rw s refl

does_by : (w : WorldView) (p : ℕ) (o : Option PartView) (old new : PartView) (h : Bool) → At w p old → Does h o old new → Does h (option_map (with_part w p) o) w (record w { parts = set w.parts p new })
does_by w p None old new h a d = (d.0, rw d.1 (back w p old a))
does_by w p (Some v) old new h a d = (d.0, rw d.1 refl)

-- what a call does on a part, it does on the machine
pub does_world : (w : WorldView) (e : Event) (p : ℕ) (old new : PartView) (h : Bool) → places w.shape e ≡ One p → At w p old → Does h (after e crossing.None old) old new → Does h (happened e w) w (record w { parts = set w.parts p new })
does_world w e p old new h here a d = subst (λ o. Does h o w (record w { parts = set w.parts p new })) (sym (at_place w e p old here a)) (does_by w p (after e crossing.None old) old new h a d)

kept_by : (e : Event) (w : WorldView) (p : ℕ) (o : Option PartView) (old new : PartView) (h : Bool) → after e crossing.None old ≡ o → Does h o old new → FitsKind w.shape (kind_of w.shape p) old → FitsKind w.shape (kind_of w.shape p) new
kept_by e w p None old new h is d f = rw d.1 f
kept_by e w p (Some v) old new h is d f = rw d.1 (kind_stays e crossing.None w.shape (kind_of w.shape p) old v is f)

-- and the machine stays one
pub does_keeps : (w : WorldView) (e : Event) (p : ℕ) (old new : PartView) (h : Bool) → At w p old → Does h (after e crossing.None old) old new → IsWorld w → IsWorld (record w { parts = set w.parts p new })
does_keeps w e p old new h a d i =
    world_keeps w p old new (read w p old a) (kept_by e w p (after e crossing.None old) old new h refl d) i

-- the longest turn on a part is the longest one of the machine
pub turns_world : (w : WorldView) (t : ThreadId) (p : ℕ) (old new : PartView) (r : Turned) → part_of w.shape t ≡ Some p → At w p old → TurnsPart r t old new → Turns r t w (record w { parts = set w.parts p new })
turns_world w t p old new (turned.Moved n) here a d = (
  at_place w (event.Turn t n) p old (one_place w.shape t p here) a ∙ ap (λ o. option_map (with_part w p) o) d.0,
  λ m h. at_place w (event.Turn t m) p old (one_place w.shape t p here) a ∙ ap (λ o. option_map (with_part w p) o) (d.1 m h),
)
turns_world w t p old new turned.Nothing here a d = (
  rw d.0 (back w p old a),
  λ m. at_place w (event.Turn t m) p old (one_place w.shape t p here) a ∙ ap (λ o. option_map (with_part w p) o) (d.1 m),
)

-- a turn up to a number of steps on a part is one of the machine
pub up_to_world : (w : WorldView) (t : ThreadId) (n p : ℕ) (old new : PartView) (r : Turned) → part_of w.shape t ≡ Some p → At w p old → PartTurnsUpTo r t n old new → TurnsUpTo r t n w (record w { parts = set w.parts p new })
up_to_world w t n p old new (turned.Moved made) here a d = (
  at_place w (event.Turn t made) p old (one_place w.shape t p here) a ∙ ap (λ o. option_map (with_part w p) o) d.0,
  λ apart. at_place w (event.Turn t n) p old (one_place w.shape t p here) a ∙ ap (λ o. option_map (with_part w p) o) (d.1 apart),
)
up_to_world w t n p old new turned.Nothing here a d = (
  rw d.0 (back w p old a),
  at_place w (event.Turn t n) p old (one_place w.shape t p here) a ∙ ap (λ o. option_map (with_part w p) o) d.1,
)

up_to_kept : (w : WorldView) (t : ThreadId) (n p : ℕ) (old new : PartView) (r : Turned) → PartTurnsUpTo r t n old new → FitsKind w.shape (kind_of w.shape p) old → FitsKind w.shape (kind_of w.shape p) new
up_to_kept w t n p old new (turned.Moved made) d f = kind_stays (event.Turn t made) crossing.None w.shape (kind_of w.shape p) old new d.0 f
up_to_kept w t n p old new turned.Nothing d f = rw d.0 f

pub up_to_keeps : (w : WorldView) (t : ThreadId) (n p : ℕ) (old new : PartView) (r : Turned) → At w p old → PartTurnsUpTo r t n old new → IsWorld w → IsWorld (record w { parts = set w.parts p new })
up_to_keeps w t n p old new r a d i = world_keeps w p old new (read w p old a) (up_to_kept w t n p old new r d) i

-- whether a turn ends a run is told by its part
pub final_turn : (w : WorldView) (t : ThreadId) (p : ℕ) (old new : PartView) → part_of w.shape t ≡ Some p → At w p old → final_of (event.Turn t 1) (record w { parts = set w.parts p new }) ≡ ended_on t new
final_turn w t p old new here a =
    let parts = set w.parts p new in
    let within : p < length parts = rw (length-set w.parts p new) a.within in
    let there : slice_get parts p ≡ Some new = slice_get_read parts (length parts) p new refl within (sym (get_or-set_same w.parts p new new a.within)) in
    ap (λ q. option_and_then (ended_on t) (option_and_then (slice_get parts) q)) here ∙ ap (λ o. option_and_then (ended_on t) o) there

turned_keeps : (w : WorldView) (t : ThreadId) (p : ℕ) (old new : PartView) (r : Turned) → TurnsPart r t old new → FitsKind w.shape (kind_of w.shape p) old → FitsKind w.shape (kind_of w.shape p) new
turned_keeps w t p old new (turned.Moved n) d f = kind_stays (event.Turn t n) crossing.None w.shape (kind_of w.shape p) old new d.0 f
turned_keeps w t p old new turned.Nothing d f = rw d.0 f

pub turns_keeps : (w : WorldView) (t : ThreadId) (p : ℕ) (old new : PartView) (r : Turned) → At w p old → TurnsPart r t old new → IsWorld w → IsWorld (record w { parts = set w.parts p new })
turns_keeps w t p old new r a d i = world_keeps w p old new (read w p old a) (turned_keeps w t p old new r d) i

-- the same where memory may be refused
abbrev pub DoesOr : {V : Type 0} → Result Did AllocError → Option V → V → V → Type 0
DoesOr r o old new = MatchResult r (λ did. Does (moved did) o old new) (λ _. new ≡ old)

pub does_or_world : (w : WorldView) (e : Event) (p : ℕ) (old new : PartView) (r : Result Did AllocError) → places w.shape e ≡ One p → At w p old → DoesOr r (after e crossing.None old) old new → DoesOr r (happened e w) w (record w { parts = set w.parts p new })
does_or_world w e p old new (Ok did) here a d = does_world w e p old new (moved did) here a d
does_or_world w e p old new (Err x) here a d = rw d (back w p old a)

pub does_or_keeps : (w : WorldView) (e : Event) (p : ℕ) (old new : PartView) (r : Result Did AllocError) → At w p old → DoesOr r (after e crossing.None old) old new → IsWorld w → IsWorld (record w { parts = set w.parts p new })
does_or_keeps w e p old new (Ok did) a d i = does_keeps w e p old new (moved did) a d i
does_or_keeps w e p old new (Err x) a d i = world_keeps w p old new (read w p old a) (λ f. rw d f) i

-- ---- routings

-- what a routing does on a part, it does on the machine
pub routes_world : (w : WorldView) (p : PartId) (old new : PartView) (h : Bool) → At w p.0 old → Does h (after (event.Route p) crossing.None old) old new → IsWorld w → Does h (happened (event.Route p) w) w (record w { parts = set w.parts p.0 new })
routes_world w p old new h a d i =
    subst (λ o. Does h o w (record w { parts = set w.parts p.0 new })) (sym (routed w p old (read w p.0 old a) i)) (does_by w p.0 (after (event.Route p) crossing.None old) old new h a d)
