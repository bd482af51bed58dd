-- On a machine that flows no run ends with a bad key, and none is jammed if it goes on.
use Rattle.std.proofs.Common.{ℕ, ◌≡◌, ap, ◌==◌, Bool, true, false, cond, refl, sym, subst, List, Option, Some, None, option_map}
use Rattle.std.specs.Prelude.{MatchOption, is_some, option_and_then, slice_get}
use Rattle.std.proofs.lemmas.Option.{get_or_from_slice_get}
use Rattle.tn_base.specs.declared.event.Event.{Event}
use Rattle.tn_base.specs.declared.event.Event.TheVariants as event
use Rattle.tn_base.specs.declared.event.Outcome.{Outcome}
use Rattle.tn_base.specs.declared.event.Outcome.TheVariants as outcome
use Rattle.tn_base.specs.declared.ids.ThreadId.{ThreadId}
use Rattle.tn_base.specs.declared.shape.ShapeNumbers.{ShapeNumbers}
use Rattle.tn_base.specs.Address.{place_in_tile}
use Rattle.tn_detect.specs.declared.answer.Answer.{Answer}
use Rattle.tn_detect.specs.declared.answer.Answer.TheVariants as answer
use Rattle.tn_keys.specs.Tables.{Table}
use Rattle.tn_rows.specs.Ends.{bad_key_on, done_on, done_with, ended_by, ended_on, final_after, final_of, spent_by}
use Rattle.tn_rows.specs.Events.{Rests}
use Rattle.tn_rows.specs.PartView.{PartView, TileV, RouterV, LinkV, HostV, DetectorV, AbsentV}
use Rattle.tn_rows.specs.Places.{detector_part, part_of}
use Rattle.tn_rows.specs.WorldView.{WorldView}
use Rattle.tn_thread.specs.declared.state.ThreadState.{ThreadState}
use Rattle.tn_thread.specs.declared.state.ThreadState.TheVariants as state
use Rattle.tn_tile.specs.Rows.{is_here}
use Rattle.tn_tile.specs.Step.{thread_at}
use Rattle.polite_flow.specs.Flowing.{IsFlowing}
use Rattle.polite_flow.specs.Standing.{IsEnabled}
use Rattle.polite_flow.specs.World.{PartOnWay}
use Rattle.job_flow.specs.Laws.{IsProper}

-- no final event, or a proper outcome
abbrev IsOther : Option Outcome → Type 0
IsOther None = Unit {0}
IsOther (Some f) = IsProper f

each_part : (f : PartView → Option Outcome) (o : Option PartView) → ((x : PartView) → o ≡ Some x → IsOther (f x)) → IsOther (option_and_then f o)
each_part f None each = tt
each_part f (Some x) each = each x refl

spent_other : (t : ThreadId) (used : Bool) → IsOther (spent_by t used)
spent_other t true = tt
spent_other t false = tt

ended_other : (t : ThreadId) (q : ThreadState) (used : Bool) → IsOther (ended_by t q used)
ended_other t state.Run used = spent_other t used
ended_other t (state.Wait waits) used = spent_other t used
ended_other t (state.Idle vote) used = spent_other t used
ended_other t (state.Answered value) used = spent_other t used
ended_other t (state.Dead value) used = spent_other t used
ended_other t (state.Trapped why) used = tt

if_other : (b : Bool) (o : Option Outcome) → IsOther o → IsOther (cond b o None)
if_other true o h = h
if_other false o h = tt

turn_other : (t : ThreadId) (x : PartView) → IsOther (ended_on t x)
turn_other t (TileV v) = let k = place_in_tile v.plan.shape t.0 in if_other (is_here v.plan t.0) _ (ended_other t (thread_at v.now k).state ((thread_at v.now k).steps == v.plan.shape.fuel))
turn_other t (RouterV v) = tt
turn_other t (LinkV v) = tt
turn_other t (HostV s) = tt
turn_other t (DetectorV v) = tt
turn_other t AbsentV = tt

answer_other : (o : Option Answer) → IsOther (done_with o)
answer_other None = tt
answer_other (Some (answer.Live votes)) = tt
answer_other (Some answer.AllDead) = tt

done_other : (x : PartView) → IsOther (done_on x)
done_other (TileV v) = tt
done_other (RouterV v) = tt
done_other (LinkV v) = tt
done_other (HostV s) = tt
done_other (DetectorV v) = answer_other v.now.answer
done_other AbsentV = tt

key_other : (n : ShapeNumbers) (tables : List Table) (p : ℕ) (x : PartView) → PartOnWay n tables p x → IsOther (bad_key_on x)
key_other n tables p (TileV v) on = tt
key_other n tables p (RouterV v) on = subst (λ o. IsOther (option_map outcome.BadKey o)) (sym on.ended) tt
key_other n tables p (LinkV v) on = tt
key_other n tables p (HostV s) on = tt
key_other n tables p (DetectorV v) on = tt
key_other n tables p AbsentV on = tt

event_other : (tables : List Table) (e : Event) (w : WorldView) → IsFlowing tables w → IsOther (final_of e w)
event_other tables (event.Turn t n) w f = each_part (ended_on t) (option_and_then (slice_get w.parts) (part_of w.shape t)) (λ x is. turn_other t x)
event_other tables (event.Deliver who) w f = tt
event_other tables (event.Depart p l) w f = tt
event_other tables (event.Arrive l p) w f = tt
event_other tables (event.Route p) w f = each_part bad_key_on (slice_get w.parts p.0) (λ x is. key_other w.shape tables p.0 x (subst (PartOnWay w.shape tables p.0) (get_or_from_slice_get w.parts p.0 x AbsentV is) (f.ways p.0)))
event_other tables event.HostPut w f = tt
event_other tables event.HostTake w f = tt
event_other tables (event.Report p) w f = tt
event_other tables event.Begin w f = tt
event_other tables (event.Confirm p) w f = tt
event_other tables event.Announce w f = each_part done_on (slice_get w.parts (detector_part w.shape)) (λ x is. done_other x)
event_other tables (event.Release p) w f = tt
event_other tables (event.Go p) w f = tt

after_other : (tables : List Table) (o : Option Event) (w : WorldView) → IsFlowing tables w → IsOther (final_after o w)
after_other tables None w f = tt
after_other tables (Some e) w f = event_other tables e w f

pub no_bad_key : (tables : List Table) (last : Option Event) (w : WorldView) (key : ℕ) → IsFlowing tables w → final_after last w ≡ Some (outcome.BadKey key) → ⊥
no_bad_key tables last w key f e = subst IsOther e (after_other tables last w f)

not_resting : (w : WorldView) (P : Type 0) → IsEnabled w → Rests w → P
not_resting w P goes rests = let none = rests goes.0 in let some = goes.1 in let x = ap (λ (o : Option WorldView). is_some o) none in absurd (cc (some, x))

-- the outcome of a run that goes on unless it is over
pub proper : (tables : List Table) (last : Option Event) (w : WorldView) (o : Option Outcome) (out : Outcome) → final_after last w ≡ o → IsFlowing tables w → (o ≡ None → IsEnabled w) → MatchOption o (Rests w × (out ≡ outcome.Jammed)) (λ f. out ≡ f) → IsProper out
proper tables last w None out e f goes m = not_resting w (IsProper out) (goes refl) m.0
proper tables last w (Some over) out e f goes m = subst IsProper (sym m) (subst IsOther e (after_other tables last w f))
