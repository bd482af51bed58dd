-- Runs of longest turns in which no event is final yet.
use Rattle.std.specs.declared.option.Option.{Option}
use Rattle.std.specs.declared.result.Result.{Result}
use Rattle.std.specs.declared.result.Result.TheVariants.{Ok, Err}
use Rattle.std.specs.declared.alloc.AllocError.{AllocError}
use Rattle.std.proofs.Common.{◌≡◌, ℕ, ◌≤◌, ◌<◌, length, length-append, is_some, Bool, true, false, arith, List, [], ◌∷◌, ◌++◌, None, Some, refl, sym, subst, MatchOption, MatchResult, IsErr, ap, ◌∙◌}
use Rattle.tn_base.specs.declared.event.Event.{Event}
use Rattle.tn_base.specs.declared.event.Event.TheVariants as event
use Rattle.tn_base.specs.declared.event.Outcome.{Outcome}
use Rattle.tn_base.specs.declared.ids.PartId.{PartId}
use Rattle.tn_part.specs.declared.visit.Visit.{Visit}
use Rattle.tn_part.specs.declared.visit.Visit.TheVariants as visit
use Rattle.tn_part.specs.Visits.{visit_event}
use Rattle.tn_rows.specs.Ends.{final_after, final_of, last_of}
use Rattle.tn_rows.specs.Events.{happened, Rests}
use Rattle.tn_rows.specs.Runs.{IsLongest, LongTurns, Run}
use Rattle.tn_rows.specs.WorldView.{WorldView}
use Rattle.tn_base.specs.Does.{Does}
use Rattle.tn_tile.specs.declared.deliver.Did.{Did}
use Rattle.tn_tile.specs.declared.deliver.Did.TheVariants as did_as
use Rattle.tn_tile.specs.Turns.{moved}
use Rattle.tn_part.proofs.Crossings.{does_some}
use Rattle.tn_part.proofs.Listed.{first_some, is_here}
use Rattle.tn_world.specs.declared.play.Made.{Made}
use Rattle.tn_part.specs.First.{First}
use Rattle.tn_world.specs.Plays.{Makes, MakesOr, Played, Reached, Told}

-- each event is enabled in turn, turns are the longest, and none is final
abbrev pub Calm : WorldView → List Event → WorldView → Type 0
Calm start [] end = start ≡ end
Calm start (e ∷ es) end = (mid : WorldView) × (happened e start ≡ Some mid) × IsLongest e start × (final_of e mid ≡ None) × Calm mid es end

-- what an event makes of a machine is one machine
one_end : (e : Event) (start a b : WorldView) → happened e start ≡ Some a → happened e start ≡ Some b → a ≡ b
one_end e start a b h k = let is : Some a ≡ Some b = sym h ∙ k in cc is

calm_runs : (start : WorldView) (history : List Event) (end : WorldView) → Calm start history end → Run start history end
calm_runs start [] end h = h
calm_runs start (e ∷ es) end h = (h.0, h.1, λ _. h.3, calm_runs h.0 es end h.4)

calm_longest : (start : WorldView) (history : List Event) (end : WorldView) → Calm start history end → LongTurns start history
calm_longest start [] end h = tt
calm_longest start (e ∷ es) end h = (h.2, λ mid is. subst (λ (m : WorldView). LongTurns m es) (one_end e start h.0 mid h.1 is) (calm_longest h.0 es end h.4))

pub calm_last : (start : WorldView) (history : List Event) (end : WorldView) → Calm start history end → final_after (last_of history) end ≡ None
calm_last start [] end h = refl
calm_last start (e ∷ []) end h = subst (λ (m : WorldView). final_of e m ≡ None) h.4 h.3
calm_last start (e ∷ f ∷ es) end h = calm_last h.0 (f ∷ es) end h.4

-- one more event that is not final
pub calm_more : (start : WorldView) (history : List Event) (mid end : WorldView) (e : Event) → Calm start history mid → Makes e mid end → final_of e end ≡ None → Calm start (history ++ e ∷ []) end
calm_more start [] mid end e h step calm =
    let s : Makes e start end = subst (λ (m : WorldView). Makes e m end) (sym h) step in
    (end, s.happens, s.longest, calm, refl)
calm_more start (f ∷ fs) mid end e h step calm = (h.0, h.1, h.2, h.3, calm_more h.0 fs mid end e h.4 step calm)

-- the last event may be final
calm_final : (start : WorldView) (history : List Event) (mid end : WorldView) (e : Event) → Calm start history mid → Makes e mid end → Run start (history ++ e ∷ []) end
calm_final start [] mid end e h step =
    let s : Makes e start end = subst (λ (m : WorldView). Makes e m end) (sym h) step in
    (end, s.happens, λ ne. absurd (ne refl), refl)
calm_final start (f ∷ fs) mid end e h step = (h.0, h.1, λ _. h.3, calm_final h.0 fs mid end e h.4 step)

final_longest : (start : WorldView) (history : List Event) (mid end : WorldView) (e : Event) → Calm start history mid → Makes e mid end → LongTurns start (history ++ e ∷ [])
final_longest start [] mid end e h step =
    let s : Makes e start end = subst (λ (m : WorldView). Makes e m end) (sym h) step in
    (s.longest, λ m is. tt)
final_longest start (f ∷ fs) mid end e h step =
    (h.2, λ m is. subst (λ (w : WorldView). LongTurns w (fs ++ e ∷ [])) (one_end f start h.0 m h.1 is) (final_longest h.0 fs mid end e h.4 step))

pub last_of-append : (history : List Event) (e : Event) → last_of (history ++ e ∷ []) ≡ Some e
last_of-append [] e = refl
last_of-append (f ∷ []) e = refl
last_of-append (f ∷ g ∷ gs) e = last_of-append (g ∷ gs) e

-- a run that ends with a final event
pub stops_final : (history : List Event) (e : Event) (m : WorldView) (o : Outcome) → final_of e m ≡ Some o → MatchOption (final_after (last_of (history ++ e ∷ [])) m) (Rests m) (λ o. Unit {0})
stops_final history e m o p = rw (last_of-append history e, p) (tt)

-- a run after which no event is enabled
pub stops_rest : (start : WorldView) (history : List Event) (m : WorldView) → Calm start history m → Rests m → MatchOption (final_after (last_of history) m) (Rests m) (λ o. Unit {0})
stops_rest start history m h rests = rw (calm_last start history m h) rests

-- what `play` leaves at each of its ends
pub played_rest : (limit : ℕ) (start : WorldView) (history : List Event) (mid end : WorldView) → Calm start history mid → length history ≤ limit → end ≡ mid → Rests mid → Played limit start history end
played_rest limit start history mid end calm few same rests = rw same (record {
  run = calm_runs start history mid calm;
  longest = calm_longest start history mid calm;
  few = few;
  stops = λ _. stops_rest start history mid calm rests;
})

pub played_limit : (limit : ℕ) (start : WorldView) (history : List Event) (end : WorldView) → Calm start history end → length history ≤ limit → limit ≤ length history → Played limit start history end
played_limit limit start history end calm few all = record {
  run = calm_runs start history end calm;
  longest = calm_longest start history end calm;
  few = few;
  stops = λ h. absurd (omega (arith, all, h));
}

final_by : (o : Option Outcome) (history : List Event) (e : Event) (m : WorldView) → final_of e m ≡ o → is_some o ≡ true → MatchOption (final_after (last_of (history ++ e ∷ [])) m) (Rests m) (λ o. Unit {0})
final_by None history e m is some = cc some
final_by (Some o) history e m is some = stops_final history e m o is

pub played_final : (limit : ℕ) (start : WorldView) (history now : List Event) (mid end : WorldView) (e : Event) → Calm start history mid → length history < limit → now ≡ history ++ e ∷ [] → Makes e mid end → is_some (final_of e end) ≡ true → Played limit start now end
played_final limit start history now mid end e calm less is step some = rw is (record {
  run = calm_final start history mid end e calm step;
  longest = final_longest start history mid end e calm step;
  few = omega (arith, less, length-append history (e ∷ []));
  stops = λ _. final_by (final_of e end) history e end refl some;
})

not_final : (o : Option Outcome) → is_some o ≡ false → o ≡ None
not_final None e = refl
not_final (Some o) e = cc e

pub calm_on : (limit : ℕ) (start : WorldView) (history now : List Event) (mid end : WorldView) (e : Event) → Calm start history mid → length history < limit → now ≡ history ++ e ∷ [] → Makes e mid end → is_some (final_of e end) ≡ false → Calm start now end × (length now ≤ limit)
calm_on limit start history now mid end e calm less is step not = rw is (
  calm_more start history mid end e calm step (not_final (final_of e end) not),
  omega (arith, less, length-append history (e ∷ [])),
)

pub reached : (limit : ℕ) (start : WorldView) (history : List Event) (mid end : WorldView) (e : Event) → Calm start history mid → length history < limit → Makes e mid end → Reached limit start end
reached limit start history mid end e calm less step =
    (history ++ e ∷ [], omega (arith, less, length-append history (e ∷ [])), calm_final start history mid end e calm step, final_longest start history mid end e calm step)

-- where nothing more was made
pub reached_same : (limit : ℕ) (start : WorldView) (history : List Event) (mid end : WorldView) → Calm start history mid → length history ≤ limit → end ≡ mid → Reached limit start end
reached_same limit start history mid end calm few same = rw same (history, few, calm_runs start history mid calm, calm_longest start history mid calm)

-- a call that failed
pub on_error : {X E : Type 0} (r : Result X E) (P : X → Type 0) (Q : Type 0) → IsErr r → Q → MatchResult r P (λ _. Q)
on_error (Ok x) P Q err q = cc err
on_error (Err e) P Q err q = q

-- what a call made of an event that is no turn, where it made one
does_nothing : {V : Type 0} (h : Bool) (o : Option V) (old new : V) → h ≡ false → Does h o old new → (new ≡ old) × (o ≡ None)
does_nothing h None old new e d = (d.1, refl)
does_nothing h (Some v) old new e d = let clash : true ≡ false = sym d.0 ∙ e in cc clash

pub makes : (r : Option Made) (did : Did) (e : Event) (ends : Bool) (old new : WorldView) → IsLongest e old → ends ≡ is_some (final_of e new) → MatchOption r (did ≡ did_as.Nothing) (λ m. (did ≡ did_as.Moved) × (m ≡ record { event = e; ends = ends })) → Does (moved did) (happened e old) old new →
    MatchOption r ((new ≡ old) × (happened e old ≡ None)) (λ m. Told m.event m.ends old new)
makes None did e ends old new longest told made does = does_nothing (moved did) (happened e old) old new (ap moved made) does
makes (Some m) did e ends old new longest told made does =
    subst (λ (m : Made). Told m.event m.ends old new) (sym made.1) (record { makes = record { happens = does_some (moved did) (happened e old) old new (ap moved made.0) does; longest = longest }; ends = told })

went_by : (f : Event) (r : Option Made) (did : Did) (e : Event) (old new : WorldView) → e ≡ f → IsLongest f old → false ≡ is_some (final_of f new) → MatchOption r (did ≡ did_as.Nothing) (λ m. (did ≡ did_as.Moved) × (m ≡ record { event = e; ends = false })) → Does (moved did) (happened f old) old new →
    MatchOption r ((new ≡ old) × (happened e old ≡ None)) (λ m. Told m.event m.ends old new)
went_by f r did e old new is longest goes_on made does =
    makes r did e false old new (subst (λ (e : Event). IsLongest e old) (sym is) longest) (subst (λ (e : Event). false ≡ is_some (final_of e new)) (sym is) goes_on) made
    (subst (λ (e : Event). Does (moved did) (happened e old) old new) (sym is) does)

-- a visit of the detector ends no run
pub visit_made : (v : Visit) (p : PartId) (r : Option Made) (did : Did) (e : Event) (old new : WorldView) → e ≡ visit_event v p → MatchOption r (did ≡ did_as.Nothing) (λ m. (did ≡ did_as.Moved) × (m ≡ record { event = e; ends = false })) → Does (moved did) (happened (visit_event v p) old) old new →
    MatchOption r ((new ≡ old) × (happened e old ≡ None)) (λ m. Told m.event m.ends old new)
visit_made visit.Report p r did e old new is made does = went_by (event.Report p) r did e old new is tt refl made does
visit_made visit.Confirm p r did e old new is made does = went_by (event.Confirm p) r did e old new is tt refl made does
visit_made visit.Release p r did e old new is made does = went_by (event.Release p) r did e old new is tt refl made does
visit_made visit.Go p r did e old new is made does = went_by (event.Go p) r did e old new is tt refl made does

-- the first event that is enabled is made
by_made : {M : Type 0} (r : Option M) (made_by : M → WorldView → WorldView → Type 0) (old new : WorldView) (xs : List Event) (e : Event) → First old xs e → MatchOption r ((new ≡ old) × (happened e old ≡ None)) (λ m. made_by m old new) → MatchOption r ((new ≡ old) × Rests old) (λ m. made_by m old new)
by_made None made_by old new xs e first made =
    let some : is_some (happened e old) ≡ true = is_here (happened e old) (first_some old xs e first) in
    let none : is_some (happened e old) ≡ false = ap (λ (o : Option WorldView). is_some o) made.1 in
    let clash : true ≡ false = sym some ∙ none in cc clash
by_made (Some m) made_by old new xs e first made = made

pub first_made : (r : Result (Option Made) AllocError) (old new : WorldView) (xs : List Event) (e : Event) → First old xs e → MakesOr r (happened e old ≡ None) old new → MakesOr r (Rests old) old new
first_made (Ok o) old new xs e first made = by_made o (λ m old new. Told m.event m.ends old new) old new xs e first made
first_made (Err x) old new xs e first made = made
