-- Runs, event by event.
use Rattle.std.proofs.Common.{◌≡◌, ◌≢◌, ◌∙◌, ◌⊎◌, inl, inr, ⊎_elim, ℕ, ◌+◌, ◌<◌, ◌≤◌, Bool, true, false, List, [], ◌∷◌, ◌++◌, length, take, drop, get_or, Option, Some, None, is_some, refl, sym, ap, subst, arith}
use Rattle.std.specs.Prelude.{IsSome}
use Rattle.std.proofs.Math.Seq.{length-take-le, take_all}
use Rattle.std.proofs.lemmas.List.{drop_more, take-append-drop, take_more}
use Rattle.tn_base.specs.declared.event.Event.{Event}
use Rattle.tn_check.specs.Checks.{Checks, FaultAt}
use Rattle.tn_check.specs.declared.check.Verdict.TheVariants as verdict
use Rattle.tn_rows.specs.Ends.{final_after, final_of, last_of}
use Rattle.tn_rows.specs.Events.{happened}
use Rattle.tn_rows.specs.Runs.{Run}
use Rattle.tn_rows.specs.WorldView.{WorldView}

-- the events before this place are a run to this machine, and the mark says whether the last of them is final
pub record SoFar (start : WorldView) (events : List Event) (place at : ℕ) (ended : Bool) (now : WorldView) : Type 0 where
  pub counted : at ≡ place
  pub run : Run start (take place events) now
  pub marked : ended ≡ is_some (final_after (last_of (take place events)) now)

pub none_yet : (start : WorldView) (events : List Event) → SoFar start events 0 0 false start
none_yet start events = record { counted = refl; run = refl; marked = refl }

last-append : (before : List Event) (e : Event) → last_of (before ++ e ∷ []) ≡ Some e
last-append [] e = refl
last-append (f ∷ []) e = refl
last-append (f ∷ g ∷ gs) e = last-append (g ∷ gs) e

-- the first event of a run that goes on is not final
goes_on : (start mid end : WorldView) (e : Event) (es : List Event) (P : Type 0) → Run mid es end → final_after (last_of (e ∷ es)) end ≡ None → (es ≢ [] → final_of e mid ≡ None) → final_of e mid ≡ None
goes_on start mid end e [] P run calm not = subst (λ (w : WorldView). final_of e w ≡ None) (sym run) calm
goes_on start mid end e (f ∷ fs) P run calm not = not (λ same. cc same)

rest_calm : (mid end : WorldView) (e : Event) (es : List Event) → Run mid es end → final_after (last_of (e ∷ es)) end ≡ None → final_after (last_of es) end ≡ None
rest_calm mid end e [] run calm = refl
rest_calm mid end e (f ∷ fs) run calm = calm

-- a run whose last event is not final, and one event more
pub run_more : (start mid end : WorldView) (before : List Event) (e : Event) → Run start before mid → final_after (last_of before) mid ≡ None → happened e mid ≡ Some end → Run start (before ++ e ∷ []) end
run_more start mid end [] e run calm step = (end, subst (λ (w : WorldView). happened e w ≡ Some end) (sym run) step, λ more. absurd (more refl), refl)
run_more start mid end (f ∷ fs) e run calm step =
    (run.0, run.1, λ more. goes_on start run.0 mid f fs (Unit {0}) run.3 calm run.2, run_more run.0 mid end fs e run.3 (rest_calm run.0 mid f fs run.3 calm) step)

not_some : {A : Type 0} (o : Option A) (b : Bool) → b ≡ is_some o → b ≡ false → o ≡ None
not_some None b is no_mark = refl
not_some (Some x) b is no_mark = let clash : true ≡ false = sym is ∙ no_mark in cc clash

some_there : {A : Type 0} (o : Option A) (b : Bool) → b ≡ is_some o → b ≡ true → IsSome o
some_there None b is mark = cc (is, mark)
some_there (Some x) b is mark = refl

-- one event more was made
pub one_more : (start now next : WorldView) (events : List Event) (place at : ℕ) (d : Event) (ended more : Bool) → SoFar start events place at ended now → ended ≡ false → place < length events → happened (get_or events place d) now ≡ Some next
    → more ≡ is_some (final_of (get_or events place d) next) → SoFar start events (place + 1) (at + 1) more next
one_more start now next events place at d ended more s not less step marks =
    let e = get_or events place d in
    let longer : take (place + 1) events ≡ take place events ++ e ∷ [] = take_more events place d less in
    record {
      counted = ap (λ n. n + 1) s.counted;
      run = rw longer (run_more start now next (take place events) e s.run (not_some (final_after (last_of (take place events)) now) ended s.marked not) step);
      marked = rw (longer, last-append (take place events) e) marks;
    }

-- all events were made
pub all_made : (start now : WorldView) (events : List Event) (place at : ℕ) (ended : Bool) → SoFar start events place at ended now → length events ≤ place → Checks verdict.Run start events
all_made start now events place at ended s all = (now, subst (λ (es : List Event). Run start es now) (take_all place events all) s.run)

-- the next event is at fault
pub fault_at : (start now : WorldView) (events : List Event) (place at : ℕ) (d : Event) (ended : Bool) → SoFar start events place at ended now → place < length events → ((happened (get_or events place d) now ≡ None) ⊎ (ended ≡ true)) → FaultAt at start events
fault_at start now events place at d ended s less why = record {
  before = take place events;
  event = get_or events place d;
  others = drop (place + 1) events;
  split = sym (take-append-drop place events) ∙ ap (λ (es : List Event). take place events ++ es) (drop_more events place d less);
  place = length-take-le place events (omega (arith, less)) ∙ sym s.counted;
  end = now;
  run = s.run;
  fault = ⊎_elim (λ none. inl none) (λ mark. inr (some_there (final_after (last_of (take place events)) now) ended s.marked mark)) why;
}
