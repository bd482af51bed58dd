-- What a cut of the merge is.
use Rattle.std.proofs.Common.{◌≡◌, ◌∙◌, ◌⊎◌, inl, inr, ℕ, Bool, true, false, List, None, Some, refl, sym, ap, subst, take, is_some, ◌||◌, ◌&&◌, ◌==◌, ◌∷◌, [], suc, cond, filter, length, arith, MatchOption}
use Rattle.std.specs.declared.option.Option.{Option}
use Rattle.std.specs.List.{All, list_all}
use Rattle.std.proofs.lemmas.Bool.{eqb-true}
use Rattle.tn_base.specs.declared.event.Event.{Event}
use Rattle.tn_base.specs.declared.event.Outcome.{Outcome}
use Rattle.tn_base.specs.declared.shape.ShapeNumbers.{ShapeNumbers}
use Rattle.tn_rows.proofs.Cutting.{cut_over, cut_whole}
use Rattle.tn_rows.proofs.Walking.{merge_is_walk}
use Rattle.tn_rows.proofs.Ways.{Behind}
use Rattle.tn_rows.specs.Cuts.{IsCut, IsOver}
use Rattle.tn_rows.specs.Ends.{final_after, last_of}
use Rattle.tn_rows.specs.Events.{Rests}
use Rattle.tn_rows.specs.Runs.{Run, Walk}
use Rattle.tn_rows.specs.Stamped.{AreJournals, IsStamped, StampedView, journals_of, machine, presents_of, starts_of}
use Rattle.tn_rows.specs.WorldView.{WorldView}
use Rattle.tn_stamp.specs.declared.entry.Entry.{Entry}
use Rattle.tn_stamp.specs.Merging.{IsMerge}
use Rattle.tn_stamped.specs.Placed.{PlacedView, stamped_of}
use Rattle.tn_settle.proofs.Ends.{calm_none, merge_quiet, none_calm, parts_calm}
use Rattle.tn_settle.proofs.Quiet.{Quiet, cut_quiet, quiet_cut}
use Rattle.tn_settle.proofs.Whole.{whole_by_last, whole_if_calm}
use Rattle.tn_settle.specs.Settles.{CanHappen, IsHistory, ended_here, has_ended, is_last_final, last_here, some_ended}

no_outcome : (o : Option Outcome) → is_some o ≡ false → o ≡ None
no_outcome None e = refl
no_outcome (Some x) e = cc e

over_by : (o : Option Outcome) (P : Type 0) → is_some o ≡ true → MatchOption o P (λ x. Unit {0})
over_by None P e = cc e
over_by (Some x) P e = tt

-- the two tests are equal, if each is false where the other is
same_tests : (a b : Bool) → (a ≡ false → b ≡ false) → (b ≡ false → a ≡ false) → a ≡ b
same_tests true true f g = refl
same_tests false false f g = refl
same_tests true false f g = g refl
same_tests false true f g = sym (f refl)

-- what is said of a run
pub record IsSettled (n : ShapeNumbers) (parts : List StampedView) (start : WorldView) (events : List Event) (end : WorldView) : Type 0 where
  pub run : Run start events end
  pub history : IsHistory parts start events end
  pub ended : is_some (final_after (last_of events) end) ≡ some_ended parts
  pub whole : some_ended parts ≡ false → IsMerge (journals_of parts) events × (end ≡ machine n (presents_of parts))
  pub over : (some_ended parts ≡ true) ⊎ Rests (machine n (presents_of parts)) → IsOver events end

module _ (n : ShapeNumbers) (parts : List StampedView) (link : Behind n) (stamped : All IsStamped parts) (are : AreJournals n parts) (whole cut : List Event) (end : WorldView) (merge : IsMerge (journals_of parts) whole) (is : IsCut (machine n (starts_of parts)) whole cut end) where
  walk : Walk (machine n (starts_of parts)) whole (machine n (presents_of parts))
  walk = merge_is_walk n parts whole link stamped are merge

  -- if no part ended, the last event is not final
  none_final : some_ended parts ≡ false → final_after (last_of cut) end ≡ None
  none_final none =
      let quiet = merge_quiet n parts link stamped are merge.0 merge.1 (none_calm parts none) in
      quiet_cut (machine n (starts_of parts)) whole cut end is (subst (Quiet (machine n (starts_of parts))) (sym merge.2) quiet)

  -- if the last event is not final, no part ended
  none_ended : final_after (last_of cut) end ≡ None → some_ended parts ≡ false
  none_ended none =
      let quiet = cut_quiet (machine n (starts_of parts)) whole cut end (machine n (presents_of parts)) is walk none in
      calm_none parts (parts_calm n parts link stamped are merge.0 (machine n (presents_of parts)) merge.1
      (subst (λ es. Walk (machine n (starts_of parts)) es (machine n (presents_of parts))) merge.2 walk)
      (subst (Quiet (machine n (starts_of parts))) merge.2 quiet))

  ended_is : is_some (final_after (last_of cut) end) ≡ some_ended parts
  ended_is = same_tests (is_some (final_after (last_of cut) end)) (some_ended parts)
      (λ none. none_ended (no_outcome (final_after (last_of cut) end) none))
      (λ none. ap (λ (o : Option Outcome). is_some o) (none_final none))

  over_if : (some_ended parts ≡ true) ⊎ Rests (machine n (presents_of parts)) → IsOver cut end
  over_if (inl ended) = over_by (final_after (last_of cut) end) (Rests end) (ended_is ∙ ended)
  over_if (inr rests) = cut_over (machine n (starts_of parts)) whole cut end (machine n (presents_of parts)) is walk rests

  whole_if : some_ended parts ≡ false → IsMerge (journals_of parts) cut × (end ≡ machine n (presents_of parts))
  whole_if none =
      let all = cut_whole (machine n (starts_of parts)) whole cut end (machine n (presents_of parts)) is walk (none_final none) in
      (subst (IsMerge (journals_of parts)) (sym all.0) merge, all.1)

  pub is_settled : IsSettled n parts (machine n (starts_of parts)) cut end
  is_settled = record {
    run = is.run;
    history = record { whole = whole; merged = merge; cut = is };
    ended = ended_is;
    whole = whole_if;
    over = over_if;
  }

-- the events can be made again from the start
pub can_replay : (n : ShapeNumbers) (parts : List StampedView) (js : List (List Entry)) (whole events : List Event) (start : WorldView) → ((es : List Event) → IsMerge (journals_of parts) es → Walk (machine n (starts_of parts)) es (machine n (presents_of parts)))
    → js ≡ journals_of parts → IsMerge js whole → events ≡ whole → start ≡ machine n (starts_of parts) → CanHappen start events
can_replay n parts js whole events start walk same_journals merge same_events same_start =
    let walks = walk whole (subst (λ k. IsMerge k whole) same_journals merge) in
    (machine n (presents_of parts), subst (λ w. Walk w events (machine n (presents_of parts))) (sym same_start) (subst (λ es. Walk (machine n (starts_of parts)) es (machine n (presents_of parts))) (sym same_events) walks))

pub settled_by : (n : ShapeNumbers) (parts all : List StampedView) (js : List (List Entry)) (whole events kept : List Event) (count : ℕ) (start end : WorldView) → Behind n → parts ≡ all → All IsStamped parts → AreJournals n parts
    → js ≡ journals_of parts → IsMerge js whole → events ≡ whole → start ≡ machine n (starts_of parts) → IsCut start events (take count events) end → kept ≡ take count whole → IsSettled n all (machine n (starts_of all)) kept end
settled_by n parts all js whole events kept count start end link same_parts stamped are same_journals merge same_events same_start cut same_kept =
    let merged : IsMerge (journals_of parts) whole = subst (λ k. IsMerge k whole) same_journals merge in
    let here : IsCut start whole (take count whole) end = subst (λ es. IsCut start es (take count es) end) same_events cut in
    let from : IsCut (machine n (starts_of parts)) whole (take count whole) end = subst (λ w. IsCut w whole (take count whole) end) same_start here in
    let settled = is_settled n parts link stamped are whole (take count whole) end merged from in
    let kept_is : IsSettled n parts (machine n (starts_of parts)) kept end = subst (λ es. IsSettled n parts (machine n (starts_of parts)) es end) (sym same_kept) settled in
    subst (λ ps. IsSettled n ps (machine n (starts_of ps)) kept end) same_parts kept_is

count_more : (b : Bool) (s : StampedView) (p : PlacedView) (ss : List StampedView) (ps : List PlacedView) → length ss ≡ length ps → length (cond b (s ∷ ss) ss) ≡ length (cond b (p ∷ ps) ps)
count_more true s p ss ps same = ap suc same
count_more false s p ss ps same = same

pub count_of : (ps : List PlacedView) → length (filter has_ended (stamped_of ps)) ≡ length (filter ended_here ps)
count_of [] = refl
count_of (p ∷ ps) = count_more (has_ended p.stamped) p.stamped p (filter has_ended (stamped_of ps)) (filter ended_here ps) (count_of ps)

pub all_of : (ps : List PlacedView) → list_all is_last_final (stamped_of ps) ≡ list_all last_here ps
all_of [] = refl
all_of (p ∷ ps) = ap (λ b. is_last_final p.stamped && b) (all_of ps)

none_counted : (parts : List StampedView) → length (filter has_ended parts) ≡ 0 → some_ended parts ≡ false
none_counted [] none = refl
none_counted (s ∷ parts) none = by (has_ended s) refl none (none_counted parts)
  where
    by : (b : Bool) → has_ended s ≡ b → length (cond b (s ∷ filter has_ended parts) (filter has_ended parts)) ≡ 0 → (length (filter has_ended parts) ≡ 0 → some_ended parts ≡ false) → (b || some_ended parts) ≡ false
    by true is none rest = cc none
    by false is none rest = rest none

-- the merge needs no cut
module _ (n : ShapeNumbers) (parts : List StampedView) (link : Behind n) (stamped : All IsStamped parts) (are : AreJournals n parts) (whole : List Event) (ended : ℕ) (last : Bool) (end : WorldView) where
  cut_by : last ≡ list_all is_last_final parts → is_some (final_after (last_of whole) end) ≡ is_some (final_after (last_of whole) (machine n (presents_of parts))) → ended ≡ length (filter has_ended parts) → IsMerge (journals_of parts) whole
      → (z o l f : Bool) → (ended == 0) ≡ z → (ended == 1) ≡ o → last ≡ l → is_some (final_after (last_of whole) end) ≡ f → (z || (o && (l && f))) ≡ true → IsCut (machine n (starts_of parts)) whole whole (machine n (presents_of parts))
  cut_by last_is here count merged true o l f none one is final test = whole_if_calm n parts link stamped are whole (none_counted parts (sym count ∙ eqb-true ended 0 none)) merged
  cut_by last_is here count merged false true true true none one is final test =
      let single : length (filter has_ended parts) ≡ 1 = sym count ∙ eqb-true ended 1 one in
      whole_by_last n parts link stamped are whole (record { few = omega (arith, single); last = sym last_is ∙ is }) merged (sym here ∙ final)
  cut_by last_is here count merged false true true false none one is final test = cc test
  cut_by last_is here count merged false true false f none one is final test = cc test
  cut_by last_is here count merged false false l f none one is final test = cc test

-- the whole merge is the history
pub whole_by : (n : ShapeNumbers) (ps all : List PlacedView) (js : List (List Entry)) (whole : List Event) (start end : WorldView) (ended : ℕ) (last : Bool) → Behind n → ps ≡ all → All IsStamped (stamped_of ps) → AreJournals n (stamped_of ps)
    → js ≡ journals_of (stamped_of ps) → IsMerge js whole → end ≡ machine n (presents_of (stamped_of ps)) → ended ≡ length (filter ended_here ps) → last ≡ list_all last_here ps
    → (ended == 0 || (ended == 1 && (last && is_some (final_after (last_of whole) end)))) ≡ true → IsSettled n (stamped_of all) (machine n (starts_of (stamped_of all))) whole end
whole_by n ps all js whole start end ended last link same_parts stamped are same_journals merge same_end ended_is last_is test =
    let parts = stamped_of ps in
    let merged : IsMerge (journals_of parts) whole = subst (λ k. IsMerge k whole) same_journals merge in
    let count : ended ≡ length (filter has_ended parts) = ended_is ∙ sym (count_of ps) in
    let here : is_some (final_after (last_of whole) end) ≡ is_some (final_after (last_of whole) (machine n (presents_of parts))) = ap (λ w. is_some (final_after (last_of whole) w)) same_end in
    let cut = cut_by n parts link stamped are whole ended last end (last_is ∙ sym (all_of ps)) here count merged (ended == 0) (ended == 1) last (is_some (final_after (last_of whole) end)) refl refl refl refl test in
    let settled = is_settled n parts link stamped are whole whole (machine n (presents_of parts)) merged cut in
    let settled_here : IsSettled n parts (machine n (starts_of parts)) whole end = subst (IsSettled n parts (machine n (starts_of parts)) whole) (sym same_end) settled in
    subst (λ qs. IsSettled n (stamped_of qs) (machine n (starts_of (stamped_of qs))) whole end) same_parts settled_here
