-- A merge of which no event but the last can be final.
use Rattle.std.proofs.Common.{◌≡◌, ◌∙◌, ◌++◌, ◌∷◌, [], ℕ, ◌<◌, ◌≤◌, zero, suc, Bool, true, false, cond, List, length, filter, None, Some, refl, ap, is_some, option_and_then, arith}
use Rattle.std.specs.declared.option.Option.{Option}
use Rattle.std.specs.List.{slice_get}
use Rattle.tn_base.specs.declared.event.Event.{Event}
use Rattle.tn_base.specs.declared.event.Outcome.{Outcome}
use Rattle.tn_stamp.specs.declared.entry.Entry.{Entry}
use Rattle.tn_stamp.specs.Journals.{Rises, last_stamp}
use Rattle.tn_rows.specs.Ends.{final_on}
use Rattle.tn_rows.specs.Events.{after, replay}
use Rattle.tn_rows.specs.PartView.{PartView}
use Rattle.tn_rows.specs.Runs.{Run, Walk}
use Rattle.tn_rows.specs.Stamped.{StampedView, first_by, first_final}
use Rattle.tn_rows.specs.WorldView.{WorldView}
use Rattle.tn_settle.proofs.Along.{after_all}
use Rattle.tn_settle.proofs.Quiet.{Quiet}
use Rattle.tn_settle.specs.Settles.{has_ended}

-- ---- walks and runs

-- a walk is a run if no event but the last is final
pub run_by_last : (start : WorldView) (es : List Event) (e : Event) (end : WorldView) → Walk start (es ++ e ∷ []) end → Quiet start es → Run start (es ++ e ∷ []) end
run_by_last start [] e end walk quiet = (walk.0, walk.1, (λ more. absurd (more refl)), walk.2)
run_by_last start (x ∷ es) e end walk quiet =
    let q = quiet walk.0 walk.1 in
    (walk.0, walk.1, (λ more. q.0), run_by_last walk.0 es e end walk.2 q.1)

-- and if no event is
pub run_quiet : (start : WorldView) (es : List Event) (end : WorldView) → Walk start es end → Quiet start es → Run start es end
run_quiet start [] end walk quiet = walk
run_quiet start (x ∷ es) end walk quiet =
    let q = quiet walk.0 walk.1 in
    (walk.0, walk.1, (λ more. q.0), run_quiet walk.0 es end walk.2 q.1)

-- ---- the first final event of a journal

-- a journal that has no final event has none at its beginning
first_of_by : (o : Option Outcome) (stamp : ℕ) (a b : Option ℕ) → (b ≡ None → a ≡ None) → first_by o stamp b ≡ None → first_by o stamp a ≡ None
first_of_by None stamp a b h is = h is
first_of_by (Some x) stamp a b h is = is

pub calm_front : (fs gs : List Entry) (v : PartView) → first_final (fs ++ gs) v ≡ None → first_final fs v ≡ None
calm_front [] gs v is = refl
calm_front (e ∷ fs) gs v is = by (after e.event e.crossing v) (calm_front fs gs) is
  where
    by : (o : Option PartView) → ((next : PartView) → first_final (fs ++ gs) next ≡ None → first_final fs next ≡ None) → option_and_then (λ next. first_by (final_on e.event next) e.stamp (first_final (fs ++ gs) next)) o ≡ None → option_and_then (λ next. first_by (final_on e.event next) e.stamp (first_final fs next)) o ≡ None
    by None more is = refl
    by (Some next) more is = first_of_by (final_on e.event next) e.stamp (first_final fs next) (first_final (fs ++ gs) next) (more next) is

last_later : (low : ℕ) (fs : List Entry) (e : Entry) → Rises low (fs ++ e ∷ []) → low < last_stamp low (fs ++ e ∷ [])
last_later low [] e rises = rises.0
last_later low (a ∷ fs) e rises = let more = last_later a.stamp fs e rises.1 in let less = rises.0 in omega arith

-- if a journal's last entry is its first final one, no entry before it is final
pub calm_before : (low : ℕ) (fs : List Entry) (e : Entry) (v : PartView) → Rises low (fs ++ e ∷ []) → first_final (fs ++ e ∷ []) v ≡ Some (last_stamp low (fs ++ e ∷ [])) → first_final fs v ≡ None
calm_before low [] e v rises is = refl
calm_before low (a ∷ fs) e v rises is = by (after a.event a.crossing v) (λ next. calm_before a.stamp fs e next rises.1) (last_later a.stamp fs e rises.1) is
  where
    here : (o : Option Outcome) (next : PartView) → (first_final (fs ++ e ∷ []) next ≡ Some (last_stamp a.stamp (fs ++ e ∷ [])) → first_final fs next ≡ None) → a.stamp < last_stamp a.stamp (fs ++ e ∷ []) → first_by o a.stamp (first_final (fs ++ e ∷ []) next) ≡ Some (last_stamp a.stamp (fs ++ e ∷ [])) → first_by o a.stamp (first_final fs next) ≡ None
    here None next more late is = more is
    here (Some x) next more late is = let same : a.stamp ≡ last_stamp a.stamp (fs ++ e ∷ []) = cc is in absurd (omega (arith, same, late))

    by : (o : Option PartView) → ((next : PartView) → first_final (fs ++ e ∷ []) next ≡ Some (last_stamp a.stamp (fs ++ e ∷ [])) → first_final fs next ≡ None) → a.stamp < last_stamp a.stamp (fs ++ e ∷ []) → option_and_then (λ next. first_by (final_on a.event next) a.stamp (first_final (fs ++ e ∷ []) next)) o ≡ Some (last_stamp a.stamp (fs ++ e ∷ [])) → option_and_then (λ next. first_by (final_on a.event next) a.stamp (first_final fs next)) o ≡ None
    by None more late is = refl
    by (Some next) more late is = here (final_on a.event next) next (more next) late is

-- ---- at most one part has ended

longer : (b : Bool) (s : StampedView) (ps : List StampedView) → length ps ≤ length (cond b (s ∷ ps) ps)
longer true s ps = omega arith
longer false s ps = omega arith

none_there : (parts : List StampedView) (i : ℕ) (s : StampedView) → length (filter has_ended parts) < 1 → slice_get parts i ≡ Some s → has_ended s ≡ true → ⊥
none_there [] i s few at ended = cc at
none_there (p ∷ parts) zero s few at ended =
    let same : p ≡ s = cc at in
    let on : has_ended p ≡ true = ap has_ended same ∙ ended in
    let many : length (filter has_ended (p ∷ parts)) ≡ length (p ∷ filter has_ended parts) = ap (λ b. length (cond b (p ∷ filter has_ended parts) (filter has_ended parts))) on in
    omega (arith, many, few)
none_there (p ∷ parts) (suc i) s few at ended = let less = longer (has_ended p) p (filter has_ended parts) in none_there parts i s (omega (arith, less, few)) at ended

behind : (p : StampedView) (parts : List StampedView) (s : StampedView) → length (filter has_ended (p ∷ parts)) ≤ 1 → Some p ≡ Some s → has_ended s ≡ true → length (filter has_ended parts) < 1
behind p parts s few at ended =
    let same : p ≡ s = cc at in
    let on : has_ended p ≡ true = ap has_ended same ∙ ended in
    let many : length (filter has_ended (p ∷ parts)) ≡ length (p ∷ filter has_ended parts) = ap (λ b. length (cond b (p ∷ filter has_ended parts) (filter has_ended parts))) on in
    omega (arith, many, few)

-- two parts that have ended are the same part
pub one_there : (parts : List StampedView) (i j : ℕ) (s t : StampedView) → length (filter has_ended parts) ≤ 1 → slice_get parts i ≡ Some s → slice_get parts j ≡ Some t → has_ended s ≡ true → has_ended t ≡ true → i ≡ j
one_there [] i j s t few at there a b = cc at
one_there (p ∷ parts) zero zero s t few at there a b = refl
one_there (p ∷ parts) zero (suc j) s t few at there a b = absurd (none_there parts j t (behind p parts s few at a) there b)
one_there (p ∷ parts) (suc i) zero s t few at there a b = absurd (none_there parts i s (behind p parts t few there b) at a)
one_there (p ∷ parts) (suc i) (suc j) s t few at there a b =
    let less = longer (has_ended p) p (filter has_ended parts) in
    ap suc (one_there parts i j s t (omega (arith, less, few)) at there a b)

-- ---- a part whose journal ends with a final event has ended

pub ended_there : (fs : List Entry) (e : Entry) (v : PartView) (o : Outcome) → option_and_then (final_on e.event) (after_all (e ∷ []) (replay fs v)) ≡ Some o → is_some (first_final (fs ++ e ∷ []) v) ≡ true
ended_there [] e v o final = by (after e.event e.crossing v) final
  where
    found : (x : Option Outcome) → x ≡ Some o → is_some (first_by x e.stamp None) ≡ true
    found None is = cc is
    found (Some y) is = refl

    by : (p : Option PartView) → option_and_then (final_on e.event) (option_and_then (replay []) p) ≡ Some o → is_some (option_and_then (λ next. first_by (final_on e.event next) e.stamp None) p) ≡ true
    by None final = cc final
    by (Some next) final = found (final_on e.event next) final
ended_there (a ∷ fs) e v o final = by (after a.event a.crossing v) (λ next. ended_there fs e next o) final
  where
    passed : (x : Option Outcome) (next : PartView) → (option_and_then (final_on e.event) (after_all (e ∷ []) (replay fs next)) ≡ Some o → is_some (first_final (fs ++ e ∷ []) next) ≡ true) → option_and_then (final_on e.event) (after_all (e ∷ []) (replay fs next)) ≡ Some o → is_some (first_by x a.stamp (first_final (fs ++ e ∷ []) next)) ≡ true
    passed None next more final = more final
    passed (Some y) next more final = refl

    by : (p : Option PartView) → ((next : PartView) → option_and_then (final_on e.event) (after_all (e ∷ []) (replay fs next)) ≡ Some o → is_some (first_final (fs ++ e ∷ []) next) ≡ true) → option_and_then (final_on e.event) (after_all (e ∷ []) (option_and_then (replay fs) p)) ≡ Some o → is_some (option_and_then (λ next. first_by (final_on a.event next) a.stamp (first_final (fs ++ e ∷ []) next)) p) ≡ true
    by None more final = cc final
    by (Some next) more final = passed (final_on a.event next) next (more next) final
