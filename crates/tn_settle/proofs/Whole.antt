-- A merge that needs no cut.
use Rattle.std.proofs.Common.{◌≡◌, ◌∙◌, inr, ◌++◌, ◌∷◌, [], ℕ, zero, suc, Bool, true, false, cond, List, None, Some, refl, sym, ap, subst, is_some, option_and_then, ◌&&◌}
use Rattle.std.specs.declared.option.Option.{Option}
use Rattle.std.specs.List.{All, list_all, slice_get}
use Rattle.std.proofs.lemmas.Bool.{eqb-true}
use Rattle.std.proofs.lemmas.List.{append-nil, map-append}
use Rattle.std.proofs.lemmas.List.Elements.{All-head, All-tail}
use Rattle.tn_base.specs.declared.event.Event.{Event}
use Rattle.tn_base.specs.declared.event.Outcome.{Outcome}
use Rattle.tn_base.specs.declared.shape.ShapeNumbers.{ShapeNumbers}
use Rattle.tn_base.specs.Parts.{part_count}
use Rattle.tn_stamp.specs.Journals.{Rises, last_stamp}
use Rattle.tn_stamp.specs.Merging.{IsMerge, IsMergeOf, Placed, entries_at, events_of, is_on, of_part}
use Rattle.tn_stamp.specs.Pairs.{pair_of}
use Rattle.tn_rows.proofs.Beginnings.{journal_split}
use Rattle.tn_rows.proofs.Walking.{merge_is_walk}
use Rattle.tn_rows.proofs.Ways.{Behind}
use Rattle.tn_rows.specs.Cuts.{IsCut}
use Rattle.tn_rows.specs.Ends.{final_after, final_of, final_on, last_of}
use Rattle.tn_rows.specs.Events.{happened, replay}
use Rattle.tn_rows.specs.PartView.{PartView}
use Rattle.tn_rows.specs.Runs.{Run, Walk}
use Rattle.tn_rows.specs.Stamped.{AreJournals, IsStamped, StampedView, first_final, journals_of, machine, presents_of, starts_of}
use Rattle.tn_rows.specs.WorldView.{WorldView}
use Rattle.tn_settle.proofs.Along.{after_all, count_is}
use Rattle.tn_settle.proofs.Ends.{CalmAt, front, front_quiet, merge_quiet, none_calm, of_one, on_own, tells}
use Rattle.tn_settle.proofs.Lasting.{calm_before, calm_front, ended_there, one_there, run_by_last, run_quiet}
use Rattle.tn_settle.proofs.Quiet.{Quiet}
use Rattle.tn_settle.specs.Settles.{EndsByLast, has_ended, is_at_last, is_last_final, some_ended}

whole_run : (start : WorldView) (whole : List Event) (end : WorldView) → Run start whole end → IsCut start whole whole end
whole_run start whole end run = record { rest = []; begins = append-nil whole; run = run; ends = inr refl }

last_snoc : (es : List Event) (e : Event) → last_of (es ++ e ∷ []) ≡ Some e
last_snoc [] e = refl
last_snoc (a ∷ []) e = refl
last_snoc (a ∷ b ∷ es) e = last_snoc (b ∷ es) e

-- a list is empty, or has a last item
pub record Snoc (zs : List Placed) : Type 0 where
  pub front : List Placed
  pub last : Placed
  pub is : zs ≡ front ++ last ∷ []

snoc_of : (z : Placed) (zs : List Placed) → Snoc (z ∷ zs)
snoc_of z [] = record { front = []; last = z; is = refl }
snoc_of z (y ∷ zs) = let more = snoc_of y zs in record { front = z ∷ more.front; last = more.last; is = ap (λ xs. z ∷ xs) more.is }

-- the last step of a walk
pub record Stepped (start : WorldView) (es : List Event) (e : Event) (end : WorldView) : Type 0 where
  pub mid : WorldView
  pub walk : Walk start es mid
  pub step : happened e mid ≡ Some end

last_step : (start : WorldView) (es : List Event) (e : Event) (end : WorldView) → Walk start (es ++ e ∷ []) end → Stepped start es e end
last_step start [] e end walk = record { mid = start; walk = refl; step = subst (λ (w : WorldView). happened e start ≡ Some w) walk.2 walk.1 }
last_step start (x ∷ es) e end walk = let more = last_step walk.0 es e end walk.2 in record { mid = more.mid; walk = (walk.0, walk.1, more.walk); step = more.step }

-- a part that is there
pub record There (parts : List StampedView) (i : ℕ) (v : PartView) : Type 0 where
  pub part : StampedView
  pub at : slice_get parts i ≡ Some part
  pub start : part.start ≡ v
  pub entries : entries_at (journals_of parts) i ≡ part.entries
  pub stamped : All IsStamped parts → IsStamped part
  pub last : list_all is_last_final parts ≡ true → is_last_final part ≡ true

both_true : (a b : Bool) → (a && b) ≡ true → (a ≡ true) × (b ≡ true)
both_true true b is = (refl, is)
both_true false b is = cc is

there : (parts : List StampedView) (i : ℕ) (v : PartView) → slice_get (starts_of parts) i ≡ Some v → There parts i v
there [] i v is = cc is
there (s ∷ parts) zero v is = record { part = s; at = refl; start = cc is; entries = refl; stamped = λ all. All-head IsStamped s parts all; last = λ all. (both_true (is_last_final s) (list_all is_last_final parts) all).0 }
there (s ∷ parts) (suc i) v is =
    let t = there parts i v is in
    record { part = t.part; at = t.at; start = t.start; entries = t.entries; stamped = λ all. t.stamped (All-tail IsStamped s parts all); last = λ all. t.last (both_true (is_last_final s) (list_all is_last_final parts) all).1 }

none_of : (o : Option ℕ) → is_some o ≡ false → o ≡ None
none_of None is = refl
none_of (Some x) is = cc is

at_last : (last stamp : ℕ) → is_at_last last (Some stamp) ≡ true → last ≡ stamp
at_last last stamp is = eqb-true last stamp is

some_of : (o : Option ℕ) → is_some o ≡ true → (x : ℕ) × (o ≡ Some x)
some_of None is = cc is
some_of (Some x) is = (x, refl)

there_of : (f : PartView → Option Outcome) (g : PartView → Option PartView) (o : Option PartView) (x : Outcome) → option_and_then f (option_and_then g o) ≡ Some x → (v : PartView) × (o ≡ Some v)
there_of f g None x is = cc is
there_of f g (Some v) x is = (v, refl)

module _ (n : ShapeNumbers) (parts : List StampedView) (link : Behind n) (stamped : All IsStamped parts) (are : AreJournals n parts) where
  abbrev from : WorldView
  from = machine n (starts_of parts)

  abbrev to : WorldView
  to = machine n (presents_of parts)

  module _ (ends : EndsByLast parts) (xs : List Placed) (x : Placed) (merge : IsMergeOf (journals_of parts) (xs ++ x ∷ [])) (o : Outcome) (final : final_of x.entry.event to ≡ Some o) (walk : Walk from (events_of xs ++ x.entry.event ∷ []) to) where
    abbrev m : ℕ
    m = part_count n

    -- part i's journal, split in front of the last entry
    journal : (i : ℕ) (b : Bool) → is_on (pair_of m x.entry.event) x.part i ≡ b → entries_at (journals_of parts) i ≡ of_part m i xs ++ cond b (x.entry ∷ []) []
    journal i b on =
        let split = journal_split (journals_of parts) xs (x ∷ []) i merge in
        let size = count_is n parts are in
        subst (λ k. entries_at (journals_of parts) i ≡ of_part k i xs ++ of_part k i (x ∷ [])) size split ∙ ap (λ es. of_part m i xs ++ es) (of_one m i x b on)

    own : is_on (pair_of m x.entry.event) x.part x.part ≡ true
    own = on_own n parts link stamped are xs x [] merge

    -- the last event's own part has ended
    ended : (s : PartView) → slice_get (starts_of parts) x.part ≡ Some s → is_some (first_final (of_part m x.part xs ++ x.entry ∷ []) s) ≡ true
    ended s at =
        let last = last_step from (events_of xs) x.entry.event to walk in
        let f = front n parts link stamped are xs x [] last.mid to merge last.walk last.step in
        let told = sym (tells n parts link stamped are x.part xs x [] last.mid to merge f own) ∙ final in
        ended_there (of_part m x.part xs) x.entry s o (subst (λ p. option_and_then (final_on x.entry.event) (after_all (x.entry ∷ []) (after_all (of_part m x.part xs) p)) ≡ Some o) at told)

    -- and the part is there
    own_there : (s : PartView) × (slice_get (starts_of parts) x.part ≡ Some s)
    own_there =
        let last = last_step from (events_of xs) x.entry.event to walk in
        let f = front n parts link stamped are xs x [] last.mid to merge last.walk last.step in
        let told = sym (tells n parts link stamped are x.part xs x [] last.mid to merge f own) ∙ final in
        let made = there_of (final_on x.entry.event) (replay (x.entry ∷ [])) (after_all (of_part m x.part xs) (slice_get (starts_of parts) x.part)) o told in
        by (slice_get (starts_of parts) x.part) made.1
      where
        by : (p : Option PartView) {v : PartView} → after_all (of_part m x.part xs) p ≡ Some v → (s : PartView) × (p ≡ Some s)
        by None is = cc is
        by (Some s) is = (s, refl)

    calm : (i : ℕ) → CalmAt (of_part m i xs) (slice_get (starts_of parts) i)
    calm i v at =
        let t = there parts i v at in
        subst (λ u. first_final (of_part m i xs) u ≡ None) t.start (by t (has_ended t.part) refl)
      where
        on_last : (t : There parts i v) → has_ended t.part ≡ true → is_on (pair_of m x.entry.event) x.part i ≡ true
        on_last t on =
            let q = own_there in
            let u = there parts x.part q.0 q.1 in
            let entries : u.part.entries ≡ of_part m x.part xs ++ x.entry ∷ [] = sym u.entries ∙ journal x.part true own in
            let over : has_ended u.part ≡ true = ap (λ es. is_some (first_final es u.part.start)) entries ∙ ap (λ w. is_some (first_final (of_part m x.part xs ++ x.entry ∷ []) w)) u.start ∙ ended q.0 q.1 in
            let same : x.part ≡ i = one_there parts x.part i u.part t.part ends.few u.at t.at over on in
            subst (λ k. is_on (pair_of m x.entry.event) x.part k ≡ true) same own

        by : (t : There parts i v) (b : Bool) → has_ended t.part ≡ b → first_final (of_part m i xs) t.part.start ≡ None
        by t false off =
            let on = is_on (pair_of m x.entry.event) x.part i in
            let entries : t.part.entries ≡ of_part m i xs ++ cond on (x.entry ∷ []) [] = sym t.entries ∙ journal i on refl in
            calm_front (of_part m i xs) (cond on (x.entry ∷ []) []) t.part.start (subst (λ es. first_final es t.part.start ≡ None) entries (none_of (first_final t.part.entries t.part.start) off))
        by t true on =
            let entries : t.part.entries ≡ of_part m i xs ++ x.entry ∷ [] = sym t.entries ∙ journal i true (on_last t on) in
            let stamp = some_of (first_final t.part.entries t.part.start) on in
            let last : last_stamp 0 t.part.entries ≡ stamp.0 = at_last (last_stamp 0 t.part.entries) stamp.0 (subst (λ f. is_at_last (last_stamp 0 t.part.entries) f ≡ true) stamp.1 (t.last ends.last)) in
            let is : first_final t.part.entries t.part.start ≡ Some (last_stamp 0 t.part.entries) = stamp.1 ∙ ap (λ k. Some k) (sym last) in
            calm_before 0 (of_part m i xs) x.entry t.part.start (subst (Rises 0) entries (t.stamped stamped).rises) (subst (λ es. first_final es t.part.start ≡ Some (last_stamp 0 es)) entries is)

    run : Run from (events_of xs ++ x.entry.event ∷ []) to
    run = run_by_last from (events_of xs) x.entry.event to walk (front_quiet n parts link stamped are xs (x ∷ []) merge calm)

  some_is : (o : Option Outcome) → is_some o ≡ true → (x : Outcome) × (o ≡ Some x)
  some_is None is = cc is
  some_is (Some x) is = (x, refl)

  by_merge : EndsByLast parts → (zs : List Placed) → IsMergeOf (journals_of parts) zs → Walk from (events_of zs) to → is_some (final_after (last_of (events_of zs)) to) ≡ true → Run from (events_of zs) to
  by_merge ends [] merge walk final = walk
  by_merge ends (z ∷ zs) merge walk final =
      let s = snoc_of z zs in
      let events : events_of (z ∷ zs) ≡ events_of s.front ++ s.last.entry.event ∷ [] = ap events_of s.is ∙ map-append (λ (y : Placed). y.entry.event) s.front (s.last ∷ []) in
      let last : last_of (events_of (z ∷ zs)) ≡ Some s.last.entry.event = ap last_of events ∙ last_snoc (events_of s.front) s.last.entry.event in
      let o = some_is (final_of s.last.entry.event to) (subst (λ e. is_some (final_after e to) ≡ true) last final) in
      subst (λ es. Run from es to) (sym events) (run ends s.front s.last (subst (IsMergeOf (journals_of parts)) s.is merge) o.0 o.1 (subst (λ es. Walk from es to) events walk))

  -- if the last event of the merge is the only one that can be final, and is final, the whole merge is the history
  pub whole_by_last : (whole : List Event) → EndsByLast parts → IsMerge (journals_of parts) whole → is_some (final_after (last_of whole) to) ≡ true → IsCut from whole whole to
  whole_by_last whole ends merge final =
      let walk = merge_is_walk n parts whole link stamped are merge in
      let run = by_merge ends merge.0 merge.1 (subst (λ es. Walk from es to) merge.2 walk) (subst (λ es. is_some (final_after (last_of es) to) ≡ true) merge.2 final) in
      whole_run from whole to (subst (λ es. Run from es to) (sym merge.2) run)

  -- if no part has ended, it is too
  pub whole_if_calm : (whole : List Event) → some_ended parts ≡ false → IsMerge (journals_of parts) whole → IsCut from whole whole to
  whole_if_calm whole none merge =
      let walk = merge_is_walk n parts whole link stamped are merge in
      let quiet = merge_quiet n parts link stamped are merge.0 merge.1 (none_calm parts none) in
      whole_run from whole to (run_quiet from whole to walk (subst (Quiet from) (sym merge.2) quiet))
