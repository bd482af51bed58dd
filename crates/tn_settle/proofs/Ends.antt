-- An event of the merge is final exactly where an event of some part's journal is.
use Rattle.std.proofs.Common.{◌≡◌, ◌∙◌, ◌==◌, ◌||◌, inl, inr, ◌++◌, ◌∷◌, [], ℕ, zero, suc, Bool, true, false, cond, eqb, List, length, map, None, Some, refl, sym, ap, subst, is_some, option_and_then, arith}
use Rattle.std.specs.declared.option.Option.{Option}
use Rattle.std.specs.List.{All, slice_get}
use Rattle.std.proofs.lemmas.Bool.{eqb-true}
use Rattle.std.proofs.lemmas.Bool.Decides.{nat_tests}
use Rattle.std.proofs.lemmas.List.{append-nil, append_assoc, map-append}
use Rattle.std.proofs.lemmas.List.Elements.{All-head, All-tail}
use Rattle.tn_base.specs.declared.event.Event.{Event}
use Rattle.tn_base.specs.declared.event.Event.TheVariants as event
use Rattle.tn_base.specs.declared.event.Outcome.{Outcome}
use Rattle.tn_base.specs.declared.shape.ShapeNumbers.{ShapeNumbers}
use Rattle.tn_base.specs.Parts.{kind_of, part_count}
use Rattle.tn_stamp.specs.declared.entry.Entry.{Entry}
use Rattle.tn_stamp.specs.Merging.{Placed, IsMergeOf, entries_at, events_of, is_least, is_on, of_part}
use Rattle.tn_stamp.specs.Pairs.{Pair, pair_of}
use Rattle.tn_stamp.proofs.Merged.{Among, from_all}
use Rattle.tn_rows.proofs.Beginnings.{journal_split, of_part-append}
use Rattle.tn_rows.proofs.Ways.{Behind}
use Rattle.tn_rows.specs.Ends.{final_of, final_on}
use Rattle.tn_rows.specs.Events.{after, happened, replay}
use Rattle.tn_rows.specs.PartView.{PartView}
use Rattle.tn_rows.specs.Places.{at_part, detector_part, is_router, one_if, part_of, places}
use Rattle.tn_rows.specs.Runs.{Walk}
use Rattle.tn_rows.specs.Stamped.{AreJournals, IsStamped, StampedView, StandsAt, first_by, first_final, journals_of, machine, starts_of, touches}
use Rattle.tn_rows.specs.WorldView.{WorldView}
use Rattle.tn_settle.proofs.Along.{IsAfter, after_all, after_append, along, count_is, walk_more}
use Rattle.tn_settle.proofs.Quiet.{Quiet}
use Rattle.tn_settle.specs.Settles.{has_ended, some_ended}

-- ---- an event's own part tells whether the event is final

abbrev nothing : Option Outcome
nothing = None

no_end : (o : Option PartView) → nothing ≡ option_and_then (λ v. nothing) o
no_end None = refl
no_end (Some v) = refl

at_own : (f : PartView → Option Outcome) (o : Option ℕ) (i : ℕ) (ps : List PartView) → touches (at_part o) i ≡ true → option_and_then f (option_and_then (slice_get ps) o) ≡ option_and_then f (slice_get ps i)
at_own f None i ps at = cc at
at_own f (Some p) i ps at = ap (λ k. option_and_then f (slice_get ps k)) (eqb-true p i at)

at_test : (f : PartView → Option Outcome) (there : Bool) (p i : ℕ) (ps : List PartView) → touches (one_if there p) i ≡ true → option_and_then f (slice_get ps p) ≡ option_and_then f (slice_get ps i)
at_test f true p i ps at = ap (λ k. option_and_then f (slice_get ps k)) (eqb-true p i at)
at_test f false p i ps at = cc at

ends_at : (n : ShapeNumbers) (e : Event) (i : ℕ) (ps : List PartView) → touches (places n e) i ≡ true → final_of e (machine n ps) ≡ option_and_then (final_on e) (slice_get ps i)
ends_at n (event.Turn t k) i ps at = at_own (final_on (event.Turn t k)) (part_of n t) i ps at
ends_at n (event.Deliver t) i ps at = no_end (slice_get ps i)
ends_at n (event.Depart p l) i ps at = no_end (slice_get ps i)
ends_at n (event.Arrive l p) i ps at = no_end (slice_get ps i)
ends_at n (event.Route p) i ps at = at_test (final_on (event.Route p)) (is_router (kind_of n p.0)) p.0 i ps at
ends_at n event.HostPut i ps at = no_end (slice_get ps i)
ends_at n event.HostTake i ps at = no_end (slice_get ps i)
ends_at n (event.Report p) i ps at = no_end (slice_get ps i)
ends_at n event.Begin i ps at = no_end (slice_get ps i)
ends_at n (event.Confirm p) i ps at = no_end (slice_get ps i)
ends_at n event.Announce i ps at = at_test (final_on event.Announce) true (detector_part n) i ps at
ends_at n (event.Release p) i ps at = no_end (slice_get ps i)
ends_at n (event.Go p) i ps at = no_end (slice_get ps i)

-- ---- what a list has of a part, entry by entry

pub of_one : (m i : ℕ) (x : Placed) (b : Bool) → is_on (pair_of m x.entry.event) x.part i ≡ b → of_part m i (x ∷ []) ≡ cond b (x.entry ∷ []) []
of_one m i x b e = subst (λ c. map (λ (y : Placed). y.entry) (cond c (x ∷ []) []) ≡ cond b (x.entry ∷ []) []) (sym e) (by b)
  where
    by : (b : Bool) → map (λ (y : Placed). y.entry) (cond b (x ∷ []) []) ≡ cond b (x.entry ∷ []) []
    by true = refl
    by false = refl

of_first : (m i : ℕ) (x : Placed) (xs : List Placed) (b : Bool) → is_on (pair_of m x.entry.event) x.part i ≡ b → of_part m i (x ∷ xs) ≡ cond b (x.entry ∷ []) [] ++ of_part m i xs
of_first m i x xs b e = of_part-append m i (x ∷ []) xs ∙ ap (λ es. es ++ of_part m i xs) (of_one m i x b e)

of_last : (m i : ℕ) (xs : List Placed) (x : Placed) (b : Bool) → is_on (pair_of m x.entry.event) x.part i ≡ b → of_part m i (xs ++ x ∷ []) ≡ of_part m i xs ++ cond b (x.entry ∷ []) []
of_last m i xs x b e = of_part-append m i xs (x ∷ []) ∙ ap (λ es. of_part m i xs ++ es) (of_one m i x b e)

all_right : (P : Entry → Type 0) (xs : List Entry) (y : Entry) (ys : List Entry) → All P (xs ++ y ∷ ys) → P y
all_right P [] y ys all = All-head P y ys all
all_right P (x ∷ xs) y ys all = all_right P xs y ys (All-tail P x (xs ++ y ∷ ys) all)

-- ---- one entry

-- no event of these entries is final, from where the part is
abbrev pub CalmAt : List Entry → Option PartView → Type 0
CalmAt es o = (v : PartView) → o ≡ Some v → first_final es v ≡ None

-- an event that is final at no part is passed over
pass : (e : Entry) (es : List Entry) (o : Option Outcome) (later : Option ℕ) → o ≡ None → later ≡ None → first_by o e.stamp later ≡ None
pass e es None later none rest = rest
pass e es (Some x) later none rest = cc none

-- before the entry: nothing is final, if the entry's event is not final and nothing later is
calm_first : (e : Entry) (es : List Entry) (o : Option PartView) → option_and_then (final_on e.event) (after_all (e ∷ []) o) ≡ None → CalmAt es (after_all (e ∷ []) o) → CalmAt (e ∷ es) o
calm_first e es None here later v is = cc is
calm_first e es (Some w) here later v is = subst (λ u. first_final (e ∷ es) u ≡ None) (cc is) (by (after e.event e.crossing w) here later)
  where
    by : (p : Option PartView) → option_and_then (final_on e.event) (option_and_then (replay []) p) ≡ None → CalmAt es (option_and_then (replay []) p) → option_and_then (λ next. first_by (final_on e.event next) e.stamp (first_final es next)) p ≡ None
    by None here later = refl
    by (Some u) here later = pass e es (final_on e.event u) (first_final es u) here (later u refl)

split_none : (o : Option Outcome) (stamp : ℕ) (later : Option ℕ) → first_by o stamp later ≡ None → (o ≡ None) × (later ≡ None)
split_none None stamp later h = (refl, h)
split_none (Some x) stamp later h = cc h

-- and behind it
calm_next : (e : Entry) (es : List Entry) (o : Option PartView) → CalmAt (e ∷ es) o → (option_and_then (final_on e.event) (after_all (e ∷ []) o) ≡ None) × CalmAt es (after_all (e ∷ []) o)
calm_next e es None calm = (refl, λ v is. cc is)
calm_next e es (Some w) calm = by (after e.event e.crossing w) (calm w refl)
  where
    by : (p : Option PartView) → option_and_then (λ next. first_by (final_on e.event next) e.stamp (first_final es next)) p ≡ None → (option_and_then (final_on e.event) (option_and_then (replay []) p) ≡ None) × CalmAt es (option_and_then (replay []) p)
    by None none = (refl, λ v is. cc is)
    by (Some u) none =
        let s = split_none (final_on e.event u) e.stamp (first_final es u) none in
        (s.0, λ v is. let same : u ≡ v = cc is in subst (λ (t : PartView). first_final es t ≡ None) same s.1)

after_nothing : (o : Option PartView) → after_all [] o ≡ o
after_nothing None = refl
after_nothing (Some v) = refl

-- ---- the whole merge

eqb_self : (a : ℕ) → eqb a a ≡ true
eqb_self a = grind (arith, nat_tests)

on_least : (o : Option Pair) (part : ℕ) → is_least o part ≡ true → is_on o part part ≡ true
on_least None part least = eqb_self part
on_least (Some p) part least = by (p.low == part) (p.high == part) least
  where
    by : (s t : Bool) → s ≡ true → (s || t) ≡ true
    by true t e = refl
    by false t e = cc e

among : (xs ys : List Placed) (y : Placed) → Among y (xs ++ y ∷ ys)
among [] ys y = inl refl
among (x ∷ xs) ys y = inr (among xs ys y)

-- what is known in front of an entry of the merge
pub record Front (n : ShapeNumbers) (parts : List StampedView) (xs : List Placed) (x : Placed) (ys : List Placed) (mid : WorldView) : Type 0 where
  merge : IsMergeOf (journals_of parts) ((xs ++ x ∷ []) ++ ys)
  walk : Walk (machine n (starts_of parts)) (events_of (xs ++ x ∷ [])) mid
  behind : IsAfter n parts (xs ++ x ∷ []) mid

module _ (n : ShapeNumbers) (parts : List StampedView) (link : Behind n) (stamped : All IsStamped parts) (are : AreJournals n parts) where
  -- part i after what a list has of it
  abbrev at : ℕ → List Placed → Option PartView
  at i xs = after_all (of_part (part_count n) i xs) (slice_get (starts_of parts) i)

  -- no event of part i is final, behind the first entries of the merge
  abbrev Calm : List Placed → List Placed → Type 0
  Calm xs ys = (i : ℕ) → CalmAt (of_part (part_count n) i ys) (at i xs)

  pub front : (xs : List Placed) (x : Placed) (ys : List Placed) (mid end : WorldView) → IsMergeOf (journals_of parts) (xs ++ x ∷ ys) → Walk (machine n (starts_of parts)) (events_of xs) mid → happened x.entry.event mid ≡ Some end → Front n parts xs x ys end
  front xs x ys mid end merge walk step =
      let longer : IsMergeOf (journals_of parts) ((xs ++ x ∷ []) ++ ys) = subst (IsMergeOf (journals_of parts)) (sym (append_assoc xs (x ∷ []) ys)) merge in
      let walks : Walk (machine n (starts_of parts)) (events_of (xs ++ x ∷ [])) end = subst (λ es. Walk (machine n (starts_of parts)) es end) (sym (map-append (λ (y : Placed). y.entry.event) xs (x ∷ []))) (walk_more (machine n (starts_of parts)) (events_of xs) mid end x.entry.event walk step) in
      record { merge = longer; walk = walks; behind = along n parts (xs ++ x ∷ []) ys end link stamped are longer walks }

  -- an entry that a list has of part i is of an event on part i
  stands : (i : ℕ) (xs : List Placed) (x : Placed) (ys : List Placed) → IsMergeOf (journals_of parts) (xs ++ x ∷ ys) → is_on (pair_of (part_count n) x.entry.event) x.part i ≡ true → touches (places n x.entry.event) i ≡ true
  stands i xs x ys merge on =
      let k = length (journals_of parts) in
      let size : part_count n ≡ k = sym (count_is n parts are) in
      let here : is_on (pair_of k x.entry.event) x.part i ≡ true = subst (λ c. is_on (pair_of c x.entry.event) x.part i ≡ true) size on in
      let journal = journal_split (journals_of parts) xs (x ∷ ys) i merge ∙ ap (λ es. of_part k i xs ++ es) (of_first k i x ys true here) in
      all_right (StandsAt n i) (of_part k i xs) x.entry (of_part k i ys) (subst (All (StandsAt n i)) journal (are.placed i))

  -- an entry moves part i, or leaves it
  moved_by : (i : ℕ) (xs : List Placed) (x : Placed) (b : Bool) → is_on (pair_of (part_count n) x.entry.event) x.part i ≡ b → at i (xs ++ x ∷ []) ≡ after_all (cond b (x.entry ∷ []) []) (at i xs)
  moved_by i xs x b on = ap (λ es. after_all es (slice_get (starts_of parts) i)) (of_last (part_count n) i xs x b on) ∙ after_append (of_part (part_count n) i xs) (cond b (x.entry ∷ []) []) (slice_get (starts_of parts) i)

  -- the event of an entry on part i is final exactly where part i says so
  pub tells : (i : ℕ) (xs : List Placed) (x : Placed) (ys : List Placed) (mid end : WorldView) → IsMergeOf (journals_of parts) (xs ++ x ∷ ys) → Front n parts xs x ys end → is_on (pair_of (part_count n) x.entry.event) x.part i ≡ true → final_of x.entry.event end ≡ option_and_then (final_on x.entry.event) (after_all (x.entry ∷ []) (at i xs))
  tells i xs x ys mid end merge f on =
      let b = f.behind in
      ap (final_of x.entry.event) b.is ∙ ends_at n x.entry.event i b.now (stands i xs x ys merge on)
      ∙ ap (option_and_then (final_on x.entry.event)) (b.each i ∙ moved_by i xs x true on)

  -- an entry of the merge is on its least part
  pub on_own : (xs : List Placed) (x : Placed) (ys : List Placed) → IsMergeOf (journals_of parts) (xs ++ x ∷ ys) → is_on (pair_of (part_count n) x.entry.event) x.part x.part ≡ true
  on_own xs x ys merge =
      let k = length (journals_of parts) in
      let least : is_least (pair_of k x.entry.event) x.part ≡ true = from_all (λ (y : Placed). is_least (pair_of k y.entry.event) y.part ≡ true) (xs ++ x ∷ ys) x merge.least (among xs ys x) in
      subst (λ c. is_on (pair_of c x.entry.event) x.part x.part ≡ true) (count_is n parts are) (on_least (pair_of k x.entry.event) x.part least)

  -- if no event of the walk is final, no part ends
  calm_of : (xs ys : List Placed) (mid end : WorldView) → IsMergeOf (journals_of parts) (xs ++ ys) → Walk (machine n (starts_of parts)) (events_of xs) mid → Walk mid (events_of ys) end → Quiet mid (events_of ys) → Calm xs ys
  calm_of xs [] mid end merge walk rest quiet = λ i v is. refl
  calm_of xs (x ∷ ys) mid end merge walk rest quiet =
      let f = front xs x ys mid rest.0 merge walk rest.1 in
      let q = quiet rest.0 rest.1 in
      let later = calm_of (xs ++ x ∷ []) ys rest.0 end f.merge f.walk rest.2 q.1 in
      λ i. by i (is_on (pair_of (part_count n) x.entry.event) x.part i) refl f q.0 (later i)
    where
      by : (i : ℕ) (b : Bool) → is_on (pair_of (part_count n) x.entry.event) x.part i ≡ b → Front n parts xs x ys rest.0 → final_of x.entry.event rest.0 ≡ None → CalmAt (of_part (part_count n) i ys) (at i (xs ++ x ∷ [])) → CalmAt (of_part (part_count n) i (x ∷ ys)) (at i xs)
      by i true on f none later =
          let told = sym (tells i xs x ys mid rest.0 merge f on) ∙ none in
          let more = subst (CalmAt (of_part (part_count n) i ys)) (moved_by i xs x true on) later in
          subst (λ es. CalmAt es (at i xs)) (sym (of_first (part_count n) i x ys true on)) (calm_first x.entry (of_part (part_count n) i ys) (at i xs) told more)
      by i false on f none later =
          let more = subst (CalmAt (of_part (part_count n) i ys)) (moved_by i xs x false on ∙ after_nothing (at i xs)) later in
          subst (λ es. CalmAt es (at i xs)) (sym (of_first (part_count n) i x ys false on)) more

  -- and if no part ends along some entries, no event of their walk is final, whatever follows
  quiet_of : (xs ys zs : List Placed) (mid : WorldView) → IsMergeOf (journals_of parts) (xs ++ (ys ++ zs)) → Walk (machine n (starts_of parts)) (events_of xs) mid → Calm xs ys → Quiet mid (events_of ys)
  quiet_of xs [] zs mid merge walk calm = tt
  quiet_of xs (x ∷ ys) zs mid merge walk calm = λ end step.
      let f = front xs x (ys ++ zs) mid end merge walk step in
      (here end f, quiet_of (xs ++ x ∷ []) ys zs end f.merge f.walk (λ i. by i (is_on (pair_of (part_count n) x.entry.event) x.part i) refl))
    where
      first : (i : ℕ) → is_on (pair_of (part_count n) x.entry.event) x.part i ≡ true → (option_and_then (final_on x.entry.event) (after_all (x.entry ∷ []) (at i xs)) ≡ None) × CalmAt (of_part (part_count n) i ys) (after_all (x.entry ∷ []) (at i xs))
      first i on = calm_next x.entry (of_part (part_count n) i ys) (at i xs) (subst (λ es. CalmAt es (at i xs)) (of_first (part_count n) i x ys true on) (calm i))

      here : (end : WorldView) → Front n parts xs x (ys ++ zs) end → final_of x.entry.event end ≡ None
      here end f = tells x.part xs x (ys ++ zs) mid end merge f (on_own xs x (ys ++ zs) merge) ∙ (first x.part (on_own xs x (ys ++ zs) merge)).0

      by : (i : ℕ) (b : Bool) → is_on (pair_of (part_count n) x.entry.event) x.part i ≡ b → CalmAt (of_part (part_count n) i ys) (at i (xs ++ x ∷ []))
      by i true on = subst (CalmAt (of_part (part_count n) i ys)) (sym (moved_by i xs x true on)) (first i on).1
      by i false on = subst (CalmAt (of_part (part_count n) i ys)) (sym (moved_by i xs x false on ∙ after_nothing (at i xs))) (subst (λ es. CalmAt es (at i xs)) (of_first (part_count n) i x ys false on) (calm i))

  whole_at : (xs : List Placed) (i : ℕ) → IsMergeOf (journals_of parts) xs → of_part (part_count n) i xs ≡ entries_at (journals_of parts) i
  whole_at xs i merge = subst (λ k. of_part k i xs ≡ entries_at (journals_of parts) i) (count_is n parts are) (merge.each i)

  pub parts_calm : (xs : List Placed) (end : WorldView) → IsMergeOf (journals_of parts) xs → Walk (machine n (starts_of parts)) (events_of xs) end → Quiet (machine n (starts_of parts)) (events_of xs) → (i : ℕ) → CalmAt (entries_at (journals_of parts) i) (slice_get (starts_of parts) i)
  parts_calm xs end merge walk quiet i =
      let calm = calm_of [] xs (machine n (starts_of parts)) end merge refl walk quiet i in
      subst (λ es. CalmAt es (slice_get (starts_of parts) i)) (whole_at xs i merge) (subst (CalmAt (of_part (part_count n) i xs)) (after_nothing (slice_get (starts_of parts) i)) calm)

  -- no event of a beginning of the merge is final, if no part ends along it
  pub front_quiet : (xs ys : List Placed) → IsMergeOf (journals_of parts) (xs ++ ys) → ((i : ℕ) → CalmAt (of_part (part_count n) i xs) (slice_get (starts_of parts) i)) → Quiet (machine n (starts_of parts)) (events_of xs)
  front_quiet xs ys merge calm = quiet_of [] xs ys (machine n (starts_of parts)) merge refl (λ i.
      subst (CalmAt (of_part (part_count n) i xs)) (sym (after_nothing (slice_get (starts_of parts) i))) (calm i))

  pub merge_quiet : (xs : List Placed) → IsMergeOf (journals_of parts) xs → ((i : ℕ) → CalmAt (entries_at (journals_of parts) i) (slice_get (starts_of parts) i)) → Quiet (machine n (starts_of parts)) (events_of xs)
  merge_quiet xs merge calm = front_quiet xs [] (subst (IsMergeOf (journals_of parts)) (sym (append-nil xs)) merge) (λ i.
      subst (λ es. CalmAt es (slice_get (starts_of parts) i)) (sym (whole_at xs i merge)) (calm i))

-- ---- in terms of all parts

none_of : (o : Option ℕ) → o ≡ None → is_some o ≡ false
none_of None e = refl
none_of (Some s) e = cc e

some_of : (o : Option ℕ) → is_some o ≡ false → o ≡ None
some_of None e = refl
some_of (Some s) e = cc e

or_false : (b c : Bool) → (b || c) ≡ false → (b ≡ false) × (c ≡ false)
or_false true c e = cc e
or_false false c e = (refl, e)

both_false : (b c : Bool) → b ≡ false → c ≡ false → (b || c) ≡ false
both_false true c e f = cc e
both_false false c e f = f

pub calm_none : (parts : List StampedView) → ((i : ℕ) → CalmAt (entries_at (journals_of parts) i) (slice_get (starts_of parts) i)) → some_ended parts ≡ false
calm_none [] calm = refl
calm_none (s ∷ parts) calm = both_false (has_ended s) (some_ended parts) (none_of (first_final s.entries s.start) (calm 0 s.start refl)) (calm_none parts (λ i. calm (suc i)))

pub none_calm : (parts : List StampedView) → some_ended parts ≡ false → (i : ℕ) → CalmAt (entries_at (journals_of parts) i) (slice_get (starts_of parts) i)
none_calm [] none i = λ v is. refl
none_calm (s ∷ parts) none zero = λ v is. let same : s.start ≡ v = cc is in subst (λ (u : PartView). first_final s.entries u ≡ None) same (some_of (first_final s.entries s.start) (or_false (has_ended s) (some_ended parts) none).0)
none_calm (s ∷ parts) none (suc i) = none_calm parts (or_false (has_ended s) (some_ended parts) none).1 i
