-- Each event of parts keeps the detector's invariant.
use Rattle.std.proofs.Common.{ℕ, zero, suc, ◌+◌, ◌<◌, ◌≤◌, ◌≡◌, refl, sym, ◌∙◌, ap, subst, inl, inr, arith, cond, Bool, true, false, Option, Some, None, length}
use Rattle.std.specs.Prelude.{ℤ, pos, ◌+ℤ◌, ◌≤ℤ◌, ◌<ℤ◌, nat_lt, nat_le, ◌⊎◌, IsSome}
use Rattle.std.proofs.lemmas.Bool.{cases_eq, cases_lt, lt-ltb, le-ltb, ltb-false}
use Rattle.std.proofs.lemmas.Int.{ints}
use Rattle.tn_sums.specs.Totals.{total}
use Rattle.tn_sums.proofs.Laws.{total_same}
use Rattle.tn_detect.specs.declared.phase.Phase.{Phase}
use Rattle.tn_detect.specs.declared.phase.Phase.TheVariants.{Collect, Confirm, Release, Go}
use Rattle.tn_detect.specs.declared.state.DetectorState.{DetectorState}
use Rattle.tn_detect.specs.Notes.{note}
use Rattle.tn_detect.specs.Reports.{number_of, report_at, sum_int}
use Rattle.tn_detect.proofs.Sums.{changed_sum, same_sum}
use Rattle.tn_rest.specs.declared.facts.Facts.{Facts}
use Rattle.tn_rest.specs.RestView.{Changed, Gets, RestView, Same, Sends, Works}
use Rattle.tn_rest.specs.Happens.{Empties, Fills, OnPart}
use Rattle.tn_rest.specs.Quiet.{HasBlack, InPhase, IsCalm, IsPositive, IsQuiet, IsSound, IsVerified, counted, mixed, notes_of, report_of, reported}
use Rattle.tn_rest.proofs.Totals.{changed_total, term_le}

-- what holds of each part still does, where it holds of the part that changed
pub lift : (P : Facts → ℕ → Type 0) (n j : ℕ) (old new : ℕ → Facts) → Changed old new j → ((k : ℕ) → k < n → P (old k) k) → P (new j) j → (k : ℕ) → k < n → P (new k) k
lift P n j old new c all here k l = elim (cases_eq k j) [
  | inl e ↦ subst (λ x. P (new x) x) (sym e) here
  | inr ne ↦ subst (λ f. P f k) (sym (c.other k ne)) (all k l)
]

pub clash : {A : Type 0} (b : Bool) → b ≡ true → b ≡ false → A
clash b t f = cc

sound_busy : (p q : Facts) (r : Option ℤ) → p.view.still ≡ false → q.view.black ≡ p.view.black → IsSound p r → IsSound q r
sound_busy p q None busy black s = tt
sound_busy p q (Some r) busy black s = λ white. clash p.view.still (s (sym black ∙ white)).still busy

sound_black : (q : Facts) (r : Option ℤ) → q.view.black ≡ true → IsSound q r
sound_black q None black = tt
sound_black q (Some r) black = λ white. clash q.view.black black white

pub notes_same : (old new : ℕ → Facts) (i : ℕ) → ((k : ℕ) → k < i → new k ≡ old k) → notes_of new i ≡ notes_of old i
notes_same old new zero e = refl
notes_same old new (suc i) e =
    let r = notes_same old new i (λ k l. e k (omega arith)) in
    let s = e i (omega arith) in
    ap (λ x. note (new i).view x) r ∙ ap (λ (x : Facts). note x.view (notes_of old i)) s

-- the sum of the counters and the packets on links
pub sums_part : (n j : ℕ) (old new : RestView) → OnPart n j old new → sum_int (counted new) n +ℤ (old.part j).view.counter ≡ sum_int (counted old) n +ℤ (new.part j).view.counter
sums_part n j old new o = changed_sum (counted old) (counted new) n j o.inside (λ k l ne. ap (λ (f : Facts). f.view.counter) (o.part.other k ne))

counts_link : (m l : ℕ) (old new : ℕ → ℕ) → l < m → Changed old new l → total new m + old l ≡ total old m + new l
counts_link m l old new h c = changed_total old new m l h (λ k x ne. c.other k ne)

-- where the part j changes and the reports do not
mixed_part : (i n j : ℕ) (old new : RestView) → OnPart n j old new → new.detector ≡ old.detector → sum_int (mixed i new) n +ℤ mixed i old j ≡ sum_int (mixed i old) n +ℤ mixed i new j
mixed_part i n j old new o d = changed_sum (mixed i old) (mixed i new) n j o.inside (λ k l ne. let a = o.part.other k ne in
    ap (λ (f : Facts). cond (nat_lt k i) (reported new k) f.view.counter) a ∙ ap (λ (x : DetectorState). cond (nat_lt k i) (number_of (report_at x.reports k)) (old.part k).view.counter) d)

-- ---- a confirmation while a busy part works or sends

pub mixed_below : (i k : ℕ) (w : RestView) → k < i → mixed i w k ≡ reported w k
mixed_below i k w l = let b : nat_lt k i ≡ true = lt-ltb k i l in ap (λ c. cond c (reported w k) (counted w k)) b

pub mixed_above : (i k : ℕ) (w : RestView) → i ≤ k → mixed i w k ≡ counted w k
mixed_above i k w l = let b : nat_lt k i ≡ false = le-ltb k i l in ap (λ c. cond c (reported w k) (counted w k)) b

-- the term of the part that changed does not fall
mixed_grows : (i j : ℕ) (old new : RestView) → new.detector ≡ old.detector → (old.part j).view.counter ≤ℤ (new.part j).view.counter → mixed i old j ≤ℤ mixed i new j
mixed_grows i j old new d up = elim (cases_lt j i) [
  | inl l ↦
      let a = mixed_below i j old l in let b = mixed_below i j new l in
      let e = ap (λ (x : DetectorState). number_of (report_at x.reports j)) d in
      omega (arith, ints)
  | inr l ↦
      let a = mixed_above i j old l in let b = mixed_above i j new l in
      omega (arith, ints)
]

-- below i nothing has changed
verified_kept : (i n j : ℕ) (old new : RestView) → OnPart n j old new → new.detector ≡ old.detector → (j < i → ⊥) → IsVerified i old → IsVerified i new
verified_kept i n j old new o d far v =
    let apart : (k : ℕ) → k < i → new.part k ≡ old.part k = λ k l. o.part.other k (λ e. far (subst (λ x. x < i) e l)) in
    record {
      calm = λ k l. subst (λ f. IsCalm f (reported new k)) (sym (apart k l)) (subst (λ (x : DetectorState). IsCalm (old.part k) (number_of (report_at x.reports k))) (sym d) (v.calm k l));
      white = λ k l. ap (λ (f : Facts). f.view.black) (apart k l) ∙ v.white k l;
      noted = ap (λ (x : DetectorState). x.noted) d ∙ (v.noted ∙ sym (notes_same old.part new.part i apart));
    }

positive_kept : (i n j : ℕ) (old new : RestView) → OnPart n j old new → new.detector ≡ old.detector → mixed i old j ≤ℤ mixed i new j → IsPositive i n old → IsPositive i n new
positive_kept i n j old new o d up p = let s = mixed_part i n j old new o d in let a = p.above in record { above = omega (arith, ints) }

black_kept : (i n j : ℕ) (old new : RestView) → OnPart n j old new → (new.part j).view.black ≡ (old.part j).view.black → HasBlack i n old → HasBlack i n new
black_kept i n j old new o same b = record {
  which = b.which;
  from = b.from;
  below = b.below;
  black = elim (cases_eq b.which j) [
    | inl e ↦ ap (λ k. (new.part k).view.black) e ∙ (same ∙ (sym (ap (λ k. (old.part k).view.black) e) ∙ b.black))
    | inr ne ↦ ap (λ (f : Facts). f.view.black) (o.part.other b.which ne) ∙ b.black
  ];
}

busy_why : (i n j : ℕ) (old new : RestView) → OnPart n j old new → new.detector ≡ old.detector → (old.part j).view.still ≡ false → (new.part j).view.black ≡ (old.part j).view.black
    → (old.part j).view.counter ≤ℤ (new.part j).view.counter → IsVerified i old ⊎ (IsPositive i n old ⊎ HasBlack i n old) → IsVerified i new ⊎ (IsPositive i n new ⊎ HasBlack i n new)
busy_why i n j old new o d busy black up (inl v) = inl (verified_kept i n j old new o d (λ l. clash (old.part j).view.still (v.calm j l).still busy) v)
busy_why i n j old new o d busy black up (inr (inl p)) = inr (inl (positive_kept i n j old new o d (mixed_grows i j old new d up) p))
busy_why i n j old new o d busy black up (inr (inr b)) = inr (inr (black_kept i n j old new o black b))

-- ---- a confirmation while a packet comes

-- while the parts below i are verified, the mixed sum is the sum of the counters
pub verified_sum : (i n : ℕ) (w : RestView) → IsVerified i w → sum_int (mixed i w) n ≡ sum_int (counted w) n
verified_sum i n w v = same_sum (counted w) (mixed i w) n (λ k l. elim (cases_lt k i) [
  | inl below ↦ mixed_below i k w below ∙ sym (v.calm k below).counter
  | inr above ↦ mixed_above i k w above
])

gets_why : (i n j : ℕ) (old new : RestView) → OnPart n j old new → new.detector ≡ old.detector → (new.part j).view.black ≡ true
    → pos 0 <ℤ sum_int (counted old) n → IsVerified i old ⊎ (IsPositive i n old ⊎ HasBlack i n old) → IsVerified i new ⊎ (IsPositive i n new ⊎ HasBlack i n new)
gets_why i n j old new o d black some why = elim (cases_lt j i) [
  | inr above ↦ inr (inr (record { which = j; from = above; below = o.inside; black = black }))
  | inl below ↦
      let here : mixed i old j ≤ℤ mixed i new j =
      (let a = mixed_below i j old below in let b = mixed_below i j new below in
      let e = ap (λ (x : DetectorState). number_of (report_at x.reports j)) d in omega (arith, ints)) in
      elim why [
        | inl v ↦ let e = verified_sum i n old v in inr (inl (positive_kept i n j old new o d here (record { above = omega (arith, ints) })))
        | inr more ↦ elim more [
          | inl p ↦ inr (inl (positive_kept i n j old new o d here p))
          | inr b ↦ inr (inr (record {
            which = b.which;
            from = b.from;
            below = b.below;
            black = (let from = b.from in ap (λ (f : Facts). f.view.black) (o.part.other b.which (λ e. omega arith)) ∙ b.black);
          }))
        ]
      ]
]

-- ---- the phases while a part works, sends or gets a packet

-- held as before, no report changed
sound_part : (n j : ℕ) (old new : RestView) → OnPart n j old new → new.detector ≡ old.detector → ((r : Option ℤ) → IsSound (old.part j) r → IsSound (new.part j) r)
    → ((k : ℕ) → k < n → IsSound (old.part k) (report_of old k)) → (k : ℕ) → k < n → IsSound (new.part k) (report_of new k)
sound_part n j old new o d step all k l =
    subst (λ (x : DetectorState). IsSound (new.part k) (report_at x.reports k)) (sym d)
    (lift (λ f i. IsSound f (report_of old i)) n j old.part new.part o.part all (step (report_of old j) (all j o.inside)) k l)

pub held_part : (h : ℕ → Bool) (n j : ℕ) (old new : RestView) → OnPart n j old new → (new.part j).held ≡ (old.part j).held → ((k : ℕ) → k < n → (old.part k).held ≡ h k) → (k : ℕ) → k < n → (new.part k).held ≡ h k
held_part h n j old new o same all k l = lift (λ f i. f.held ≡ h i) n j old.part new.part o.part all (same ∙ all j o.inside) k l

same_reports : (old new : RestView) → new.detector ≡ old.detector → (P : ℕ → Option ℤ → Type 0) → (k : ℕ) → P k (report_of old k) → P k (report_of new k)
same_reports old new d P k p = subst (λ (x : DetectorState). P k (report_at x.reports k)) (sym d) p

zero_sum_kept : (n : ℕ) (old new : RestView) → new.detector ≡ old.detector → sum_int (reported old) n ≡ pos 0 → sum_int (reported new) n ≡ pos 0
zero_sum_kept n old new d e = subst (λ (x : DetectorState). sum_int (λ k. number_of (report_at x.reports k)) n ≡ pos 0) (sym d) e

pub work_phase : (ph : Phase) (n m j : ℕ) (old new : RestView) → OnPart n j old new → Works (old.part j) (new.part j) → Same old.link new.link → new.detector ≡ old.detector → InPhase ph n m old → InPhase ph n m new
work_phase Collect n m j old new o s link d q = record {
  free = held_part (λ k. false) n j old new o s.held q.free;
  sound = sound_part n j old new o d (λ r. sound_busy (old.part j) (new.part j) r s.busy s.black) q.sound;
}
work_phase (Confirm i) n m j old new o s link d q = record {
  inside = q.inside;
  free = held_part (λ k. false) n j old new o s.held q.free;
  sound = sound_part n j old new o d (λ r. sound_busy (old.part j) (new.part j) r s.busy s.black) q.sound;
  all = λ k l. same_reports old new d (λ i r. IsSome r) k (q.all k l);
  zero_sum = zero_sum_kept n old new d q.zero_sum;
  why = (let c = s.counter in busy_why i n j old new o d s.busy s.black (omega (arith, ints)) q.why);
}
work_phase (Release i) n m j old new o s link d q = record {
  inside = q.inside;
  held = held_part (λ k. nat_lt k i) n j old new o s.held q.held;
  none = λ k. same_reports old new d (λ i r. r ≡ None) k (q.none k);
  still = λ k above l. elim (cases_eq k j) [
    | inl e ↦ clash (old.part j).view.still (q.still j (omega arith) o.inside) s.busy
    | inr ne ↦ ap (λ (f : Facts). f.view.still) (o.part.other k ne) ∙ q.still k above l
  ];
  empty = λ l h. link l ∙ q.empty l h;
}
work_phase (Go i) n m j old new o s link d q = record {
  inside = q.inside;
  held = held_part (λ k. nat_le i k) n j old new o s.held q.held;
  none = λ k. same_reports old new d (λ i r. r ≡ None) k (q.none k);
}

depart_phase : (ph : Phase) (n m j : ℕ) (old new : RestView) → OnPart n j old new → Sends (old.part j) (new.part j) → new.detector ≡ old.detector → InPhase ph n m old → InPhase ph n m new
depart_phase Collect n m j old new o s d q = record {
  free = held_part (λ k. false) n j old new o s.held q.free;
  sound = sound_part n j old new o d (λ r. sound_busy (old.part j) (new.part j) r s.busy s.black) q.sound;
}
depart_phase (Confirm i) n m j old new o s d q = record {
  inside = q.inside;
  free = held_part (λ k. false) n j old new o s.held q.free;
  sound = sound_part n j old new o d (λ r. sound_busy (old.part j) (new.part j) r s.busy s.black) q.sound;
  all = λ k l. same_reports old new d (λ i r. IsSome r) k (q.all k l);
  zero_sum = zero_sum_kept n old new d q.zero_sum;
  why = (let c = s.counter in busy_why i n j old new o d s.busy s.black (omega (arith, ints)) q.why);
}
depart_phase (Release i) n m j old new o s d q =
    let above = ltb-false j i (sym (q.held j o.inside) ∙ s.free) in
    clash (old.part j).view.still (q.still j above o.inside) s.busy
depart_phase (Go i) n m j old new o s d q = record {
  inside = q.inside;
  held = held_part (λ k. nat_le i k) n j old new o s.held q.held;
  none = λ k. same_reports old new d (λ i r. r ≡ None) k (q.none k);
}

arrive_phase : (ph : Phase) (n m j l : ℕ) (old new : RestView) → OnPart n j old new → Gets (old.part j) (new.part j) → l < m → 0 < old.link l → pos 0 <ℤ sum_int (counted old) n
    → new.detector ≡ old.detector → InPhase ph n m old → InPhase ph n m new
arrive_phase Collect n m j l old new o s h full some d q = record {
  free = held_part (λ k. false) n j old new o s.held q.free;
  sound = sound_part n j old new o d (λ r x. sound_black (new.part j) r s.black) q.sound;
}
arrive_phase (Confirm i) n m j l old new o s h full some d q = record {
  inside = q.inside;
  free = held_part (λ k. false) n j old new o s.held q.free;
  sound = sound_part n j old new o d (λ r x. sound_black (new.part j) r s.black) q.sound;
  all = λ k l. same_reports old new d (λ i r. IsSome r) k (q.all k l);
  zero_sum = zero_sum_kept n old new d q.zero_sum;
  why = gets_why i n j old new o d s.black some q.why;
}
arrive_phase (Release i) n m j l old new o s h full some d q = let e = q.empty l h in absurd (omega arith)
arrive_phase (Go i) n m j l old new o s h full some d q = record {
  inside = q.inside;
  held = held_part (λ k. nat_le i k) n j old new o s.held q.held;
  none = λ k. same_reports old new d (λ i r. r ≡ None) k (q.none k);
}

-- ---- from the old phase to the new one

same_detector : (n m : ℕ) (old new : RestView) → new.detector ≡ old.detector → ((ph : Phase) → InPhase ph n m old → InPhase ph n m new) → InPhase old.detector.phase n m old → InPhase new.detector.phase n m new
same_detector n m old new d step q = subst (λ (x : DetectorState). InPhase x.phase n m new) (sym d) (step old.detector.phase q)

pub in_phase : (ph : Phase) (n m : ℕ) (w : RestView) → w.detector.phase ≡ ph → InPhase w.detector.phase n m w → InPhase ph n m w
in_phase ph n m w e q = subst (λ x. InPhase x n m w) e q

pub work_keeps : (n m j : ℕ) (old new : RestView) → OnPart n j old new → Works (old.part j) (new.part j) → Same old.link new.link → new.detector ≡ old.detector → IsQuiet n m old → IsQuiet n m new
work_keeps n m j old new o s link d q = record {
  places = ap (λ (x : DetectorState). length x.reports) d ∙ q.places;
  sum = (
      let a = sums_part n j old new o in let b = s.counter in
      let c = total_same new.link old.link m (λ k l. link k) in let e = q.sum in
      omega (arith, ints));
  phase = same_detector n m old new d (λ ph. work_phase ph n m j old new o s link d) q.phase;
}

pub depart_keeps : (n m j l : ℕ) (old new : RestView) → OnPart n j old new → Sends (old.part j) (new.part j) → Fills m l old new → new.detector ≡ old.detector → IsQuiet n m old → IsQuiet n m new
depart_keeps n m j l old new o s f d q = record {
  places = ap (λ (x : DetectorState). length x.reports) d ∙ q.places;
  sum = (
      let a = sums_part n j old new o in let b = s.counter in
      let x = counts_link m l old.link new.link f.inside f.other in let y = f.more in let e = q.sum in
      omega (arith, ints));
  phase = same_detector n m old new d (λ ph. depart_phase ph n m j old new o s d) q.phase;
}

pub arrive_keeps : (n m j l : ℕ) (old new : RestView) → OnPart n j old new → Gets (old.part j) (new.part j) → Empties m l old new → new.detector ≡ old.detector → IsQuiet n m old → IsQuiet n m new
arrive_keeps n m j l old new o s f d q = record {
  places = ap (λ (x : DetectorState). length x.reports) d ∙ q.places;
  sum = (
      let a = sums_part n j old new o in let b = s.counter in
      let x = counts_link m l old.link new.link f.inside f.other in let y = f.less in let e = q.sum in
      omega (arith, ints));
  phase = (let e = q.sum in let t = term_le old.link m l f.inside in let y = f.less in
      same_detector n m old new d (λ ph. arrive_phase ph n m j l old new o s f.inside (omega arith) (omega (arith, ints)) d) q.phase);
}
