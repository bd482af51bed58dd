-- Every event, every run, the start, and what follows an announcement.
use Rattle.std.proofs.Common.{ℕ, suc, ◌≢◌, refl, cond, ◌+◌, ◌<◌, ◌≤◌, ◌≡◌, sym, ◌∙◌, ap, subst, inl, inr, arith, false, List, [], ◌∷◌, Some}
use Rattle.std.specs.Prelude.{pos, ◌⊎◌}
use Rattle.std.specs.List.{All}
use Rattle.std.proofs.lemmas.Bool.{cases_eq, ne_eqb}
use Rattle.tn_detect.specs.declared.phase.Phase.{Phase}
use Rattle.tn_detect.specs.declared.phase.Phase.TheVariants as phase
use Rattle.tn_detect.specs.declared.state.DetectorState.{DetectorState}
use Rattle.tn_detect.specs.Notes.{answer_of}
use Rattle.tn_detect.proofs.Sums.{zero_sum}
use Rattle.tn_rest.specs.RestView.{RestView}
use Rattle.tn_rest.specs.Happens.{Announce, Arrive, Begin, Confirm, Depart, Go, Happens, OnPart, Release, Report, RestEvent, Run, Work}
use Rattle.tn_rest.specs.Law.{Announces, IsStart, Waits}
use Rattle.tn_rest.specs.Quiet.{InPhase, IsQuiet, IsReleasing, IsSound, counted}
use Rattle.tn_rest.proofs.Detecting.{announce_keeps, begin_keeps, confirm_keeps, go_keeps, noted_at, release_keeps, report_keeps, rest_at}
use Rattle.tn_rest.proofs.Keeps.{arrive_keeps, clash, depart_keeps, in_phase, work_keeps}
use Rattle.tn_rest.proofs.RowsTell.{announce_tells, begin_tells, release_tells, report_tells}
use Rattle.tn_rest.proofs.Totals.{zero_total}

pub keeps : (n m : ℕ) (e : RestEvent) (old new : RestView) → 0 < n → IsQuiet n m old → Happens n m e old new → IsQuiet n m new
keeps n m (Work j) old new some q h = work_keeps n m j old new h.0 h.1 h.2 h.3 q
keeps n m (Depart j l) old new some q h = depart_keeps n m j l old new h.0 h.1 h.2 h.3 q
keeps n m (Arrive l j) old new some q h = arrive_keeps n m j l old new h.0 h.1 h.2 h.3 q
keeps n m (Report j) old new some q h = report_keeps n m j old new h.0 h.1 h.2 h.3 q
keeps n m Begin old new some q h = begin_keeps n m old new h.0 h.1 q
keeps n m (Confirm j) old new some q h = confirm_keeps n m j old new h.0 h.1 h.2 q
keeps n m Announce old new some q h = announce_keeps n m old new some h.0 h.1 q
keeps n m (Release j) old new some q h = release_keeps n m j old new h.0 h.1 h.2 h.3 h.4 q
keeps n m (Go j) old new some q h = go_keeps n m j old new h.0 h.1 h.2 h.3 h.4 q

run_keeps : (n m : ℕ) (es : List RestEvent) (old new : RestView) → 0 < n → IsQuiet n m old → Run n m old es new → IsQuiet n m new
run_keeps n m [] old new some q r = subst (IsQuiet n m) (sym r) q
run_keeps n m (e ∷ es) old new some q r = run_keeps n m es r.0 new some (keeps n m e old r.0 some q r.1) r.2

pub starts : (n m : ℕ) (w : RestView) → IsStart n w → IsQuiet n m w
starts n m w s = record {
  places = s.places;
  sum = zero_sum (counted w) n (λ k l. s.counters k) ∙ ap pos (sym (zero_total w.link m (λ l h. s.links l)));
  phase = subst (λ x. InPhase x n m w) (sym s.phase) (record {
    free = λ k l. s.free k;
    sound = λ k l. subst (λ r. IsSound (w.part k) r) (sym (s.reports k)) tt;
  });
}

pub runs : (n m : ℕ) (es : List RestEvent) (start end : RestView) → 0 < n → IsStart n start → Run n m start es end → IsQuiet n m end
runs n m es start end some s r = run_keeps n m es start end some (starts n m start s) r

pub announces : (n m : ℕ) (es : List RestEvent) (start old new : RestView) → 0 < n → IsStart n start → Run n m start es old → Happens n m Announce old new → Announces n m old new
announces n m es start old new some s r h =
    let q = runs n m es start old some s r in
    let t = announce_tells n old.detector new.detector h.1 in
    record {
      rest = rest_at n m old q t.phase;
      answer = ap (λ (d : DetectorState). d.answer) t.is ∙ ap (λ x. Some (answer_of x)) (noted_at n m old q t.phase);
    }

-- ---- while parts are released

same_place : (i k : ℕ) → phase.Release k ≡ phase.Release i → k ≡ i
same_place i k e = cc

not_collect : {A : Type 0} (i : ℕ) (p : Phase) → p ≡ phase.Release i → p ≡ phase.Collect → A
not_collect i p a b = cc

not_go : {A : Type 0} (i k : ℕ) (p : Phase) → p ≡ phase.Release i → p ≡ phase.Go k → A
not_go i k p a b = cc

not_confirm : {A : Type 0} (i k : ℕ) (p : Phase) → p ≡ phase.Release i → p ≡ phase.Confirm k → A
not_confirm i k p a b = cc

busy_elsewhere : (n m i j k : ℕ) (old new : RestView) → IsReleasing i n m old → i ≤ j → j < n → OnPart n k old new → (old.part k).view.still ≡ false → new.part j ≡ old.part j
busy_elsewhere n m i j k old new r a l o busy = elim (cases_eq j k) [
  | inl e ↦ clash (old.part j).view.still (r.still j a l) (ap (λ x. (old.part x).view.still) e ∙ busy)
  | inr ne ↦ o.part.other j ne
]

pub only_releases : (n m i j : ℕ) (e : RestEvent) (old new : RestView) → IsQuiet n m old → old.detector.phase ≡ phase.Release i → i ≤ j → j < n → Happens n m e old new → ((e ≡ Release i) × (j ≡ i)) ⊎ (new.part j ≡ old.part j)
only_releases n m i j (Work k) old new q ph a l h = inr (busy_elsewhere n m i j k old new (in_phase (phase.Release i) n m old ph q.phase) a l h.0 h.1.busy)
only_releases n m i j (Depart k x) old new q ph a l h = inr (busy_elsewhere n m i j k old new (in_phase (phase.Release i) n m old ph q.phase) a l h.0 h.1.busy)
only_releases n m i j (Arrive x k) old new q ph a l h =
    let r = in_phase (phase.Release i) n m old ph q.phase in
    let e = r.empty x h.2.inside in let f = h.2.less in absurd (omega arith)
only_releases n m i j (Report k) old new q ph a l h = not_collect i old.detector.phase ph (report_tells k (old.part k).view old.detector new.detector h.3).phase
only_releases n m i j Begin old new q ph a l h = inr (h.0.part j)
only_releases n m i j (Confirm k) old new q ph a l h = inr (h.0.part j)
only_releases n m i j Announce old new q ph a l h = inr (h.0.part j)
only_releases n m i j (Release k) old new q ph a l h =
    let same = same_place i k (sym h.3 ∙ ph) in
    elim (cases_eq j k) [
      | inl e ↦ inl (ap Release same, e ∙ same)
      | inr ne ↦ inr (h.0.part.other j ne)
    ]
only_releases n m i j (Go k) old new q ph a l h = not_go i k old.detector.phase ph h.3

-- ---- until a part is released

-- the phase after an event that is not the release of part j
phase_kept : (i j : ℕ) (old new : RestView) → i ≤ j → old.detector.phase ≡ phase.Release i → new.detector ≡ old.detector → (k : ℕ) × (k ≤ j) × (new.detector.phase ≡ phase.Release k)
phase_kept i j old new a ph e = (i, a, ap (λ (d : DetectorState). d.phase) e ∙ ph)

still_releasing : (n m i j : ℕ) (e : RestEvent) (old new : RestView) → old.detector.phase ≡ phase.Release i → i ≤ j → j < n → e ≢ Release j → Happens n m e old new → (k : ℕ) × (k ≤ j) × (new.detector.phase ≡ phase.Release k)
still_releasing n m i j (Work p) old new ph a l ne h = phase_kept i j old new a ph h.3
still_releasing n m i j (Depart p x) old new ph a l ne h = phase_kept i j old new a ph h.3
still_releasing n m i j (Arrive x p) old new ph a l ne h = phase_kept i j old new a ph h.3
still_releasing n m i j (Report p) old new ph a l ne h = not_collect i old.detector.phase ph (report_tells p (old.part p).view old.detector new.detector h.3).phase
still_releasing n m i j Begin old new ph a l ne h = not_collect i old.detector.phase ph (begin_tells old.detector new.detector h.1).phase
still_releasing n m i j (Confirm p) old new ph a l ne h = not_confirm i p old.detector.phase ph h.1
still_releasing n m i j Announce old new ph a l ne h = not_confirm i n old.detector.phase ph (announce_tells n old.detector new.detector h.1).phase
still_releasing n m i j (Release p) old new ph a l ne h =
    let same = same_place i p (sym h.3 ∙ ph) in
    let t = release_tells n p old.detector new.detector h.3 h.4 in
    let apart : p ≢ j = λ e. ne (ap Release e) in
    let far : p + 1 ≢ n = λ e. omega arith in
    (p + 1, omega arith, ap (λ (d : DetectorState). d.phase) t.is ∙ ap (λ b. cond b (phase.Go 0) (phase.Release (p + 1))) (ne_eqb (p + 1) n far))
still_releasing n m i j (Go p) old new ph a l ne h = not_go i p old.detector.phase ph h.3

unchanged : (n m i j : ℕ) (e : RestEvent) (old new : RestView) → IsQuiet n m old → old.detector.phase ≡ phase.Release i → i ≤ j → j < n → e ≢ Release j → Happens n m e old new → new.part j ≡ old.part j
unchanged n m i j e old new q ph a l ne h = elim (only_releases n m i j e old new q ph a l h) [
  | inl released ↦ absurd (ne (released.0 ∙ ap Release (sym released.1)))
  | inr same ↦ same
]

pub waits : (n m i j : ℕ) (es : List RestEvent) (old new : RestView) → 0 < n → IsQuiet n m old → old.detector.phase ≡ phase.Release i → i ≤ j → j < n → All (λ e. e ≢ Release j) es → Run n m old es new → Waits j old new
waits n m i j [] old new some q ph a l without r = subst (λ (w : RestView). Waits j old w) (sym r) (record { part = refl; next = i; before = a; phase = ph })
waits n m i j (e ∷ es) old new some q ph a l without r =
    let mid = r.0 in
    let first : e ≢ Release j = without 0 e (omega arith) in
    let next = still_releasing n m i j e old mid ph a l first r.1 in
    let later = waits n m next.0 j es mid new some (keeps n m e old mid some q r.1) next.2 next.1 l (λ k d h. without (suc k) d (omega arith)) r.2 in
    record { part = later.part ∙ unchanged n m i j e old mid q ph a l first r.1; next = later.next; before = later.before; phase = later.phase }
