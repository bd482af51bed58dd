-- What an event does to the list of parts is an event of the machine as it is seen.
use Rattle.std.proofs.Common.{ℕ, ◌+◌, ◌<◌, ◌≤◌, ◌≡◌, ◌≢◌, sym, ◌∙◌, ap, subst, inl, inr, arith, cond, true, false, List, [], ◌∷◌, Option, Some, slice_get}
use Rattle.std.specs.Prelude.{nat_lt, ◌⊎◌}
use Rattle.std.proofs.lemmas.Bool.{cases_eq, cases_lt, le-ltb, lt-ltb}
use Rattle.tn_detect.specs.declared.facts.PartView.{PartView}
use Rattle.tn_detect.specs.declared.phase.Phase.{Phase}
use Rattle.tn_detect.specs.declared.phase.Phase.TheVariants as phase
use Rattle.tn_detect.specs.declared.state.DetectorState.{DetectorState}
use Rattle.tn_detect.specs.Rows.{announce_row, begin_row, confirm_row, go_row, release_row, report_row}
use Rattle.tn_rest.specs.declared.facts.Facts.{Facts}
use Rattle.tn_rest.specs.Happens.{Announce, Arrive, Begin, Confirm, Depart, Go, Happens, OnDetector, OnPart, Release, Report, RestEvent, Run, Work}
use Rattle.tn_rest.specs.Law.{Announces, IsStart}
use Rattle.tn_rest.specs.Quiet.{IsQuiet}
use Rattle.tn_rest.specs.RestView.{Changed, Gets, Same, Sends, Turns, Whitens, Works}
use Rattle.tn_rest.specs.Seen.{Becomes, DetectorSteps, Link, OnlyAt, PartSteps, SeenPart, Steps, Visited, Walk, detector_of, facts_of, no_facts, packets_of, seen}
use Rattle.tn_rest.proofs.Runs.{announces, runs}

-- ---- what is seen at a place

part_at : (n m k : ℕ) (parts : List SeenPart) (f : Facts) → k < n → slice_get parts k ≡ Some (Visited f) → (seen n m parts).part k ≡ f
part_at n m k parts f l e = ap (λ b. cond b (facts_of (slice_get parts k)) no_facts) (lt-ltb k n l) ∙ ap facts_of e

link_at : (n m l k : ℕ) (parts : List SeenPart) → l < m → slice_get parts (n + l) ≡ Some (Link k) → (seen n m parts).link l ≡ k
link_at n m l k parts h e = ap (λ b. cond b (packets_of (slice_get parts (n + l))) 0) (lt-ltb l m h) ∙ ap packets_of e

-- ---- what stays

part_same : (n m k : ℕ) (old new : List SeenPart) → (k < n → slice_get new k ≡ slice_get old k) → (seen n m new).part k ≡ (seen n m old).part k
part_same n m k old new e = elim (cases_lt k n) [
  | inl l ↦ ap (λ o. cond (nat_lt k n) (facts_of o) no_facts) (e l)
  | inr past ↦ (let b = le-ltb k n past in ap (λ b. cond b (facts_of (slice_get new k)) no_facts) b ∙ sym (ap (λ b. cond b (facts_of (slice_get old k)) no_facts) b))
]

link_same : (n m l : ℕ) (old new : List SeenPart) → (l < m → slice_get new (n + l) ≡ slice_get old (n + l)) → (seen n m new).link l ≡ (seen n m old).link l
link_same n m l old new e = elim (cases_lt l m) [
  | inl h ↦ ap (λ o. cond (nat_lt l m) (packets_of o) 0) (e h)
  | inr past ↦ (let b = le-ltb l m past in ap (λ b. cond b (packets_of (slice_get new (n + l))) 0) b ∙ sym (ap (λ b. cond b (packets_of (slice_get old (n + l))) 0) b))
]

on_part : (n m p q : ℕ) (old new : List SeenPart) → p < n → n ≤ q → OnlyAt p q old new → OnPart n p (seen n m old) (seen n m new)
on_part n m p q old new l far o = record {
  inside = l;
  part = record { other = λ k ne. part_same n m k old new (λ h. o.others k ne (λ e. omega arith)) };
}

alone_on_part : (n m p : ℕ) (old new : List SeenPart) → p < n → OnlyAt p p old new → OnPart n p (seen n m old) (seen n m new)
alone_on_part n m p old new l o = record {
  inside = l;
  part = record { other = λ k ne. part_same n m k old new (λ h. o.others k ne ne) };
}

links_same : (n m p q : ℕ) (old new : List SeenPart) → p < n → (q < n) ⊎ (n + m ≤ q) → OnlyAt p q old new → Same (seen n m old).link (seen n m new).link
links_same n m p q old new l far o k = link_same n m k old new (λ h. o.others (n + k) (λ e. omega arith) (λ e. by far e h)) where
  by : (q < n) ⊎ (n + m ≤ q) → n + k ≡ q → k < m → ⊥
  by (inl a) e h = omega arith
  by (inr a) e h = omega arith

detector_same : (n m p q : ℕ) (old new : List SeenPart) → p < n → q ≢ n + m → OnlyAt p q old new → (seen n m new).detector ≡ (seen n m old).detector
detector_same n m p q old new l far o = ap detector_of (o.others (n + m) (λ e. omega arith) (λ e. far (sym e)))

-- where the detector alone changes, and where part p shows what it did before
detector_alone : (n m : ℕ) (old new : List SeenPart) → OnlyAt (n + m) (n + m) old new → OnDetector (seen n m old) (seen n m new)
detector_alone n m old new o = record {
  part = λ k. part_same n m k old new (λ h. o.others k (λ e. omega arith) (λ e. omega arith));
  link = λ k. link_same n m k old new (λ h. o.others (n + k) (λ e. omega arith) (λ e. omega arith));
}

detector_beside : (n m p : ℕ) (old new : List SeenPart) (f : Facts) → p < n → Becomes p (Visited f) (Visited f) old new → OnlyAt p (n + m) old new → OnDetector (seen n m old) (seen n m new)
detector_beside n m p old new f l b o = record {
  part = λ k. part_same n m k old new (λ h. elim (cases_eq k p) [
    | inl e ↦ ap (slice_get new) e ∙ (b.is ∙ (sym b.was ∙ sym (ap (slice_get old) e)))
    | inr ne ↦ o.others k ne (λ e. omega arith)
  ]);
  link = links_same n m p (n + m) old new l (inr (omega arith)) o;
}

-- link l alone changes
one_link : (n m p l : ℕ) (old new : List SeenPart) → p < n → OnlyAt p (n + l) old new → Changed (seen n m old).link (seen n m new).link l
one_link n m p l old new h o = record { other = λ k ne. link_same n m k old new (λ x. o.others (n + k) (λ e. omega arith) (λ e. omega arith)) }

-- ---- a relation of the facts, and a row of the detector, as they are seen

shows : (R : Facts → Facts → Type 0) (n m p q : ℕ) (old new : List SeenPart) (s : PartSteps n p q old new) → R s.before s.behind → R ((seen n m old).part p) ((seen n m new).part p)
shows R n m p q old new s r =
    let a = part_at n m p old s.before s.inside s.becomes.was in
    let b = part_at n m p new s.behind s.inside s.becomes.is in
    subst (λ x. R x ((seen n m new).part p)) (sym a) (subst (R s.before) (sym b) r)

detector_was : (n m : ℕ) (old new : List SeenPart) (d : DetectorSteps (n + m) old new) → (seen n m old).detector ≡ d.before
detector_was n m old new d = ap detector_of d.becomes.was

detector_is : (n m : ℕ) (old new : List SeenPart) (d : DetectorSteps (n + m) old new) → (seen n m new).detector ≡ d.behind
detector_is n m old new d = ap detector_of d.becomes.is

row_seen : (n m : ℕ) (old new : List SeenPart) (row : DetectorState → Option DetectorState) (d : DetectorSteps (n + m) old new) → row d.before ≡ Some d.behind → row (seen n m old).detector ≡ Some (seen n m new).detector
row_seen n m old new row d r = ap row (detector_was n m old new d) ∙ (r ∙ ap Some (sym (detector_is n m old new d)))

phase_seen : (n m : ℕ) (old new : List SeenPart) (p : Phase) (d : DetectorSteps (n + m) old new) → d.before.phase ≡ p → (seen n m old).detector.phase ≡ p
phase_seen n m old new p d e = ap (λ (x : DetectorState). x.phase) (detector_was n m old new d) ∙ e

view_seen : (n m p q : ℕ) (old new : List SeenPart) (row : PartView → DetectorState → Option DetectorState) (s : PartSteps n p q old new) (d : DetectorSteps (n + m) old new) → row s.before.view d.before ≡ Some d.behind
    → row ((seen n m old).part p).view (seen n m old).detector ≡ Some (seen n m new).detector
view_seen n m p q old new row s d r =
    ap (λ (f : Facts). row f.view (seen n m old).detector) (part_at n m p old s.before s.inside s.becomes.was) ∙ row_seen n m old new (row s.before.view) d r

-- ---- each event

pub happens : (n m : ℕ) (e : RestEvent) (old new : List SeenPart) → Steps n m e old new → Happens n m e (seen n m old) (seen n m new)
happens n m (Work p) old new h =
    let s = h.0 in let l = s.inside in
    (alone_on_part n m p old new s.inside s.only, shows Works n m p p old new s h.1, links_same n m p p old new s.inside (inl s.inside) s.only, detector_same n m p p old new s.inside (λ e. omega arith) s.only)
happens n m (Depart p l) old new h =
    let s = h.0 in let k = h.3 in let c = h.4 in let i = h.2 in (
      on_part n m p (n + l) old new s.inside (omega arith) s.only,
      shows Sends n m p (n + l) old new s h.1,
      record { inside = h.2; other = one_link n m p l old new s.inside s.only; more = link_at n m l (k + 1) new h.2 c.is ∙ ap (λ x. x + 1) (sym (link_at n m l k old h.2 c.was)) },
      detector_same n m p (n + l) old new s.inside (λ e. omega arith) s.only,
    )
happens n m (Arrive l p) old new h =
    let s = h.0 in let k = h.3 in let c = h.4 in let i = h.2 in (
      on_part n m p (n + l) old new s.inside (omega arith) s.only,
      shows Gets n m p (n + l) old new s h.1,
      record { inside = h.2; other = one_link n m p l old new s.inside s.only; less = link_at n m l (k + 1) old h.2 c.was ∙ ap (λ x. x + 1) (sym (link_at n m l k new h.2 c.is)) },
      detector_same n m p (n + l) old new s.inside (λ e. omega arith) s.only,
    )
happens n m (Report p) old new h =
    let s = h.0 in let d = h.1 in (
      on_part n m p (n + m) old new s.inside (omega arith) s.only,
      shows Whitens n m p (n + m) old new s h.2,
      links_same n m p (n + m) old new s.inside (inr (omega arith)) s.only,
      view_seen n m p (n + m) old new (report_row p) s d h.3,
    )
happens n m Begin old new h = (detector_alone n m old new h.0, row_seen n m old new begin_row h.1 h.2)
happens n m (Confirm p) old new h =
    let s = h.0 in let d = h.1 in (
      detector_beside n m p old new s.before s.inside (record { was = s.becomes.was; is = s.becomes.is ∙ ap (λ f. Some (Visited f)) h.2 }) s.only,
      phase_seen n m old new (phase.Confirm p) d h.3,
      view_seen n m p (n + m) old new (confirm_row n) s d h.4,
    )
happens n m Announce old new h = (detector_alone n m old new h.0, row_seen n m old new (announce_row n) h.1 h.2)
happens n m (Release p) old new h =
    let s = h.0 in let d = h.1 in (
      on_part n m p (n + m) old new s.inside (omega arith) s.only,
      shows (Turns true) n m p (n + m) old new s h.2,
      links_same n m p (n + m) old new s.inside (inr (omega arith)) s.only,
      phase_seen n m old new (phase.Release p) d h.3,
      row_seen n m old new (release_row n) d h.4,
    )
happens n m (Go p) old new h =
    let s = h.0 in let d = h.1 in (
      on_part n m p (n + m) old new s.inside (omega arith) s.only,
      shows (Turns false) n m p (n + m) old new s h.2,
      links_same n m p (n + m) old new s.inside (inr (omega arith)) s.only,
      phase_seen n m old new (phase.Go p) d h.3,
      row_seen n m old new (go_row n) d h.4,
    )

-- ---- every walk

run_seen : (n m : ℕ) (es : List RestEvent) (old new : List SeenPart) → Walk n m old es new → Run n m (seen n m old) es (seen n m new)
run_seen n m [] old new w = ap (seen n m) w
run_seen n m (e ∷ es) old new w = (seen n m w.0, happens n m e old w.0 w.1, run_seen n m es w.0 new w.2)

pub walks_quiet : (n m : ℕ) (es : List RestEvent) (start end : List SeenPart) → 0 < n → IsStart n (seen n m start) → Walk n m start es end → IsQuiet n m (seen n m end)
walks_quiet n m es start end some s w = runs n m es (seen n m start) (seen n m end) some s (run_seen n m es start end w)

pub walks_announce : (n m : ℕ) (es : List RestEvent) (start old new : List SeenPart) → 0 < n → IsStart n (seen n m start) → Walk n m start es old → Steps n m Announce old new → Announces n m (seen n m old) (seen n m new)
walks_announce n m es start old new some s w h = announces n m es (seen n m start) (seen n m old) (seen n m new) some s (run_seen n m es start old w) (happens n m Announce old new h)
