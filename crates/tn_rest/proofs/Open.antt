-- At rest the detector can do an event.
use Rattle.std.proofs.Common.{ℕ, zero, suc, ◌<◌, ◌≡◌, ◌≢◌, ◌==◌, ◌&&◌, ◌||◌, refl, sym, ◌∙◌, ap, inl, inr, arith, Bool, true, false, cond, Option, Some, None, List, [], ◌∷◌, length, set, is_some, is_none}
use Rattle.std.specs.Prelude.{ℤ, pos, ◌⊎◌, nat_lt, IsSome}
use Rattle.std.specs.List.{list_all}
use Rattle.std.specs.Ordering.{int_eq}
use Rattle.std.proofs.lemmas.Bool.{cases_eq, cases_lt, cases_Bool, eq-eqb, lt-ltb}
use Rattle.std.proofs.lemmas.Bool.Decides.{Decides-int_eq}
use Rattle.std.proofs.lemmas.Int.{ints}
use Rattle.tn_sums.specs.Totals.{total}
use Rattle.tn_detect.specs.declared.facts.PartView.{PartView}
use Rattle.tn_detect.specs.declared.phase.Phase.{Phase}
use Rattle.tn_detect.specs.declared.phase.Phase.TheVariants as phase
use Rattle.tn_detect.specs.declared.state.DetectorState.{DetectorState}
use Rattle.tn_detect.specs.Notes.{nothing_noted}
use Rattle.tn_detect.specs.Reports.{are_balanced, number_of, report_at, sum_int, total as total_of}
use Rattle.tn_detect.specs.Rows.{announce_in, announced, begin_row, behind_go, behind_release, can_begin, can_report, confirm_in, confirmed, go_in, is_collect, release_in, report_row}
use Rattle.tn_detect.proofs.Sums.{same_sum}
use Rattle.tn_rest.specs.declared.facts.Facts.{Facts}
use Rattle.tn_rest.specs.RestView.{RestView}
use Rattle.tn_rest.specs.Happens.{Announce, Begin, Confirm, Go, Release, Report, RestEvent}
use Rattle.tn_rest.specs.Law.{Can}
use Rattle.tn_rest.specs.Quiet.{InPhase, IsAtRest, IsQuiet, IsSound, counted, report_of, reported}
use Rattle.tn_rest.proofs.Totals.{zero_total}

-- the part is to report
abbrev to_report : Option ℤ → Bool → Bool
to_report r black = is_none r || black

search_below : (t : ℕ → Bool) (n : ℕ) → ((j : ℕ) × (j < n) × (t j ≡ true)) ⊎ ((j : ℕ) → j < n → t j ≡ false)
search_below t zero = inr (λ j l. absurd (omega arith))
search_below t (suc n) = elim (cases_Bool (t n)) [
  | inl yes_here ↦ inl (n, omega arith, yes_here)
  | inr not_here ↦ elim (search_below t n) [
    | inl found ↦ (let l = found.1 in inl (found.0, omega arith, found.2))
    | inr none ↦ inr (λ j l. elim (cases_eq j n) [ inl e ↦ ap t e ∙ not_here | inr ne ↦ none j (omega arith) ])
  ]
]

has_report : (r : Option ℤ) (b : Bool) → to_report r b ≡ false → IsSome r × (b ≡ false)
has_report None b h = cc
has_report (Some r) b h = (refl, h)

sound_value : (p : Facts) (r : Option ℤ) → IsSome r → IsSound p r → p.view.black ≡ false → number_of r ≡ p.view.counter
sound_value p None i s w = cc
sound_value p (Some r) i s w = sym (s w).counter

some_of : {A : Type 0} (b : Bool) (x : A) → b ≡ true → is_some (cond b (Some x) None) ≡ true
some_of true x e = refl
some_of false x e = cc

both : (a b : Bool) → a ≡ true → b ≡ true → (a && b) ≡ true
both true b e f = f
both false b e f = e

all_some : (rs : List (Option ℤ)) → ((k : ℕ) → k < length rs → IsSome (report_at rs k)) → list_all is_some rs ≡ true
all_some [] h = refl
all_some (None ∷ rs) h = h 0 (omega arith)
all_some (Some r ∷ rs) h = all_some rs (λ k l. h (suc k) (omega arith))

collects : (p : Phase) → p ≡ phase.Collect → is_collect p ≡ true
collects p e = ap is_collect e

reports : (j : ℕ) (v : PartView) (d : DetectorState) → d.phase ≡ phase.Collect → v.still ≡ true → to_report (report_at d.reports j) v.black ≡ true → IsSome (report_row j v d)
reports j v d ph still t = some_of (can_report j v d) (record d { reports = set d.reports j (Some v.counter) }) (both (is_collect d.phase && v.still) (to_report (report_at d.reports j) v.black) (both (is_collect d.phase) v.still (collects d.phase ph) still) t)

begins : (d : DetectorState) → d.phase ≡ phase.Collect → list_all is_some d.reports ≡ true → total_of d.reports ≡ pos 0 → IsSome (begin_row d)
begins d ph all sum = some_of (can_begin d) (record d { phase = phase.Confirm 0; noted = nothing_noted })
    (both (is_collect d.phase) (are_balanced d.reports) (collects d.phase ph) (both (list_all is_some d.reports) (int_eq (total_of d.reports) (pos 0)) all ((Decides-int_eq (total_of d.reports) (pos 0)).1 sum)))

open_in : (ph : Phase) (n m : ℕ) (w : RestView) → w.detector.phase ≡ ph → length w.detector.reports ≡ n → sum_int (counted w) n ≡ pos (total w.link m) → InPhase ph n m w → (ph ≡ phase.Collect → IsAtRest n m w) → (e : RestEvent) × Can n e w
open_in phase.Collect n m w ph places sum q rest = elim (search_below (λ k. to_report (report_of w k) (w.part k).view.black) n) [
  | inl found ↦ (Report found.0, (found.1, reports found.0 (w.part found.0).view w.detector ph ((rest refl).still found.0 found.1) found.2))
  | inr none ↦ (
    Begin,
    begins w.detector ph (all_some w.detector.reports (λ k l. (has_report (report_of w k) (w.part k).view.black (none k (omega arith))).0))
        (ap (sum_int (reported w)) places
        ∙ (let e = same_sum (counted w) (reported w) n (λ k l. let h = has_report (report_of w k) (w.part k).view.black (none k l) in sound_value (w.part k) (report_of w k) h.0 (q.sound k l) h.1) in
        let z = zero_total w.link m (rest refl).empty in
        omega (arith, ints))),
  )
]
open_in (phase.Confirm i) n m w ph places sum q rest = elim (cases_lt i n) [
  | inl l ↦ (Confirm i, (l, ph, ap (λ p. is_some (confirm_in n p (w.part i).view w.detector)) ph ∙ some_of (nat_lt i n) (confirmed i (w.part i).view w.detector) (lt-ltb i n l)))
  | inr ge ↦ (let inside = q.inside in let e : i ≡ n = omega arith in (Announce, ap (λ p. is_some (announce_in n p w.detector)) ph ∙ some_of (i == n) (announced w.detector) (eq-eqb i n e)))
]
open_in (phase.Release i) n m w ph places sum q rest = (Release i, (q.inside, ph, ap (λ p. is_some (release_in n p w.detector)) ph ∙ some_of (nat_lt i n) (record w.detector { phase = behind_release n i }) (lt-ltb i n q.inside)))
open_in (phase.Go i) n m w ph places sum q rest = (Go i, (q.inside, ph, ap (λ p. is_some (go_in n p w.detector)) ph ∙ some_of (nat_lt i n) (record w.detector { phase = behind_go n i }) (lt-ltb i n q.inside)))

pub open_at_rest : (n m : ℕ) (w : RestView) → IsQuiet n m w → IsAtRest n m w → (e : RestEvent) × Can n e w
open_at_rest n m w q r = open_in w.detector.phase n m w refl q.places q.sum q.phase (λ e. r)

pub open_outside : (n m : ℕ) (w : RestView) → IsQuiet n m w → w.detector.phase ≢ phase.Collect → (e : RestEvent) × Can n e w
open_outside n m w q ne = open_in w.detector.phase n m w refl q.places q.sum q.phase (λ e. absurd (ne e))
