-- Each event of the detector keeps its invariant.
use Rattle.std.proofs.Common.{ℕ, zero, suc, ◌+◌, ◌<◌, ◌≡◌, ◌≢◌, refl, sym, ◌∙◌, ap, subst, inl, inr, arith, cond, Bool, true, false, not, ◌&&◌, Option, Some, None, List, [], ◌∷◌, length, set, replicate, is_some}
use Rattle.std.specs.Prelude.{ℤ, pos, nat_lt, nat_le, ◌⊎◌, IsSome}
use Rattle.std.specs.List.{list_all}
use Rattle.std.proofs.lemmas.Bool.{and_parts, not-true, eq-eqb, ne_eqb, cases_eq, cases_lt, cases_Bool, lt-ltb, le-ltb, le-leb, lt-leb}
use Rattle.std.proofs.lemmas.Bool.Decides.{nat_tests}
use Rattle.std.proofs.lemmas.Int.{ints}
use Rattle.std.proofs.lemmas.List.{get_or-replicate, get_or-set_other, get_or-set_same, get_or_past, length-replicate, length-set}
use Rattle.std.proofs.Math.Path.{fun_ext}
use Rattle.tn_sums.specs.Totals.{total}
use Rattle.tn_sums.proofs.Laws.{total_same}
use Rattle.tn_detect.specs.declared.phase.Phase.TheVariants.{Collect, Confirm, Release, Go}
use Rattle.tn_detect.specs.declared.state.DetectorState.{DetectorState}
use Rattle.tn_detect.specs.Notes.{note, nothing_noted}
use Rattle.tn_detect.specs.Reports.{number_of, report_at, sum_int}
use Rattle.tn_detect.specs.Rows.{announce_row, announced, begin_row, confirm_row, failed, go_row, passed, release_row, report_row}
use Rattle.tn_detect.proofs.Sums.{same_sum}
use Rattle.tn_rest.specs.declared.facts.Facts.{Facts}
use Rattle.tn_rest.specs.RestView.{Changed, RestView, Same, Turns, Whitens}
use Rattle.tn_rest.specs.Happens.{OnDetector, OnPart}
use Rattle.tn_rest.specs.Quiet.{HasBlack, InPhase, IsAtRest, IsCalm, IsConfirming, IsPositive, IsQuiet, IsSound, IsVerified, counted, mixed, notes_of, report_of, reported}
use Rattle.tn_rest.proofs.Keeps.{clash, held_part, in_phase, mixed_above, mixed_below, sums_part, verified_sum}
use Rattle.tn_rest.proofs.RowsTell.{announce_tells, begin_tells, confirm_tells, go_tells, release_tells, report_tells}
use Rattle.tn_rest.proofs.Totals.{term_of_zero}

-- the machine with another detector
abbrev with_detector : RestView → DetectorState → RestView
with_detector w d = record { part = w.part; link = w.link; detector = d }

detector_is : (n m : ℕ) (new : RestView) (d : DetectorState) → new.detector ≡ d → IsQuiet n m (with_detector new d) → IsQuiet n m new
detector_is n m new d e q = subst (λ x. IsQuiet n m (with_detector new x)) (sym e) q

-- ---- a report

report_sound : (k j : ℕ) (old new : ℕ → Facts) (rs : List (Option ℤ)) → j < length rs → Changed old new j → (old j).view.still ≡ true → Whitens (old j) (new j) → IsSound (old k) (report_at rs k) → IsSound (new k) (report_at (set rs j (Some (old j).view.counter)) k)
report_sound k j old new rs inside c still w s = elim (cases_eq k j) [
  | inl e ↦ subst (λ x. IsSound (new x) (report_at (set rs j (Some (old j).view.counter)) x)) (sym e)
      (subst (IsSound (new j)) (sym (get_or-set_same rs j (Some (old j).view.counter) None inside)) (λ white. record { still = w.still ∙ still; counter = w.counter }))
  | inr ne ↦ subst (IsSound (new k)) (sym (get_or-set_other rs j k (Some (old j).view.counter) None ne)) (subst (λ f. IsSound f (report_at rs k)) (sym (c.other k ne)) s)
]

pub report_keeps : (n m j : ℕ) (old new : RestView) → OnPart n j old new → Whitens (old.part j) (new.part j) → Same old.link new.link → report_row j (old.part j).view old.detector ≡ Some new.detector → IsQuiet n m old → IsQuiet n m new
report_keeps n m j old new o w link row q =
    let t = report_tells j (old.part j).view old.detector new.detector row in
    let c = in_phase Collect n m old t.phase q.phase in
    let places = q.places in let inside = o.inside in
    detector_is n m new (record old.detector { reports = set old.detector.reports j (Some (old.part j).view.counter) }) t.is (record {
      places = length-set old.detector.reports j (Some (old.part j).view.counter) ∙ q.places;
      sum = (
          let a = sums_part n j old new o in let b = w.counter in
          let x = total_same new.link old.link m (λ k l. link k) in let e = q.sum in
          omega (arith, ints));
      phase = subst (λ x. InPhase x n m (with_detector new (record old.detector { reports = set old.detector.reports j (Some (old.part j).view.counter) }))) (sym t.phase)
          (record {
            free = held_part (λ k. false) n j old new o w.held c.free;
            sound = λ k l. report_sound k j old.part new.part old.detector.reports (omega arith) o.part t.still w (c.sound k l);
          });
    })

-- ---- only the detector changes

still_world : (n m : ℕ) (old new : RestView) (d : DetectorState) → OnDetector old new → new.detector ≡ d → IsQuiet n m (with_detector old d) → IsQuiet n m new
still_world n m old new d o e q =
    let pp : new.part ≡ old.part = fun_ext o.part in
    let ll : new.link ≡ old.link = fun_ext o.link in
    detector_is n m new d e
    (subst (λ x. IsQuiet n m (record { part = x; link = new.link; detector = d })) (sym pp)
    (subst (λ x. IsQuiet n m (record { part = old.part; link = x; detector = d })) (sym ll) q))

every_report : (rs : List (Option ℤ)) (k : ℕ) → list_all is_some rs ≡ true → k < length rs → IsSome (report_at rs k)
every_report [] k h l = absurd (omega arith)
every_report (None ∷ rs) k h l = cc
every_report (Some r ∷ rs) zero h l = refl
every_report (Some r ∷ rs) (suc k) h l = every_report rs k h (omega arith)

pub begin_keeps : (n m : ℕ) (old new : RestView) → OnDetector old new → begin_row old.detector ≡ Some new.detector → IsQuiet n m old → IsQuiet n m new
begin_keeps n m old new o row q =
    let t = begin_tells old.detector new.detector row in
    let c = in_phase Collect n m old t.phase q.phase in
    let places = q.places in
    still_world n m old new (record old.detector { phase = Confirm 0; noted = nothing_noted }) o t.is (record {
      places = q.places;
      sum = q.sum;
      phase = record {
        inside = omega arith;
        free = c.free;
        sound = c.sound;
        all = λ k l. every_report old.detector.reports k t.all (omega arith);
        zero_sum = ap (sum_int (reported old)) (sym q.places) ∙ t.sum;
        why = inl (record { calm = λ k h. absurd (omega arith); white = λ k h. absurd (omega arith); noted = refl });
      };
    })

-- ---- a part is looked at a second time

-- a part with a report that is white is calm
calm_at : (p : Facts) (r : Option ℤ) → IsSome r → IsSound p r → p.view.black ≡ false → IsCalm p (number_of r)
calm_at p None i s w = cc
calm_at p (Some r) i s w = s w

more_verified : (i n : ℕ) (w : RestView) → i < n → IsConfirming i n w → (w.part i).view.black ≡ false → IsVerified i w → IsVerified (i + 1) (with_detector w (passed i (w.part i).view w.detector))
more_verified i n w l c white v = record {
  calm = λ k h. elim (cases_eq k i) [
    | inl e ↦ subst (λ x. IsCalm (w.part x) (reported w x)) (sym e) (calm_at (w.part i) (report_of w i) (c.all i l) (c.sound i l) white)
    | inr ne ↦ v.calm k (omega arith)
  ];
  white = λ k h. elim (cases_eq k i) [
    | inl e ↦ ap (λ x. (w.part x).view.black) e ∙ white
    | inr ne ↦ v.white k (omega arith)
  ];
  noted = rw add_one_is (ap (note (w.part i).view) v.noted);
}
  where
    add_one_is : i + 1 ≡ suc i
    add_one_is = omega arith

-- a part that fails loses its report alone
dropped_sound : (i k : ℕ) (p : Facts) (rs : List (Option ℤ)) → IsSound p (report_at rs k) → IsSound p (report_at (set rs i None) k)
dropped_sound i k p rs s = elim (cases_eq k i) [
  | inl e ↦ elim (cases_lt i (length rs)) [
    | inl inside ↦ subst (λ x. IsSound p (report_at (set rs i None) x)) (sym e) (subst (IsSound p) (sym (get_or-set_same rs i None None inside)) tt)
    | inr past ↦ (let long : length (set rs i None) ≡ length rs = length-set rs i None in
        subst (IsSound p) (sym (get_or_past (set rs i None) k None (omega arith))) tt)
  ]
  | inr ne ↦ subst (IsSound p) (sym (get_or-set_other rs i k None None ne)) s
]

-- a part that passes counts the same, confirmed or not
mixed_passes : (i n : ℕ) (w : RestView) → i < n → IsConfirming i n w → (w.part i).view.black ≡ false → sum_int (mixed (i + 1) w) n ≡ sum_int (mixed i w) n
mixed_passes i n w l c white = same_sum (mixed i w) (mixed (i + 1) w) n (λ k h. elim (cases_lt k i) [
  | inl below ↦ mixed_below (i + 1) k w (omega arith) ∙ sym (mixed_below i k w below)
  | inr above ↦ elim (cases_eq k i) [
    | inl e ↦ mixed_below (i + 1) k w (omega arith)
        ∙ (ap (reported w) e
        ∙ (sym (calm_at (w.part i) (report_of w i) (c.all i l) (c.sound i l) white).counter
        ∙ (ap (counted w) (sym e) ∙ sym (mixed_above i k w above))))
    | inr ne ↦ mixed_above (i + 1) k w (omega arith) ∙ sym (mixed_above i k w above)
  ]
])

passed_why : (i n : ℕ) (w : RestView) → i < n → IsConfirming i n w → (w.part i).view.black ≡ false → IsVerified i w ⊎ (IsPositive i n w ⊎ HasBlack i n w)
    → (let v : RestView = with_detector w (passed i (w.part i).view w.detector) in IsVerified (i + 1) v ⊎ (IsPositive (i + 1) n v ⊎ HasBlack (i + 1) n v))
passed_why i n w l c white (inl v) = inl (more_verified i n w l c white v)
passed_why i n w l c white (inr (inl p)) = inr (inl (let e = mixed_passes i n w l c white in let a = p.above in record { above = omega (arith, ints) }))
passed_why i n w l c white (inr (inr b)) = inr (inr (elim (cases_eq b.which i) [
  | inl e ↦ clash (w.part i).view.black (ap (λ k. (w.part k).view.black) (sym e) ∙ b.black) white
  | inr ne ↦ (let f = b.from in record { which = b.which; from = omega arith; below = b.below; black = b.black })
]))

pub confirm_keeps : (n m j : ℕ) (old new : RestView) → OnDetector old new → old.detector.phase ≡ Confirm j → confirm_row n (old.part j).view old.detector ≡ Some new.detector → IsQuiet n m old → IsQuiet n m new
confirm_keeps n m j old new o ph row q =
    let t = confirm_tells n j (old.part j).view old.detector new.detector ph row in
    let c = in_phase (Confirm j) n m old ph q.phase in
    let l = t.inside in
    let view = (old.part j).view in
    elim (cases_Bool (view.still && not view.black)) [
      | inl passes ↦
          let parts = and_parts view.still (not view.black) passes in
          let white = not-true view.black parts.1 in
          still_world n m old new (passed j view old.detector) o (t.is ∙ ap (λ x. cond x (passed j view old.detector) (failed j old.detector)) passes) (record {
            places = q.places;
            sum = q.sum;
            phase = record { inside = omega arith; free = c.free; sound = c.sound; all = c.all; zero_sum = c.zero_sum; why = passed_why j n old l c white c.why };
          })
      | inr fails ↦ still_world n m old new (failed j old.detector) o (t.is ∙ ap (λ x. cond x (passed j view old.detector) (failed j old.detector)) fails) (record {
        places = length-set old.detector.reports j None ∙ q.places;
        sum = q.sum;
        phase = record { free = c.free; sound = λ i h. dropped_sound j i (old.part i) old.detector.reports (c.sound i h) };
      })
    ]

-- ---- the announcement

verified_at_end : (n : ℕ) (w : RestView) → IsConfirming n n w → IsVerified n w
verified_at_end n w c = by_why c.why
  where
    by_why : IsVerified n w ⊎ (IsPositive n n w ⊎ HasBlack n n w) → IsVerified n w
    by_why (inl v) = v
    by_why (inr (inl p)) =
        let e = same_sum (reported w) (mixed n w) n (λ k l. mixed_below n k w l) in
        let z = c.zero_sum in let a = p.above in
        absurd (omega (arith, ints))
    by_why (inr (inr b)) = let f = b.from in let g = b.below in absurd (omega arith)

pub rest_at : (n m : ℕ) (w : RestView) → IsQuiet n m w → w.detector.phase ≡ Confirm n → IsAtRest n m w
rest_at n m w q ph =
    let c = in_phase (Confirm n) n m w ph q.phase in
    let v = verified_at_end n w c in
    let e = verified_sum n n w v in
    let r = same_sum (reported w) (mixed n w) n (λ k l. mixed_below n k w l) in
    let z = c.zero_sum in let s = q.sum in
    let none : total w.link m ≡ 0 = omega (arith, ints) in
    record { still = λ k l. (v.calm k l).still; empty = λ l h. term_of_zero w.link m l h none }

pub noted_at : (n m : ℕ) (w : RestView) → IsQuiet n m w → w.detector.phase ≡ Confirm n → w.detector.noted ≡ notes_of w.part n
noted_at n m w q ph = (verified_at_end n w (in_phase (Confirm n) n m w ph q.phase)).noted

-- a list without reports
no_report : (n k : ℕ) → report_at (replicate n None) k ≡ None
no_report n k = elim (cases_lt k n) [
  | inl l ↦ get_or-replicate n k None None l
  | inr past ↦ (let long : length (replicate {A = Option ℤ} n None) ≡ n = length-replicate n None in get_or_past (replicate n None) k None (omega arith))
]

pub announce_keeps : (n m : ℕ) (old new : RestView) → 0 < n → OnDetector old new → announce_row n old.detector ≡ Some new.detector → IsQuiet n m old → IsQuiet n m new
announce_keeps n m old new some o row q =
    let t = announce_tells n old.detector new.detector row in
    let c = in_phase (Confirm n) n m old t.phase q.phase in
    let r = rest_at n m old q t.phase in
    still_world n m old new (announced old.detector) o t.is (record {
      places = length-replicate (length old.detector.reports) None ∙ q.places;
      sum = q.sum;
      phase = record {
        inside = some;
        held = λ i l. c.free i l ∙ sym (le-ltb i 0 (omega arith));
        none = λ i. no_report (length old.detector.reports) i;
        still = λ i a l. r.still i l;
        empty = r.empty;
      };
    })

-- ---- the release

turned_sum : (n m j : ℕ) (b : Bool) (old new : RestView) → OnPart n j old new → Turns b (old.part j) (new.part j) → Same old.link new.link → sum_int (counted old) n ≡ pos (total old.link m) → sum_int (counted new) n ≡ pos (total new.link m)
turned_sum n m j b old new o t link e =
    let a = sums_part n j old new o in let c = t.counter in
    let x = total_same new.link old.link m (λ k l. link k) in
    omega (arith, ints)

shifted : (k j : ℕ) → k ≢ j → nat_lt k j ≡ nat_lt k (j + 1)
shifted k j ne = grind (arith, nat_tests)

pub release_keeps : (n m j : ℕ) (old new : RestView) → OnPart n j old new → Turns true (old.part j) (new.part j) → Same old.link new.link → old.detector.phase ≡ Release j → release_row n old.detector ≡ Some new.detector → IsQuiet n m old → IsQuiet n m new
release_keeps n m j old new o t link ph row q =
    let x = release_tells n j old.detector new.detector ph row in
    let d = x.is in
    let c = in_phase (Release j) n m old ph q.phase in
    let s = turned_sum n m j true old new o t link q.sum in
    elim (cases_eq (j + 1) n) [
      | inl e ↦ detector_is n m new (record old.detector { phase = Go 0 })
          (d ∙ ap (λ b. record old.detector { phase = cond b (Go 0) (Release (j + 1)) }) (eq-eqb (j + 1) n e))
          (record {
            places = q.places;
            sum = s;
            phase = record {
              inside = omega arith;
              held = λ k l. elim (cases_eq k j) [
                | inl same ↦ ap (λ x. (new.part x).held) same ∙ (t.held ∙ sym (le-leb 0 k (omega arith)))
                | inr apart ↦ ap (λ (f : Facts). f.held) (o.part.other k apart) ∙ (c.held k l ∙ (lt-ltb k j (omega arith) ∙ sym (le-leb 0 k (omega arith))))
              ];
              none = c.none;
            };
          })
      | inr ne ↦ detector_is n m new (record old.detector { phase = Release (j + 1) })
          (d ∙ ap (λ b. record old.detector { phase = cond b (Go 0) (Release (j + 1)) }) (ne_eqb (j + 1) n ne))
          (record {
            places = q.places;
            sum = s;
            phase = record {
              inside = (let a = o.inside in omega arith);
              held = λ k l. elim (cases_eq k j) [
                | inl e ↦ ap (λ x. (new.part x).held) e ∙ (t.held ∙ sym (lt-ltb k (j + 1) (omega arith)))
                | inr apart ↦ ap (λ (f : Facts). f.held) (o.part.other k apart) ∙ (c.held k l ∙ shifted k j apart)
              ];
              none = c.none;
              still = λ k a l. ap (λ (f : Facts). f.view.still) (o.part.other k (λ e. omega arith)) ∙ c.still k (omega arith) l;
              empty = λ x h. link x ∙ c.empty x h;
            };
          })
    ]

from_next : (k j : ℕ) → k ≢ j → nat_le j k ≡ nat_le (j + 1) k
from_next k j ne = grind (arith, nat_tests)

pub go_keeps : (n m j : ℕ) (old new : RestView) → OnPart n j old new → Turns false (old.part j) (new.part j) → Same old.link new.link → old.detector.phase ≡ Go j → go_row n old.detector ≡ Some new.detector → IsQuiet n m old → IsQuiet n m new
go_keeps n m j old new o t link ph row q =
    let x = go_tells n j old.detector new.detector ph row in
    let d = x.is in
    let c = in_phase (Go j) n m old ph q.phase in
    let s = turned_sum n m j false old new o t link q.sum in
    elim (cases_eq (j + 1) n) [
      | inl e ↦ detector_is n m new (record old.detector { phase = Collect })
          (d ∙ ap (λ b. record old.detector { phase = cond b Collect (Go (j + 1)) }) (eq-eqb (j + 1) n e))
          (record {
            places = q.places;
            sum = s;
            phase = record {
              free = λ k l. elim (cases_eq k j) [
                | inl same ↦ ap (λ x. (new.part x).held) same ∙ t.held
                | inr apart ↦ ap (λ (f : Facts). f.held) (o.part.other k apart) ∙ (c.held k l ∙ lt-leb j k (omega arith))
              ];
              sound = λ k l. subst (λ r. IsSound (new.part k) r) (sym (c.none k)) tt;
            };
          })
      | inr ne ↦ detector_is n m new (record old.detector { phase = Go (j + 1) })
          (d ∙ ap (λ b. record old.detector { phase = cond b Collect (Go (j + 1)) }) (ne_eqb (j + 1) n ne))
          (record {
            places = q.places;
            sum = s;
            phase = record {
              inside = (let a = o.inside in omega arith);
              held = λ k l. elim (cases_eq k j) [
                | inl e ↦ ap (λ x. (new.part x).held) e ∙ (t.held ∙ sym (lt-leb (j + 1) k (omega arith)))
                | inr apart ↦ ap (λ (f : Facts). f.held) (o.part.other k apart) ∙ (c.held k l ∙ from_next k j apart)
              ];
              none = c.none;
            };
          })
    ]
