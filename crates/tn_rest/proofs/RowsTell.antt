-- What it tells that a row of the detector gives a state.
use Rattle.std.proofs.Common.{ℕ, ◌<◌, ◌≡◌, ◌==◌, ◌&&◌, ◌||◌, refl, sym, ◌∙◌, ap, cond, Bool, true, false, Some, None, set, pos, is_some, is_none}
use Rattle.std.specs.Prelude.{nat_lt}
use Rattle.std.specs.List.{list_all}
use Rattle.std.specs.Ordering.{int_eq}
use Rattle.std.proofs.lemmas.Bool.{and_parts, eqb-true, ltb-true}
use Rattle.std.proofs.lemmas.Bool.Decides.{Decides-int_eq}
use Rattle.tn_detect.specs.declared.facts.PartView.{PartView}
use Rattle.tn_detect.specs.declared.phase.Phase.{Phase}
use Rattle.tn_detect.specs.declared.phase.Phase.TheVariants.{Collect, Confirm, Release, Go}
use Rattle.tn_detect.specs.declared.state.DetectorState.{DetectorState}
use Rattle.tn_detect.specs.Notes.{nothing_noted}
use Rattle.tn_detect.specs.Reports.{are_balanced, report_at, total}
use Rattle.tn_detect.specs.Rows.{announce_in, announce_row, announced, begin_row, behind_go, behind_release, can_begin, can_report, confirm_in, confirm_row, confirmed, go_in, go_row, is_collect, release_in, release_row, report_row}

-- what a test before a value tells, if there is a value
pub taken : {A : Type 0} (b : Bool) (x y : A) → cond b (Some x) None ≡ Some y → (b ≡ true) × (y ≡ x)
taken true x y h = (refl, (let e : y ≡ x = cc in e))
taken false x y h = cc

is_collecting : (p : Phase) → is_collect p ≡ true → p ≡ Collect
is_collecting Collect h = refl
is_collecting (Confirm i) h = cc
is_collecting (Release i) h = cc
is_collecting (Go i) h = cc

pub record Reports (i : ℕ) (v : PartView) (s t : DetectorState) : Type 0 where
  pub phase : s.phase ≡ Collect
  pub still : v.still ≡ true
  pub is : t ≡ record s { reports = set s.reports i (Some v.counter) }

pub report_tells : (i : ℕ) (v : PartView) (s t : DetectorState) → report_row i v s ≡ Some t → Reports i v s t
report_tells i v s t h =
    let r = taken (can_report i v s) (record s { reports = set s.reports i (Some v.counter) }) t h in
    let a = and_parts (is_collect s.phase && v.still) (is_none (report_at s.reports i) || v.black) r.0 in
    let b = and_parts (is_collect s.phase) v.still a.0 in
    record { phase = is_collecting s.phase b.0; still = b.1; is = r.1 }

pub record Begins (s t : DetectorState) : Type 0 where
  pub phase : s.phase ≡ Collect
  pub all : list_all is_some s.reports ≡ true
  pub sum : total s.reports ≡ pos 0
  pub is : t ≡ record s { phase = Confirm 0; noted = nothing_noted }

pub begin_tells : (s t : DetectorState) → begin_row s ≡ Some t → Begins s t
begin_tells s t h =
    let r = taken (can_begin s) (record s { phase = Confirm 0; noted = nothing_noted }) t h in
    let a = and_parts (is_collect s.phase) (are_balanced s.reports) r.0 in
    let b = and_parts (list_all is_some s.reports) (int_eq (total s.reports) (pos 0)) a.1 in
    record { phase = is_collecting s.phase a.0; all = b.0; sum = (Decides-int_eq (total s.reports) (pos 0)).0 b.1; is = r.1 }

pub record Confirms (n j : ℕ) (v : PartView) (s t : DetectorState) : Type 0 where
  pub inside : j < n
  pub is : t ≡ confirmed j v s

pub confirm_tells : (n j : ℕ) (v : PartView) (s t : DetectorState) → s.phase ≡ Confirm j → confirm_row n v s ≡ Some t → Confirms n j v s t
confirm_tells n j v s t ph h =
    let r = taken (nat_lt j n) (confirmed j v s) t (sym (ap (λ p. confirm_in n p v s) ph) ∙ h) in
    record { inside = ltb-true j n r.0; is = r.1 }

pub record Announced (n : ℕ) (s t : DetectorState) : Type 0 where
  pub phase : s.phase ≡ Confirm n
  pub is : t ≡ announced s

pub announce_tells : (n : ℕ) (s t : DetectorState) → announce_row n s ≡ Some t → Announced n s t
announce_tells n s t h = by s.phase refl h where
  by : (p : Phase) → s.phase ≡ p → announce_in n p s ≡ Some t → Announced n s t
  by Collect e q = cc
  by (Confirm i) e q = let r = taken (i == n) (announced s) t q in record { phase = e ∙ ap Confirm (eqb-true i n r.0); is = r.1 }
  by (Release i) e q = cc
  by (Go i) e q = cc

pub record Releases (n j : ℕ) (s t : DetectorState) : Type 0 where
  pub inside : j < n
  pub is : t ≡ record s { phase = behind_release n j }

pub release_tells : (n j : ℕ) (s t : DetectorState) → s.phase ≡ Release j → release_row n s ≡ Some t → Releases n j s t
release_tells n j s t ph h =
    let r = taken (nat_lt j n) (record s { phase = behind_release n j }) t (sym (ap (λ p. release_in n p s) ph) ∙ h) in
    record { inside = ltb-true j n r.0; is = r.1 }

pub record Goes (n j : ℕ) (s t : DetectorState) : Type 0 where
  pub inside : j < n
  pub is : t ≡ record s { phase = behind_go n j }

pub go_tells : (n j : ℕ) (s t : DetectorState) → s.phase ≡ Go j → go_row n s ≡ Some t → Goes n j s t
go_tells n j s t ph h =
    let r = taken (nat_lt j n) (record s { phase = behind_go n j }) t (sym (ap (λ p. go_in n p s) ph) ∙ h) in
    record { inside = ltb-true j n r.0; is = r.1 }
