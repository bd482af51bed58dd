-- The invariant as its test takes it apart is the invariant.
use Rattle.std.proofs.Common.{ℕ, ◌<◌, ◌≡◌, sym, ◌∙◌, inl, inr, arith, None, length, pos}
use Rattle.std.proofs.lemmas.Bool.{cases_lt}
use Rattle.std.proofs.lemmas.List.{get_or_past}
use Rattle.tn_sums.specs.Totals.{total}
use Rattle.tn_detect.specs.declared.phase.Phase.{Phase}
use Rattle.tn_detect.specs.declared.phase.Phase.TheVariants.{Collect, Confirm, Release, Go}
use Rattle.tn_detect.specs.Reports.{sum_int}
use Rattle.tn_detect.proofs.Sums.{same_sum}
use Rattle.tn_rest.specs.RestView.{RestView}
use Rattle.tn_rest.specs.Quiet.{InPhase, IsQuiet, counted, mixed, report_of, reported}
use Rattle.tn_rest.specs.Tests.{Fits, HoldsIn}
use Rattle.tn_rest.proofs.Keeps.{mixed_below}
use Rattle.tn_rest.proofs.Totals.{term_of_zero, zero_total}

-- all parts fit
abbrev pub AllFit : Phase → ℕ → RestView → Type 0
AllFit p n w = (k : ℕ) → k < n → Fits p k (w.part k) (report_of w k)

-- past its places a list of reports has none
none_past : (n : ℕ) (w : RestView) → length w.detector.reports ≡ n → ((k : ℕ) → k < n → report_of w k ≡ None) → (k : ℕ) → report_of w k ≡ None
none_past n w places none k = elim (cases_lt k n) [
  | inl l ↦ none k l
  | inr past ↦ get_or_past w.detector.reports k None (omega arith)
]

all_mixed : (n : ℕ) (w : RestView) → sum_int (mixed n w) n ≡ sum_int (reported w) n
all_mixed n w = same_sum (reported w) (mixed n w) n (λ k l. mixed_below n k w l)

gives : (p : Phase) (n m : ℕ) (w : RestView) → length w.detector.reports ≡ n → AllFit p n w → HoldsIn p n m w → InPhase p n m w
gives Collect n m w places f h = record { free = λ k l. (f k l).0; sound = λ k l. (f k l).1 }
gives (Confirm i) n m w places f h = record {
  inside = h.0;
  free = λ k l. (f k l).0;
  sound = λ k l. (f k l).2;
  all = λ k l. (f k l).1;
  zero_sum = sym (all_mixed n w) ∙ h.1;
  why = h.2;
}
gives (Release i) n m w places f h = record {
  inside = h.0;
  held = λ k l. (f k l).0;
  none = none_past n w places (λ k l. (f k l).1);
  still = λ k a l. (f k l).2 a;
  empty = λ l h2. term_of_zero w.link m l h2 h.1;
}
gives (Go i) n m w places f h = record {
  inside = h;
  held = λ k l. (f k l).0;
  none = none_past n w places (λ k l. (f k l).1);
}

fitting : (p : Phase) (n m : ℕ) (w : RestView) → InPhase p n m w → AllFit p n w
fitting Collect n m w q k l = (q.free k l, q.sound k l)
fitting (Confirm i) n m w q k l = (q.free k l, q.all k l, q.sound k l)
fitting (Release i) n m w q k l = (q.held k l, q.none k, λ a. q.still k a l)
fitting (Go i) n m w q k l = (q.held k l, q.none k)

holding : (p : Phase) (n m : ℕ) (w : RestView) → InPhase p n m w → HoldsIn p n m w
holding Collect n m w q = tt
holding (Confirm i) n m w q = (q.inside, all_mixed n w ∙ q.zero_sum, q.why)
holding (Release i) n m w q = (q.inside, zero_total w.link m q.empty)
holding (Go i) n m w q = q.inside

pub quiet_if : (n m : ℕ) (w : RestView) → length w.detector.reports ≡ n → sum_int (counted w) n ≡ pos (total w.link m) → AllFit w.detector.phase n w → HoldsIn w.detector.phase n m w → IsQuiet n m w
quiet_if n m w places sum f h = record { places = places; sum = sum; phase = gives w.detector.phase n m w places f h }

pub quiet_fits : (n m : ℕ) (w : RestView) → IsQuiet n m w → AllFit w.detector.phase n w
quiet_fits n m w q = fitting w.detector.phase n m w q.phase

pub quiet_holds : (n m : ℕ) (w : RestView) → IsQuiet n m w → HoldsIn w.detector.phase n m w
quiet_holds n m w q = holding w.detector.phase n m w q.phase
