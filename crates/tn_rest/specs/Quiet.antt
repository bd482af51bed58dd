-- The detector's invariant. A machine has n visited parts and m links.
use Rattle.std.specs.Prelude.{ℕ, zero, suc, ◌<◌, ◌≤◌, ◌≡◌, ◌⊎◌, true, false, cond, nat_lt, nat_le, ℤ, pos, ◌<ℤ◌, length, Option, Some, None, IsSome}
use Rattle.tn_sums.specs.Totals.{total}
use Rattle.tn_detect.specs.declared.facts.Noted.{Noted}
use Rattle.tn_detect.specs.declared.phase.Phase.{Phase}
use Rattle.tn_detect.specs.declared.phase.Phase.TheVariants.{Collect, Confirm, Release, Go}
use Rattle.tn_detect.specs.Notes.{note, nothing_noted}
use Rattle.tn_detect.specs.Reports.{number_of, report_at, sum_int}
use Rattle.tn_rest.specs.declared.facts.Facts.{Facts}
use Rattle.tn_rest.specs.RestView.{RestView}

-- the report of part k, and its number; the counter of part k
abbrev pub report_of : RestView → ℕ → Option ℤ
report_of w k = report_at w.detector.reports k

abbrev pub reported : RestView → ℕ → ℤ
reported w k = number_of (report_of w k)

abbrev pub counted : RestView → ℕ → ℤ
counted w k = (w.part k).view.counter

-- the part did nothing since it reported this number
pub record IsCalm (p : Facts) (r : ℤ) : Type 0 where
  pub still : p.view.still ≡ true
  pub counter : p.view.counter ≡ r

-- a part with a report is black, or it is still and its counter is its report
abbrev pub IsSound : Facts → Option ℤ → Type 0
IsSound p None = Unit {0}
IsSound p (Some r) = p.view.black ≡ false → IsCalm p r

-- the reports of the parts below i, and the counters of the others
abbrev pub mixed : ℕ → RestView → ℕ → ℤ
mixed i w k = cond (nat_lt k i) (reported w k) (counted w k)

-- what the parts below i show
abbrev pub notes_of : (ℕ → Facts) → ℕ → Noted
notes_of part zero = nothing_noted
notes_of part (suc i) = note (part i).view (notes_of part i)

-- each part below i did nothing since it reported, and is white; and these parts are noted
pub record IsVerified (i : ℕ) (w : RestView) : Type 0 where
  pub calm : (k : ℕ) → k < i → IsCalm (w.part k) (reported w k)
  pub white : (k : ℕ) → k < i → (w.part k).view.black ≡ false
  pub noted : w.detector.noted ≡ notes_of w.part i

-- the reports of the parts below i and the counters of the others sum to more than 0
pub record IsPositive (i n : ℕ) (w : RestView) : Type 0 where
  pub above : pos 0 <ℤ sum_int (mixed i w) n

-- a part from i on is black
pub record HasBlack (i n : ℕ) (w : RestView) : Type 0 where
  pub which : ℕ
  pub from : i ≤ which
  pub below : which < n
  pub black : (w.part which).view.black ≡ true

pub record IsCollecting (n : ℕ) (w : RestView) : Type 0 where
  pub free : (k : ℕ) → k < n → (w.part k).held ≡ false
  pub sound : (k : ℕ) → k < n → IsSound (w.part k) (report_of w k)

-- part i comes next, and all parts below i are confirmed
pub record IsConfirming (i n : ℕ) (w : RestView) : Type 0 where
  pub inside : i ≤ n
  pub free : (k : ℕ) → k < n → (w.part k).held ≡ false
  pub sound : (k : ℕ) → k < n → IsSound (w.part k) (report_of w k)
  pub all : (k : ℕ) → k < n → IsSome (report_of w k)
  pub zero_sum : sum_int (reported w) n ≡ pos 0
  pub why : IsVerified i w ⊎ (IsPositive i n w ⊎ HasBlack i n w)

-- part i comes next, and all parts below i are released
pub record IsReleasing (i n m : ℕ) (w : RestView) : Type 0 where
  pub inside : i < n
  pub held : (k : ℕ) → k < n → (w.part k).held ≡ nat_lt k i
  pub none : (k : ℕ) → report_of w k ≡ None
  pub still : (k : ℕ) → i ≤ k → k < n → (w.part k).view.still ≡ true
  pub empty : (l : ℕ) → l < m → w.link l ≡ 0

-- part i comes next, and all parts below i go on
pub record IsGoing (i n : ℕ) (w : RestView) : Type 0 where
  pub inside : i < n
  pub held : (k : ℕ) → k < n → (w.part k).held ≡ nat_le i k
  pub none : (k : ℕ) → report_of w k ≡ None

abbrev pub InPhase : Phase → ℕ → ℕ → RestView → Type 0
InPhase Collect n m w = IsCollecting n w
InPhase (Confirm i) n m w = IsConfirming i n w
InPhase (Release i) n m w = IsReleasing i n m w
InPhase (Go i) n m w = IsGoing i n w

-- the invariant: the counters sum to how many packets are on links, and what holds in the detector's phase
pub record IsQuiet (n m : ℕ) (w : RestView) : Type 0 where
  pub places : length w.detector.reports ≡ n
  pub sum : sum_int (counted w) n ≡ pos (total w.link m)
  pub phase : InPhase w.detector.phase n m w

-- every part is still, and every link is empty
pub record IsAtRest (n m : ℕ) (w : RestView) : Type 0 where
  pub still : (k : ℕ) → k < n → (w.part k).view.still ≡ true
  pub empty : (l : ℕ) → l < m → w.link l ≡ 0
