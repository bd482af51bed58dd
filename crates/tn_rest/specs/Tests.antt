-- The detector's invariant as its test takes it apart: what is said of each part with its report, and what is said of all parts together.
use Rattle.std.specs.Prelude.{ℕ, ◌<◌, ◌≤◌, ◌≡◌, ◌⊎◌, true, false, nat_lt, nat_le, ℤ, pos, Option, None, IsSome}
use Rattle.tn_sums.specs.Totals.{total}
use Rattle.tn_detect.specs.declared.phase.Phase.{Phase}
use Rattle.tn_detect.specs.declared.phase.Phase.TheVariants.{Collect, Confirm, Release, Go}
use Rattle.tn_detect.specs.Reports.{sum_int}
use Rattle.tn_rest.specs.declared.facts.Facts.{Facts}
use Rattle.tn_rest.specs.Quiet.{HasBlack, IsPositive, IsSound, IsVerified, mixed}
use Rattle.tn_rest.specs.RestView.{RestView}

-- part k with this report is as the invariant wants it in a phase
abbrev pub Fits : Phase → ℕ → Facts → Option ℤ → Type 0
Fits Collect k p r = (p.held ≡ false) × IsSound p r
Fits (Confirm i) k p r = (p.held ≡ false) × IsSome r × IsSound p r
Fits (Release i) k p r = (p.held ≡ nat_lt k i) × (r ≡ None) × (i ≤ k → p.view.still ≡ true)
Fits (Go i) k p r = (p.held ≡ nat_le i k) × (r ≡ None)

-- why a look at part i does not lead to a wrong announcement
abbrev pub HasReason : ℕ → ℕ → RestView → Type 0
HasReason i n w = IsVerified i w ⊎ (IsPositive i n w ⊎ HasBlack i n w)

-- what the invariant says of all parts together in a phase
abbrev pub HoldsIn : Phase → ℕ → ℕ → RestView → Type 0
HoldsIn Collect n m w = Unit {0}
HoldsIn (Confirm i) n m w = (i ≤ n) × (sum_int (mixed n w) n ≡ pos 0) × HasReason i n w
HoldsIn (Release i) n m w = (i < n) × (total w.link m ≡ 0)
HoldsIn (Go i) n m w = i < n
