-- What calls on two parts leave.
use Rattle.std.specs.Prelude.{◌≡◌, Bool, true, false, Option, MatchOption, MatchResult}
use Rattle.std.specs.declared.alloc.AllocError.{AllocError}
use Rattle.std.specs.declared.result.Result.{Result}
use Rattle.tn_rows.specs.Events.{Met}
use Rattle.tn_rows.specs.PartView.{PartView}
use Rattle.tn_tile.specs.declared.deliver.Did.{Did}
use Rattle.tn_tile.specs.Turns.{moved}

-- the row of both parts gives what they are now, and the call says so; or it gives nothing, nothing happened, and the call
-- says so
abbrev pub DoesBoth : Bool → Option Met → PartView → PartView → PartView → PartView → Type 0
DoesBoth happened row low high low' high' =
    MatchOption row ((happened ≡ false) × (low' ≡ low) × (high' ≡ high)) (λ m. (happened ≡ true) × (low' ≡ m.low) × (high' ≡ m.high))

-- the same of a call that may want memory; it then changes nothing
abbrev pub DoesBothOr : Result Did AllocError → Option Met → PartView → PartView → PartView → PartView → Type 0
DoesBothOr r row low high low' high' = MatchResult r (λ did. DoesBoth (moved did) row low high low' high') (λ _. (low' ≡ low) × (high' ≡ high))
