-- What a call does that is itself the test of its row.
use Rattle.std.specs.Prelude.{◌≡◌, Bool, true, false, Option, MatchOption}

-- the row gives the new value, and the call says so; or it gives nothing, nothing happened, and the call says so
abbrev pub Does : {V : Type 0} → Bool → Option V → V → V → Type 0
Does happened row old new = MatchOption row ((happened ≡ false) × (new ≡ old)) (λ v. (happened ≡ true) × (new ≡ v))
