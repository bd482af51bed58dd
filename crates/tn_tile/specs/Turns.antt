-- What turns answer.
use Rattle.std.specs.Prelude.{ℕ, ◌≡◌, ◌<◌, ◌≤◌, ◌+◌, Bool, true, false, IsSome, Some, None}
use Rattle.tn_tile.specs.declared.deliver.Did.{Did}
use Rattle.tn_tile.specs.declared.deliver.Did.TheVariants as did
use Rattle.tn_tile.specs.declared.step.Turned.{Turned}
use Rattle.tn_tile.specs.declared.step.Turned.TheVariants as turned
use Rattle.tn_tile.specs.Rows.{turn_row}
use Rattle.tn_tile.specs.Step.{can_step, steps_of}
use Rattle.tn_tile.specs.TileView.{TilePlan, TileState, TileView, now_by}

-- a turn is the longest turn; if no turn is possible, nothing changes
abbrev pub TurnIs : Turned → ℕ → TileView → TileView → Type 0
TurnIs (turned.Moved n) a old new = (now_by old (turn_row old.plan a n old.now) ≡ Some new) × ((m : ℕ) → n < m → turn_row old.plan a m old.now ≡ None)
TurnIs turned.Nothing a old new = (new ≡ old) × ((m : ℕ) → turn_row old.plan a m old.now ≡ None)

-- a turn takes at most one page of a stock for each step
abbrev pub StockLasts : Turned → ℕ → ℕ → Type 0
StockLasts (turned.Moved n) old new = old ≤ new + n
StockLasts turned.Nothing old new = old ≤ new

-- if a turn of n steps is possible, so is each shorter turn
abbrev pub HasShorter : TileView → ℕ → Type 0
HasShorter v a = (n m : ℕ) → IsSome (turn_row v.plan a n v.now) → 1 ≤ m → m ≤ n → IsSome (turn_row v.plan a m v.now)

-- as many of `most` steps of the thread at a place as it can make
pub record StepsUpTo (plan : TilePlan) (k most made : ℕ) (old new : TileState) : Type 0 where
  pub steps : steps_of plan k made old ≡ Some new
  pub few : made ≤ most
  pub stops : made < most → can_step plan.shape.fuel k new ≡ false

-- a call did something
abbrev pub moved : Did → Bool
moved did.Moved = true
moved did.Nothing = false
