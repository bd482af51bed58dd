-- What turns, and runs of them, leave.
use Rattle.std.specs.Prelude.{ℕ, ◌≡◌, ◌≢◌, ◌≤◌, ◌<◌, Bool, List, length, Option, Some, None, MatchOption, MatchResult, is_some}
use Rattle.std.specs.declared.alloc.AllocError.{AllocError}
use Rattle.std.specs.declared.result.Result.{Result}
use Rattle.tn_base.specs.declared.event.Event.{Event}
use Rattle.tn_base.specs.declared.event.Event.TheVariants as event
use Rattle.tn_base.specs.declared.ids.ThreadId.{ThreadId}
use Rattle.tn_rows.specs.Ends.{final_after, final_of, last_of}
use Rattle.tn_rows.specs.Events.{happened, Rests}
use Rattle.tn_rows.specs.Runs.{IsLongest, LongTurns, Run}
use Rattle.tn_rows.specs.WorldView.{WorldView}
use Rattle.tn_world.specs.declared.play.Made.{Made}
use Rattle.tn_tile.specs.declared.deliver.Did.{Did}
use Rattle.tn_tile.specs.declared.deliver.Did.TheVariants as did
use Rattle.tn_tile.specs.declared.step.Turned.{Turned}
use Rattle.tn_tile.specs.declared.step.Turned.TheVariants as turned

-- a turn of a machine is the longest one, or there is none and nothing changes
abbrev pub Turns : Turned → ThreadId → WorldView → WorldView → Type 0
Turns (turned.Moved n) t old new = (happened (event.Turn t n) old ≡ Some new) × ((m : ℕ) → n < m → happened (event.Turn t m) old ≡ None)
Turns turned.Nothing t old new = (new ≡ old) × ((m : ℕ) → happened (event.Turn t m) old ≡ None)

-- a turn of n steps; if the thread cannot make it, a turn of fewer steps or none
abbrev pub TurnsUpTo : Turned → ThreadId → ℕ → WorldView → WorldView → Type 0
TurnsUpTo (turned.Moved made) t n old new = (happened (event.Turn t made) old ≡ Some new) × (made ≢ n → happened (event.Turn t n) old ≡ None)
TurnsUpTo turned.Nothing t n old new = (new ≡ old) × (happened (event.Turn t n) old ≡ None)

-- an event is made, or it is not enabled. Nothing is said of the machine that is left then
abbrev pub Redone : Did → Option WorldView → WorldView → Type 0
Redone did.Moved row new = row ≡ Some new
Redone did.Nothing row new = row ≡ None

-- the machine makes an event; a turn is the longest one
pub record Makes (e : Event) (old new : WorldView) : Type 0 where
  pub happens : happened e old ≡ Some new
  pub longest : IsLongest e old

-- the machine makes an event and says whether the event ends the run
pub record Told (e : Event) (last : Bool) (old new : WorldView) : Type 0 where
  pub makes : Makes e old new
  pub ends : last ≡ is_some (final_of e new)

-- the machine makes an event, or none and says why, or memory runs out and nothing changes
abbrev pub MakesOr : Result (Option Made) AllocError → Type 0 → WorldView → WorldView → Type 0
MakesOr r Why old new = MatchResult r (λ o. MatchOption o ((new ≡ old) × Why) (λ m. Told m.event m.ends old new)) (λ _. new ≡ old)

-- a run of longest turns that ends with a final event, where no event is enabled, or at its limit
pub record Played (limit : ℕ) (start : WorldView) (history : List Event) (end : WorldView) : Type 0 where
  pub run : Run start history end
  pub longest : LongTurns start history
  pub few : length history ≤ limit
  pub stops : length history < limit → MatchOption (final_after (last_of history) end) (Rests end) (λ o. Unit {0})

-- a machine after some events, at most `limit`, each turn the longest
abbrev pub Reached : ℕ → WorldView → WorldView → Type 0
Reached limit start end = (history : List Event) × (length history ≤ limit) × Run start history end × LongTurns start history
