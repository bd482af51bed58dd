-- What a turn of a part leaves.
use Rattle.std.specs.Prelude.{ℕ, ◌≡◌, ◌≢◌, ◌<◌, Bool, true, false, Some, None}
use Rattle.tn_base.specs.declared.event.Event.TheVariants as event
use Rattle.tn_base.specs.declared.ids.ThreadId.{ThreadId}
use Rattle.tn_rows.specs.Events.{after}
use Rattle.tn_rows.specs.PartView.{PartView}
use Rattle.tn_stamp.specs.declared.entry.Crossing.TheVariants as crossing
use Rattle.tn_tile.specs.Rows.{turn_row}
use Rattle.tn_tile.specs.TileView.{TileView, now_by}
use Rattle.tn_tile.specs.declared.step.Turned.{Turned}
use Rattle.tn_tile.specs.declared.step.Turned.TheVariants as turned

-- a turn on a part is the longest one, or there is none and nothing changes
abbrev pub TurnsPart : Turned → ThreadId → PartView → PartView → Type 0
TurnsPart (turned.Moved n) t old new = (after (event.Turn t n) crossing.None old ≡ Some new) × ((m : ℕ) → n < m → after (event.Turn t m) crossing.None old ≡ None)
TurnsPart turned.Nothing t old new = (new ≡ old) × ((m : ℕ) → after (event.Turn t m) crossing.None old ≡ None)

-- a turn was made
abbrev pub did_turn : Turned → Bool
did_turn (turned.Moved n) = true
did_turn turned.Nothing = false

-- a turn of n steps on a part; if the thread cannot make it, a turn of fewer steps or none
abbrev pub TurnsUpTo : Turned → ThreadId → ℕ → PartView → PartView → Type 0
TurnsUpTo (turned.Moved made) t n old new = (after (event.Turn t made) crossing.None old ≡ Some new) × (made ≢ n → after (event.Turn t n) crossing.None old ≡ None)
TurnsUpTo turned.Nothing t n old new = (new ≡ old) × (after (event.Turn t n) crossing.None old ≡ None)

-- the same on a tile
abbrev pub TileTurnsUpTo : Turned → ℕ → ℕ → TileView → TileView → Type 0
TileTurnsUpTo (turned.Moved made) a n old new = (now_by old (turn_row old.plan a made old.now) ≡ Some new) × (made ≢ n → turn_row old.plan a n old.now ≡ None)
TileTurnsUpTo turned.Nothing a n old new = (new ≡ old) × (turn_row old.plan a n old.now ≡ None)
