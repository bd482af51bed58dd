-- How many letters wait for a thread, or were dropped on its tile.
use Rattle.std.specs.Prelude.{ℕ, ◌+◌, length, option_map, unwrap_or}
use Rattle.tn_base.specs.declared.event.Event.{Event}
use Rattle.tn_base.specs.declared.event.Event.TheVariants as event
use Rattle.tn_base.specs.declared.ids.ThreadId.{ThreadId}
use Rattle.tn_base.specs.Address.{place_in_tile}
use Rattle.tn_slots.specs.Pool.{queue_at}
use Rattle.tn_tile.specs.declared.state.TileState.{TileState}
use Rattle.tn_tile.specs.TileView.{TileView}
use Rattle.tn_rows.specs.WorldView.{WorldView}
use Rattle.polite_log.specs.Reading.{home}

-- the letters that wait for the thread at a place of a tile, and those that were dropped on the tile
abbrev pub gone_or_waiting : ℕ → TileState → ℕ
gone_or_waiting k s = length (queue_at s.pool k) + s.dropped

-- the same of a thread of a machine; 0 if the thread is on no tile
abbrev pub waiting_in : ThreadId → WorldView → ℕ
waiting_in t w = unwrap_or (option_map (λ (v : TileView). gone_or_waiting (place_in_tile v.plan.shape t.0) v.now) (home w t)) 0

-- the same of the thread of a turn; 0 for another event
abbrev pub waiting_by : Event → WorldView → ℕ
waiting_by (event.Turn t n) w = waiting_in t w
waiting_by _ w = 0
