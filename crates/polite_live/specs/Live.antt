-- The tiles of a graph's machine at the end of a run: a tile without a free slot has a thread that can make a step, and after the
-- announcement of 2 no letter is on its way to a thread.
use Rattle.std.specs.Prelude.{ℕ, ◌≡◌, ◌<◌, List, None, slice_index_or}
use Rattle.std.specs.List.{AllByRecursion}
use Rattle.tn_base.specs.declared.event.Event.{Event}
use Rattle.tn_base.specs.declared.message.Letter.{Letter}
use Rattle.tn_base.specs.Address.{tile_threads}
use Rattle.tn_letters.specs.Letters.{host_address}
use Rattle.tn_letters.specs.Standing.{standing_letters}
use Rattle.tn_rows.specs.PartView.{TileV, AbsentV}
use Rattle.tn_rows.specs.WorldView.{WorldView}
use Rattle.tn_slots.specs.Pool.{first_free}
use Rattle.tn_tile.specs.TileView.{TileView}
use Rattle.polite_edges.specs.Deeds.{value_of}
use Rattle.polite_edges.specs.Histories.{GraphHistory, history_deeds}
use Rattle.polite_edges.specs.Layout.{Layout}
use Rattle.polite_flow.specs.Able.{HasStep}
use Rattle.polite_flow.specs.Threads.{ThreadGoesOn}

-- a letter is for the host
abbrev pub IsForHost : Letter → Type 0
IsForHost l = l.receiver ≡ host_address

-- if the last announcement of a run was of 2, each letter that stands anywhere on the machine is for the host
abbrev pub NoLettersComeAfterTwo : Type 0
NoLettersComeAfterTwo = (g : Layout) (start end : WorldView) (history : List Event) → GraphHistory g start end history → value_of (history_deeds start history) ≡ 2 → AllByRecursion IsForHost (standing_letters end)

-- at the end of each run a tile without a free slot has a thread that can make a step, if each thread of the tile goes on: it has not
-- trapped, has steps left, and has no letters when it is dead
abbrev pub FullTilesStep : Type 0
FullTilesStep = (g : Layout) (start end : WorldView) (history : List Event) (p : ℕ) (v : TileView) → GraphHistory g start end history → slice_index_or end.parts p AbsentV ≡ TileV v
    → ((k : ℕ) → k < tile_threads v.plan.shape → ThreadGoesOn v.plan.shape.fuel k v.now) → first_free v.now.pool ≡ None → HasStep v
