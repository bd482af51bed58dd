-- What the detector learns of a tile.
use Rattle.std.specs.Prelude.{Bool, true, false, not, ◌&&◌, List, [], ◌∷◌, is_none}
use Rattle.std.specs.List.{list_all, list_any}
use Rattle.tn_thread.specs.declared.state.ThreadState.{ThreadState}
use Rattle.tn_thread.specs.declared.state.ThreadState.TheVariants as state
use Rattle.tn_node.specs.PortRows.{all_empty}
use Rattle.tn_tile.specs.Receivers.{is_dead}
use Rattle.tn_tile.specs.TileView.{TileState}

-- a thread does nothing by itself: it is idle or ended
abbrev pub does_nothing : ThreadState → Bool
does_nothing state.Run = false
does_nothing (state.Wait waits) = false
does_nothing (state.Idle vote) = true
does_nothing (state.Answered value) = false
does_nothing (state.Dead value) = true
does_nothing (state.Trapped why) = false

abbrev pub is_nil : {X : Type 0} → List X → Bool
is_nil [] = true
is_nil (x ∷ xs) = false

-- all threads are idle or ended, all queues are empty, and no packet is pending or goes on
abbrev pub is_still : TileState → Bool
is_still s =
    list_all (λ t. does_nothing t.state) s.threads
    && list_all is_nil s.pool.queues
    && list_all is_none s.pending
    && all_empty s.node.out

-- a thread has not ended
abbrev pub has_live : TileState → Bool
has_live s = list_any (λ t. not (is_dead t.state)) s.threads

-- a thread that has not ended votes for the end
abbrev pub votes_for : ThreadState → Bool
votes_for state.Run = false
votes_for (state.Wait waits) = false
votes_for (state.Idle vote) = vote
votes_for (state.Answered value) = false
votes_for (state.Dead value) = true
votes_for (state.Trapped why) = false

-- all threads that have not ended vote for the end
abbrev pub all_vote : TileState → Bool
all_vote s = list_all (λ t. votes_for t.state) s.threads
