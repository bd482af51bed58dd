-- The packets of a graph's job flow: no router finds a bad key, and an event is enabled at each moment.
use Rattle.std.specs.Prelude.{ℕ, ◌≡◌, ◌<◌, ◌⊎◌, ◌^◌, List, None, Some, IsSome, length, slice_index_or}
use Rattle.tn_base.specs.declared.event.Event.{Event}
use Rattle.tn_base.specs.declared.event.Outcome.{Outcome}
use Rattle.tn_base.specs.declared.event.Outcome.TheVariants as outcome
use Rattle.tn_base.specs.Address.{tile_threads}
use Rattle.tn_rows.specs.Ends.{IsOutcome, final_after, last_of}
use Rattle.tn_rows.specs.PartView.{TileV, AbsentV}
use Rattle.tn_rows.specs.Runs.{Run, Walk}
use Rattle.tn_rows.specs.WorldView.{WorldView}
use Rattle.tn_tile.specs.TileView.{TileView}
use Rattle.job_edges.specs.Laws.{IsGraphJob}
use Rattle.job_faults.specs.declared.map.Mapped.{Mapped}
use Rattle.job_text.specs.declared.job.Job.{Job}
use Rattle.polite_flow.specs.Flowing.{IsFlowing}
use Rattle.polite_flow.specs.Standing.{IsEnabled}
use Rattle.polite_flow.specs.Threads.{ThreadGoesOn}
use Rattle.job_flow.specs.Serves.{PartServes}

-- each walk of an accepted job with a graph keeps its machine flowing, with the tables of the graph's routes
abbrev pub EachGraphJobFlows : Type 0
EachGraphJobFlows = (job : Job) (m : Mapped) (start end : WorldView) (history : List Event) → IsGraphJob job m start → Walk start history end → IsFlowing m.routes.tables end

-- no walk of such a job ends with a bad key
abbrev pub NoGraphJobFindsBadKey : Type 0
NoGraphJobFindsBadKey = (job : Job) (m : Mapped) (start end : WorldView) (history : List Event) (key : ℕ) → IsGraphJob job m start → Walk start history end → final_after (last_of history) end ≡ Some (outcome.BadKey key) → ⊥

-- after each walk of such a job of fewer than 2 ^ 50 events an event is enabled, if each tile serves
abbrev pub EachGraphJobGoesOn : Type 0
EachGraphJobGoesOn = (job : Job) (m : Mapped) (start end : WorldView) (history : List Event) → IsGraphJob job m start → Walk start history end → length history < 2 ^ 50 → ((p : ℕ) → PartServes (slice_index_or end.parts p AbsentV)) → IsEnabled end

-- if a run of such a job is not over, each thread of each tile goes on
abbrev pub EachThreadGoesOn : Type 0
EachThreadGoesOn = (job : Job) (m : Mapped) (start end : WorldView) (history : List Event) (p k : ℕ) (v : TileView) → IsGraphJob job m start → Run start history end → final_after (last_of history) end ≡ None → slice_index_or end.parts p AbsentV ≡ TileV v → k < tile_threads v.plan.shape → ThreadGoesOn v.plan.shape.fuel k v.now

-- each run of such a job of fewer than 2 ^ 50 events is over, or an event is enabled
abbrev pub NoGraphJobJams : Type 0
NoGraphJobJams = (job : Job) (m : Mapped) (start end : WorldView) (history : List Event) → IsGraphJob job m start → Run start history end → length history < 2 ^ 50 → IsSome (final_after (last_of history) end) ⊎ IsEnabled end

-- an outcome of such a run: done, trapped or spent, and neither jammed nor a bad key
abbrev pub IsProper : Outcome → Type 0
IsProper outcome.Done = Unit {0}
IsProper outcome.Jammed = ⊥
IsProper (outcome.Trapped t why) = Unit {0}
IsProper (outcome.Spent t) = Unit {0}
IsProper (outcome.BadKey key) = ⊥

-- the outcome of each run of such a job of fewer than 2 ^ 50 events is proper
abbrev pub EachGraphJobEnds : Type 0
EachGraphJobEnds = (job : Job) (m : Mapped) (start end : WorldView) (history : List Event) (o : Outcome) → IsGraphJob job m start → Run start history end → length history < 2 ^ 50 → IsOutcome history end o → IsProper o
