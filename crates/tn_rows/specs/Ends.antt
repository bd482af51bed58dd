-- How runs end.
use Rattle.std.specs.Prelude.{ℕ, ◌≡◌, ◌==◌, Bool, List, [], ◌∷◌, Option, Some, None, MatchOption, option_and_then, option_map, slice_get, if◌then◌else◌}
use Rattle.tn_base.specs.declared.event.Event.{Event}
use Rattle.tn_base.specs.declared.event.Event.TheVariants as event
use Rattle.tn_base.specs.declared.event.Outcome.{Outcome}
use Rattle.tn_base.specs.declared.event.Outcome.TheVariants as outcome
use Rattle.tn_base.specs.declared.ids.ThreadId.{ThreadId}
use Rattle.tn_base.specs.Address.{place_in_tile}
use Rattle.tn_detect.specs.declared.answer.Answer.{Answer}
use Rattle.tn_detect.specs.declared.answer.Answer.TheVariants as answer
use Rattle.tn_rows.specs.Events.{Rests}
use Rattle.tn_rows.specs.PartView.{PartView, TileV, RouterV, LinkV, HostV, DetectorV, AbsentV}
use Rattle.tn_rows.specs.Places.{detector_part, part_of}
use Rattle.tn_rows.specs.WorldView.{WorldView}
use Rattle.tn_thread.specs.declared.state.ThreadState.{ThreadState}
use Rattle.tn_thread.specs.declared.state.ThreadState.TheVariants as state
use Rattle.tn_thread.specs.declared.thread.Thread.{Thread}
use Rattle.tn_tile.specs.Rows.{is_here}
use Rattle.tn_tile.specs.Step.{thread_at}

abbrev pub spent_by : ThreadId → Bool → Option Outcome
spent_by t used = if used then Some (outcome.Spent t) else None

-- how a run ends with a turn of a thread that is now in this state: the thread trapped, or has used its fuel
abbrev pub ended_by : ThreadId → ThreadState → Bool → Option Outcome
ended_by t state.Run used = spent_by t used
ended_by t (state.Wait waits) used = spent_by t used
ended_by t (state.Idle vote) used = spent_by t used
ended_by t (state.Answered value) used = spent_by t used
ended_by t (state.Dead value) used = spent_by t used
ended_by t (state.Trapped why) used = Some (outcome.Trapped t why)

abbrev pub ended_with : ℕ → ThreadId → Thread → Option Outcome
ended_with fuel t thread = ended_by t thread.state (thread.steps == fuel)

abbrev pub ended_on : ThreadId → PartView → Option Outcome
ended_on t (TileV v) = if is_here v.plan t.0 then ended_with v.plan.shape.fuel t (thread_at v.now (place_in_tile v.plan.shape t.0)) else None
ended_on t (RouterV v) = None
ended_on t (LinkV v) = None
ended_on t (HostV s) = None
ended_on t (DetectorV v) = None
ended_on t AbsentV = None

-- how a run ends with a routing on a part that is now this one: its router found a bad key
abbrev pub bad_key_on : PartView → Option Outcome
bad_key_on (TileV v) = None
bad_key_on (RouterV v) = option_map outcome.BadKey v.now.ended
bad_key_on (LinkV v) = None
bad_key_on (HostV s) = None
bad_key_on (DetectorV v) = None
bad_key_on AbsentV = None

-- how a run ends with an announcement of this answer: every thread has ended, and the host's script is at its end
abbrev pub done_with : Option Answer → Option Outcome
done_with None = None
done_with (Some (answer.Live votes)) = None
done_with (Some answer.AllDead) = Some outcome.Done

-- how a run ends with an announcement of a part that is now this one
abbrev pub done_on : PartView → Option Outcome
done_on (TileV v) = None
done_on (RouterV v) = None
done_on (LinkV v) = None
done_on (HostV s) = None
done_on (DetectorV v) = done_with v.now.answer
done_on AbsentV = None

-- how a run ends with an event after which the event's own part is this one, if the event is final. Before it the part tells no end
abbrev pub final_on : Event → PartView → Option Outcome
final_on (event.Turn t n) = ended_on t
final_on (event.Route p) = bad_key_on
final_on event.Announce = done_on
final_on _ = λ part. None

-- how a run ends with an event after which the machine is this one, if the event is final: the event's own part tells
abbrev pub final_of : Event → WorldView → Option Outcome
final_of (event.Turn t n) w = option_and_then (final_on (event.Turn t n)) (option_and_then (slice_get w.parts) (part_of w.shape t))
final_of (event.Route p) w = option_and_then (final_on (event.Route p)) (slice_get w.parts p.0)
final_of event.Announce w = option_and_then (final_on event.Announce) (slice_get w.parts (detector_part w.shape))
final_of _ w = None

abbrev pub last_of : List Event → Option Event
last_of [] = None
last_of (e ∷ []) = Some e
last_of (e ∷ f ∷ es) = last_of (f ∷ es)

-- how a run ends with its last event, where that is final
abbrev pub final_after : Option Event → WorldView → Option Outcome
final_after None w = None
final_after (Some e) w = final_of e w

-- the outcome of a run: that of its last event if the event is final. Else no event is enabled after it, and the run is jammed
abbrev pub IsOutcome : List Event → WorldView → Outcome → Type 0
IsOutcome history end o = MatchOption (final_after (last_of history) end) (Rests end × (o ≡ outcome.Jammed)) (λ f. o ≡ f)
