-- The deed of a dispatch, read of its thread before and after the step.
use Rattle.std.specs.Prelude.{ℕ, ◌≡◌, ◌==◌, Option, Some, None, if◌then◌else◌, option_and_then, option_map, slice_get}
use Rattle.polite_switch.specs.declared.course.Running.{Running}
use Rattle.polite_switch.specs.SwitchModel.{SwitchModel}
use Rattle.polite_switch.specs.Table.{is_pin, running_of, taken}
use Rattle.tn_base.specs.declared.event.Event.TheVariants as event
use Rattle.tn_base.specs.declared.ids.ThreadId.{ThreadId}
use Rattle.tn_base.specs.declared.message.Letter.{Letter}
use Rattle.tn_base.specs.Address.{place_in_tile}
use Rattle.tn_thread.specs.declared.state.ThreadState.{ThreadState}
use Rattle.tn_thread.specs.declared.state.ThreadState.TheVariants as state
use Rattle.tn_thread.specs.declared.thread.Thread.{Thread}
use Rattle.tn_thread.specs.Dispatch.{view_of}
use Rattle.tn_thread.specs.Sight.{Sight}
use Rattle.tn_tile.specs.Rows.{is_here}
use Rattle.tn_tile.specs.Step.{due_by, sight_at, thread_at}
use Rattle.tn_tile.specs.TileView.{TileView}
use Rattle.tn_rows.specs.Events.{happened}
use Rattle.tn_rows.specs.PartView.{tile_of}
use Rattle.tn_rows.specs.Places.{part_of}
use Rattle.tn_rows.specs.WorldView.{WorldView}
use Rattle.tn_letters.specs.AtRest.{told_value}
use Rattle.tn_letters.specs.Machine.{answer}
use Rattle.tn_letters.specs.Standing.{bag_at}
use Rattle.tn_letters.specs.Tiles.{held_in}
use Rattle.polite_edges.specs.declared.deed.Deed.{Deed}
use Rattle.polite_edges.specs.declared.deed.Deed.TheVariants.{Finished, Inited, Missed, Received, Sent, Stepped}
use Rattle.polite_edges.specs.declared.deed.PinSend.{PinSend}
use Rattle.polite_edges.specs.Layout.{vertex_in}
use Rattle.polite_edges.specs.Runs.{message_of}
use Rattle.polite_log.specs.declared.reading.Before.{Before}
use Rattle.polite_log.specs.TileDeeds.{step_deed}

-- Before the step.

-- what is read of a thread before a dispatch of its softswitch
abbrev pub before_of : Sight → Thread → Option Letter → SwitchModel → Before
before_of seen t held s = record { sends = is_pin (taken (view_of seen t) s).course.due; number = t.sends; message = message_of t; held = held }

-- what is read of the thread at a place, if its next step is a dispatch
abbrev pub before_at : ℕ → TileView → Option Before
before_at k v = let t = thread_at v.now k in option_map (before_of (sight_at v.now k) t (held_in v k t.hand)) (due_by t.state v.plan.code t)

-- After the step.

abbrev pub received_as : ℕ → Running → Option Letter → Option Deed
received_as a r None = Some (Missed a r.device r.in_edge)
received_as a r (Some l) = Some (Received a r.device r.in_edge l)

-- the call in numbers of a handler, with the vertex of its device and the letter in hand
abbrev pub begun_as : ℕ → Running → ℕ → Option Letter → Option Deed
begun_as a r vertex held =
    if r.entry == 0 then Some (Inited a r.device vertex)
    else if r.entry == 2 then received_as a r held
    else if r.entry == 3 then Some (Stepped a r.device vertex)
    else if r.entry == 4 then Some (Finished a r.device vertex)
    else None

-- the send by the pin of a call in numbers
abbrev pub sent_as : ℕ → Before → Running → ℕ → PinSend
sent_as a b r vertex = record { thread = a; device = r.device; vertex = vertex; pin = r.pin; number = b.number; bytes = b.message }

-- the deed of a dispatch by the softswitch that it left and the call that was begun last: the softswitch has entered a handler, or the
-- message of a send handler went out
abbrev pub called : ℕ → Before → SwitchModel → Option Running → Option Deed
called a b s None = None
called a b s (Some r) =
    if s.course.entered then begun_as a r (vertex_in s.devices r.device) b.held
    else if b.sends then Some (Sent (sent_as a b r (vertex_in s.devices r.device)))
    else None

abbrev pub called_by : ℕ → Before → Option SwitchModel → Option Deed
called_by a b None = None
called_by a b (Some s) = called a b s (option_map running_of s.course.call)

-- a dispatch that trapped is no deed
abbrev pub unless_trapped : ThreadState → Option Deed → Option Deed
unless_trapped state.Run deed = deed
unless_trapped (state.Wait waits) deed = deed
unless_trapped (state.Idle vote) deed = deed
unless_trapped (state.Answered value) deed = deed
unless_trapped (state.Dead value) deed = deed
unless_trapped (state.Trapped why) deed = None

-- the deed of a dispatch, by what was read before it, and the thread after it, which has this address
abbrev pub deed_read : ℕ → Before → Thread → Option Deed
deed_read a b t = unless_trapped t.state (called_by a b t.switch)

-- The thread of a machine.

abbrev pub if_here : ThreadId → TileView → Option TileView
if_here t v = if is_here v.plan t.0 then Some v else None

-- the tile that a thread is on
abbrev pub home : WorldView → ThreadId → Option TileView
home w t = option_and_then (if_here t) (option_and_then tile_of (option_and_then (slice_get w.parts) (part_of w.shape t)))

-- the deed of the next step of a thread
abbrev pub next_deed : ThreadId → WorldView → Option Deed
next_deed t w = option_and_then (λ (v : TileView). step_deed t.0 (place_in_tile v.plan.shape t.0) v) (home w t)

-- what is read of a thread of a machine, if its next step is a dispatch
abbrev pub before_in : ThreadId → WorldView → Option Before
before_in t w = option_and_then (λ (v : TileView). before_at (place_in_tile v.plan.shape t.0) v) (home w t)

-- the deed of a step by what was read before it, if the step was a dispatch, and the machine after it
abbrev pub read_after : ThreadId → Option Before → WorldView → Option Deed
read_after t before w = option_and_then (λ (b : Before). option_and_then (λ (v : TileView). deed_read t.0 b (thread_at v.now (place_in_tile v.plan.shape t.0))) (home w t)) before

-- Announcements.

-- an announcement that is made next tells what the votes give
abbrev pub TellsAnswer : WorldView → Type 0
TellsAnswer w = (new : WorldView) → happened event.Announce w ≡ Some new → told_value new ≡ answer w.shape (bag_at w)
