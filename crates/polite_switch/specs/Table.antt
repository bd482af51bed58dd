-- The softswitch: one dispatch.
--
-- A dispatch first takes what a handler returned and the answer to an idle (`taken`), and then does the first row that holds
-- (`row_of`, `done`). A dispatch that traps changes nothing.
use Rattle.std.specs.Prelude.{ℕ, ◌+◌, ◌-◌, ◌==◌, ◌&&◌, not, Bool, true, false, List, [], ◌∷◌, is_some, length, nat_lt, slice_get, unwrap_or, if◌then◌else◌, Option, Some, None}
use Rattle.std.specs.List.{list_any}
use Rattle.tn_base.specs.declared.event.Trap.{Trap}
use Rattle.tn_base.specs.declared.event.Trap.TheVariants as trap
use Rattle.polite_switch.specs.declared.action.Action.{Action}
use Rattle.polite_switch.specs.declared.action.Action.TheVariants as action
use Rattle.polite_switch.specs.declared.action.Msg.{Msg}
use Rattle.polite_switch.specs.declared.action.Msg.TheVariants as message
use Rattle.polite_switch.specs.declared.action.SwitchView.{SwitchView}
use Rattle.polite_switch.specs.declared.course.Call.{Call}
use Rattle.polite_switch.specs.declared.course.Course.{Course}
use Rattle.polite_switch.specs.declared.course.Due.{Due}
use Rattle.polite_switch.specs.declared.course.Due.TheVariants as due
use Rattle.polite_switch.specs.declared.course.Entry.{Entry}
use Rattle.polite_switch.specs.declared.course.Entry.TheVariants as entry
use Rattle.polite_switch.specs.declared.course.Hand.{Hand}
use Rattle.polite_switch.specs.declared.course.Running.{Running}
use Rattle.polite_switch.specs.declared.device.InEdge.{InEdge}
use Rattle.polite_switch.specs.declared.row.Acted.{Acted}
use Rattle.polite_switch.specs.declared.row.Row.{Row}
use Rattle.polite_switch.specs.declared.row.Row.TheVariants as row
use Rattle.polite_switch.specs.Course.{back_of, number_of, taken_course}
use Rattle.polite_switch.specs.Device.{device_at, edges_at, edges_for, entry_at, key_at, no_edge}
use Rattle.polite_switch.specs.DeviceModel.{DeviceModel}
use Rattle.polite_switch.specs.Ready.{first_of, fresh_ready, is_active, mark_at, put_active, put_ready}
use Rattle.polite_switch.specs.ReadyModel.{ReadyModel}
use Rattle.polite_switch.specs.SwitchModel.{SwitchModel}

-- a softswitch at the start: no device is initialised
abbrev pub fresh_switch : List DeviceModel → List (List InEdge) → SwitchModel
fresh_switch devices in_edges = record {
  devices = devices;
  in_edges = in_edges;
  ready = fresh_ready (length devices);
  course = record { call = None; entered = false; due = due.Nothing; hand = None; begun = 0; stepped = length devices; finished = None };
}

-- the number that a call returned is no readiness of its device
abbrev pub is_bad_return : Entry → DeviceModel → ℕ → Bool
is_bad_return entry.Init d a0 = nat_lt (length d.keys) a0
is_bad_return entry.Send d a0 = nat_lt (length d.keys) a0
is_bad_return entry.Recv d a0 = nat_lt (length d.keys) a0
is_bad_return entry.Step d a0 = nat_lt (length d.keys) a0
is_bad_return entry.Finish d a0 = nat_lt 1 a0

abbrev pub is_bad_pin : Option Call → List DeviceModel → SwitchView → Bool
is_bad_pin None devices v = false
is_bad_pin (Some call) devices v = is_bad_return call.entry (device_at devices call.device) v.a0

-- the readiness of the devices, and which are active, after a call returned
abbrev pub ready_by : Entry → ℕ → SwitchView → ReadyModel → ReadyModel
ready_by entry.Init d v r = put_ready d v.a0 false r
ready_by entry.Send d v r = put_ready d v.a0 true r
ready_by entry.Recv d v r = put_ready d v.a0 false r
ready_by entry.Step d v r = put_active d (not (v.a1 == 0)) (put_ready d v.a0 false r)
ready_by entry.Finish d v r = r

abbrev pub taken_ready : Option Call → SwitchView → ReadyModel → ReadyModel
taken_ready None v r = r
taken_ready (Some call) v r = ready_by call.entry call.device v r

-- what a call returned and the answer to an idle are taken
abbrev pub taken : SwitchView → SwitchModel → SwitchModel
taken v s = record s { ready = taken_ready (back_of s.course) v s.ready; course = taken_course v s.course }

-- the next in-edge of a letter in hand
abbrev pub edge_after : List (List InEdge) → Option Hand → Option InEdge
edge_after in_edges None = None
edge_after in_edges (Some hand) = slice_get (edges_at in_edges hand.key) hand.served

abbrev pub next_edge : SwitchModel → Option InEdge
next_edge s = edge_after s.in_edges s.course.hand

abbrev pub is_pin : Due → Bool
is_pin due.Nothing = false
is_pin due.Pin = true
is_pin due.Host = false

abbrev pub is_host : Due → Bool
is_host due.Nothing = false
is_host due.Pin = false
is_host due.Host = true

-- the table: the first row that holds
abbrev pub row_of : SwitchView → SwitchModel → Row
row_of v s =
    if is_pin s.course.due then row.KeySend
    else if is_host s.course.due then (if v.can_send then row.HostSend else row.HostWait)
    else if nat_lt s.course.begun (length s.devices) then row.Init
    else if is_some (next_edge s) then row.Recv
    else if is_some s.course.hand then row.Free
    else if nat_lt s.course.stepped (length s.devices) then row.Step
    else if is_some s.course.finished then (if nat_lt (unwrap_or s.course.finished 0) (length s.devices) then row.Finish else row.Kill)
    else if v.can_recv then row.Take
    else if nat_lt 0 (length s.ready.queue) then (if v.can_send then row.Send else row.Wait)
    else row.Idle

-- a handler is called
abbrev pub calls : Call → Msg → ℕ → SwitchModel → Course → Acted
calls call message value s now = record {
  action = action.Handler (entry_at (device_at s.devices call.device) call.entry) (device_at s.devices call.device).state message value (device_at s.devices call.device).vertex (mark_at s.ready.marks call.device).ready;
  course = record now { call = Some call; entered = true };
}

abbrev pub call_of : Entry → ℕ → Call
call_of e d = record { entry = e; device = d; pin = 0; in_edge = 0 }

abbrev pub acts : Action → Course → Acted
acts asked now = record { action = asked; course = now }

-- the key of the pin that was sent
abbrev pub sent_key : List DeviceModel → Option Call → Option ℕ
sent_key devices None = None
sent_key devices (Some call) = key_at (device_at devices call.device) call.pin

-- one in-edge more of the letter in hand is served
abbrev pub served_more : Option Hand → Option Hand
served_more None = None
served_more (Some hand) = Some (record { key = hand.key; served = hand.served + 1 })

-- the first ready device sends by the pin that it is ready for
abbrev pub send_call : SwitchModel → ℕ → Call
send_call s d = record { entry = entry.Send; device = d; pin = (mark_at s.ready.marks d).ready - 1; in_edge = 0 }

-- the device of an in-edge receives
abbrev pub recv_call : InEdge → Call
recv_call e = record { entry = entry.Recv; device = e.device; pin = 0; in_edge = e.edge }

-- what each row does
abbrev pub done : Row → SwitchView → SwitchModel → Acted
done row.KeySend v s = acts (action.KeySend (sent_key s.devices s.course.call)) (record s.course { due = due.Nothing })
done row.HostSend v s = acts action.HostSend (record s.course { due = due.Nothing })
done row.HostWait v s = acts (action.Wait 1) s.course
done row.Init v s = calls (call_of entry.Init s.course.begun) message.None 0 s (record s.course { begun = s.course.begun + 1 })
done row.Recv v s = let e = unwrap_or (next_edge s) no_edge in calls (recv_call e) message.Received e.value s (record s.course { hand = served_more s.course.hand })
done row.Free v s = acts action.Free (record s.course { hand = None })
done row.Step v s = calls (call_of entry.Step s.course.stepped) message.None 0 s (record s.course { stepped = s.course.stepped + 1 })
done row.Finish v s = let n = unwrap_or s.course.finished 0 in calls (call_of entry.Finish n) message.SendSlot 0 s (record s.course { finished = Some (n + 1) })
done row.Kill v s = acts action.Kill s.course
done row.Take v s = acts action.Recv (record s.course { hand = Some (record { key = unwrap_or v.key 0; served = 0 }) })
done row.Send v s = calls (send_call s (unwrap_or (first_of s.ready.queue) 0)) message.SendSlot 0 s s.course
done row.Wait v s = acts (action.Wait 3) s.course
done row.Idle v s = acts (action.Idle (not (list_any is_active s.ready.marks))) s.course

abbrev pub has_none : List InEdge → Bool
has_none [] = true
has_none (e ∷ es) = false

abbrev pub is_take : Row → Bool
is_take row.Take = true
is_take _ = false

-- a letter is to be taken, and its key has no in-edge
abbrev pub is_stray : SwitchView → SwitchModel → Bool
is_stray v s = is_take (row_of v s) && has_none (edges_for s.in_edges v.key)

-- why a dispatch traps: for the number that a handler returned, or for the key of the letter that it is to take
abbrev pub fault_of : SwitchView → SwitchModel → Option Trap
fault_of v s =
    if is_bad_pin (back_of s.course) s.devices v then Some trap.BadPin
    else if is_stray v (taken v s) then Some trap.BadLocalKey
    else None

-- the switch after a dispatch, and what it has the thread do
pub record Dispatched : Type 0 where
  pub switch : SwitchModel
  pub action : Action

abbrev pub acted : Acted → SwitchModel → Dispatched
acted a s = record { switch = record s { course = a.course }; action = a.action }

abbrev pub unless_fault : Option Trap → SwitchView → SwitchModel → Dispatched
unless_fault (Some why) v s = record { switch = s; action = action.Trap why }
unless_fault None v s = acted (done (row_of v (taken v s)) v (taken v s)) (taken v s)

abbrev pub dispatched : SwitchView → SwitchModel → Dispatched
dispatched v s = unless_fault (fault_of v s) v s

-- the handler that was last begun
abbrev pub running_of : Call → Running
running_of call = record { entry = number_of call.entry; device = call.device; pin = call.pin; in_edge = call.in_edge }
