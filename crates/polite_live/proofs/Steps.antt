-- How a thread of a graph's job waits and ends, as its step leaves it.
use Rattle.std.proofs.Common.{ℕ, ◌≡◌, ◌⊎◌, ◌%◌, ◌/◌, Bool, true, false, cond, refl, sym, ap, subst, inl, inr, List, Option, Some, None, is_some, slice_get}
use Rattle.polite_switch.specs.declared.action.Action.{Action}
use Rattle.polite_switch.specs.declared.action.Action.TheVariants as action
use Rattle.polite_switch.specs.declared.action.SwitchView.{SwitchView}
use Rattle.polite_switch.specs.declared.row.Row.{Row}
use Rattle.polite_switch.specs.declared.row.Row.TheVariants as row
use Rattle.polite_switch.specs.Kept.{RowHolds}
use Rattle.polite_switch.specs.SwitchModel.{SwitchModel}
use Rattle.polite_switch.specs.Table.{dispatched, done, fault_of, is_host, row_of, taken, unless_fault}
use Rattle.polite_switch.proofs.Rows.{row_holds}
use Rattle.rv_isa.specs.declared.instr.Instr.{Instr}
use Rattle.tn_base.specs.declared.event.Trap.{Trap}
use Rattle.tn_base.specs.declared.message.Dest.{Dest}
use Rattle.tn_base.specs.declared.message.Dest.TheVariants as dest
use Rattle.tn_base.specs.declared.op.Op.{Op}
use Rattle.tn_base.specs.declared.op.Op.TheVariants as op
use Rattle.tn_thread.specs.declared.state.ThreadState.{ThreadState}
use Rattle.tn_thread.specs.declared.state.ThreadState.TheVariants as state
use Rattle.tn_thread.specs.declared.thread.Thread.{Thread}
use Rattle.tn_thread.specs.Command.{handed, sent_by, sent_off}
use Rattle.tn_thread.specs.Dispatch.{dispatch, does, view_of}
use Rattle.tn_thread.specs.Sight.{Sight}
use Rattle.tn_thread.specs.Step.{Stepped, runnable}
use Rattle.tn_tile.specs.Step.{due_at, next_step, step_by}
use Rattle.polite_edges.proofs.Handlers.{RunsBy, handler_runs, running}

-- ---- what is said of a thread

-- a thread waits for room or a letter with no letter in hand, or it waits for room alone, to send to the host
abbrev pub WaitsBy : Option SwitchModel → ℕ → Type 0
WaitsBy None waits = ⊥
WaitsBy (Some s) waits = ((waits ≡ 3) × (s.course.hand ≡ None)) ⊎ ((waits ≡ 1) × (is_host s.course.due ≡ true))

abbrev pub WaitsSo : ThreadState → Option SwitchModel → Type 0
WaitsSo state.Run s = Unit {0}
WaitsSo (state.Wait waits) s = WaitsBy s waits.0
WaitsSo (state.Idle vote) s = Unit {0}
WaitsSo (state.Answered value) s = Unit {0}
WaitsSo (state.Dead value) s = Unit {0}
WaitsSo (state.Trapped why) s = Unit {0}

abbrev pub IsEnd : Op → Type 0
IsEnd op.None = ⊥
IsEnd (op.Send to bytes) = ⊥
IsEnd op.Hand = ⊥
IsEnd (op.Free slot) = ⊥
IsEnd (op.Idle vote) = ⊥
IsEnd (op.Kill value) = Unit {0}
IsEnd (op.Trap why) = ⊥

-- a thread is dead only because it asked for its end
abbrev pub EndsSo : ThreadState → Op → Type 0
EndsSo state.Run asked = Unit {0}
EndsSo (state.Wait waits) asked = Unit {0}
EndsSo (state.Idle vote) asked = Unit {0}
EndsSo (state.Answered value) asked = Unit {0}
EndsSo (state.Dead value) asked = IsEnd asked
EndsSo (state.Trapped why) asked = Unit {0}

pub record StepWaits (r : Stepped) : Type 0 where
  pub waits : WaitsSo r.thread.state r.thread.switch
  pub ends : EndsSo r.thread.state r.op

-- ---- a dispatch

-- an action that has its thread wait
abbrev ActionWaits : Action → SwitchModel → Type 0
ActionWaits (action.Handler entry state message value vertex ready) s = Unit {0}
ActionWaits action.Recv s = Unit {0}
ActionWaits (action.KeySend key) s = Unit {0}
ActionWaits action.HostSend s = Unit {0}
ActionWaits action.Free s = Unit {0}
ActionWaits (action.Wait waits) s = WaitsBy (Some s) (waits % 4)
ActionWaits (action.Idle vote) s = Unit {0}
ActionWaits action.Kill s = Unit {0}
ActionWaits (action.Trap why) s = Unit {0}

row_waits : (r : Row) (v : SwitchView) (s : SwitchModel) → RowHolds r v s → ActionWaits (done r v s).action (record s { course = (done r v s).course })
row_waits row.KeySend v s h = tt
row_waits row.HostSend v s h = tt
row_waits row.HostWait v s h = inr (refl, ap is_host h.0)
row_waits row.Init v s h = tt
row_waits row.Recv v s h = tt
row_waits row.Free v s h = tt
row_waits row.Step v s h = tt
row_waits row.Finish v s h = tt
row_waits row.Kill v s h = tt
row_waits row.Take v s h = tt
row_waits row.Send v s h = tt
row_waits row.Wait v s h = inl (refl, h.0.hand)
row_waits row.Idle v s h = tt

fault_waits : (o : Option Trap) (v : SwitchView) (s : SwitchModel) → ActionWaits (unless_fault o v s).action (unless_fault o v s).switch
fault_waits None v s = row_waits (row_of v (taken v s)) v (taken v s) (row_holds v (taken v s))
fault_waits (Some why) v s = tt

either_waits : (b : Bool) (r q : Stepped) → StepWaits r → StepWaits q → StepWaits (cond b r q)
either_waits true r q f g = f
either_waits false r q f g = g

-- the thread that runs, with this softswitch
abbrev with_switch : SwitchModel → Thread → Thread
with_switch s t = record (running t) { switch = Some s }

hand_waits : (o : Option ℕ) (s : SwitchModel) (t : Thread) → StepWaits (handed o (with_switch s t))
hand_waits None s t = record { waits = tt; ends = tt }
hand_waits (Some slot) s t = record { waits = tt; ends = tt }

off_waits : (to : Dest) (seen : Sight) (s : SwitchModel) (t : Thread) → StepWaits (sent_off to seen (with_switch s t))
off_waits to seen s t = either_waits seen.can_send _ _ (record { waits = tt; ends = tt }) (record { waits = tt; ends = tt })

by_waits : (key : Option ℕ) (seen : Sight) (s : SwitchModel) (t : Thread) → StepWaits (sent_by key seen (with_switch s t))
by_waits None seen s t = record { waits = tt; ends = tt }
by_waits (Some key) seen s t = off_waits (dest.Key key) seen s t

does_waits : (a : Action) (seen : Sight) (s : SwitchModel) (t : Thread) → ActionWaits a s → StepWaits (does a seen (with_switch s t))
does_waits (action.Handler entry state message value vertex ready) seen s t f = record { waits = tt; ends = tt }
does_waits action.Recv seen s t f = hand_waits seen.first s t
does_waits (action.KeySend key) seen s t f = by_waits key seen s t
does_waits action.HostSend seen s t f = off_waits dest.Host seen s t
does_waits action.Free seen s t f = either_waits (is_some (seen.held t.hand)) _ _ (record { waits = tt; ends = tt }) (record { waits = tt; ends = tt })
does_waits (action.Wait waits) seen s t f = record { waits = f; ends = tt }
does_waits (action.Idle vote) seen s t f = record { waits = tt; ends = tt }
does_waits action.Kill seen s t f = record { waits = tt; ends = tt }
does_waits (action.Trap why) seen s t f = record { waits = tt; ends = tt }

dispatch_waits : (s : SwitchModel) (seen : Sight) (t : Thread) → StepWaits (dispatch s seen (running t))
dispatch_waits s seen t =
    let v = view_of seen (running t) in
    does_waits (dispatched v s).action seen (dispatched v s).switch t (fault_waits (fault_of v s) v s)

-- ---- a step

-- a thread that runs on, or traps
runs_waits : (o : Op) (t : Thread) → RunsBy o t → StepWaits (record { thread = t; op = o })
runs_waits op.None t f = record { waits = subst (λ st. WaitsSo st t.switch) (sym f.0) tt; ends = subst (λ st. EndsSo st op.None) (sym f.0) tt }
runs_waits (op.Send to bytes) t f = absurd f
runs_waits op.Hand t f = absurd f
runs_waits (op.Free slot) t f = absurd f
runs_waits (op.Idle vote) t f = absurd f
runs_waits (op.Kill value) t f = absurd f
runs_waits (op.Trap why) t f = record { waits = subst (λ st. WaitsSo st t.switch) (sym f) tt; ends = subst (λ st. EndsSo st (op.Trap why)) (sym f) tt }

due_waits : (code : List (Option Instr)) (seen : Sight) (t : Thread) (due : Option SwitchModel) → t.firmware ≡ true → StepWaits (step_by due code seen (running t))
due_waits code seen t None f = runs_waits (step_by None code seen (running t)).op (step_by None code seen (running t)).thread (handler_runs code seen t f)
due_waits code seen t (Some s) f = dispatch_waits s seen t

abbrev in_state : ThreadState → Thread → Thread
in_state st t = record t { state = st }

in_each : (st : ThreadState) (code : List (Option Instr)) (seen : Sight) (t : Thread) → runnable seen st ≡ true → t.firmware ≡ true → StepWaits (next_step code seen (in_state st t))
in_each state.Run code seen t can f = due_waits code seen t (due_at (slice_get code (t.pc / 4)) (running t)) f
in_each (state.Wait waits) code seen t can f = record { waits = tt; ends = tt }
in_each (state.Idle vote) code seen t can f = record { waits = tt; ends = tt }
in_each (state.Answered value) code seen t can f = record { waits = tt; ends = tt }
in_each (state.Dead value) code seen t can f = absurd cc
in_each (state.Trapped why) code seen t can f = absurd cc

-- each step of a thread with firmware leaves it so
pub next_waits : (code : List (Option Instr)) (seen : Sight) (t : Thread) → runnable seen t.state ≡ true → t.firmware ≡ true → StepWaits (next_step code seen t)
next_waits code seen t can f = in_each t.state code seen t can f
