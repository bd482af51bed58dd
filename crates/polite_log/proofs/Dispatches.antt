-- The deed of a step is the one that is read of its thread before and after the step.
use Rattle.std.proofs.Common.{ℕ, ◌+◌, ◌%◌, ◌^◌, ◌≡◌, ◌/◌, ◌<◌, ◌∙◌, Bool, true, false, cond, List, length, get_or, refl, sym, ap, subst, Option, Some, None, inl, inr}
use Rattle.std.specs.Prelude.{is_some, nat_lt, option_and_then, option_map, slice_get, unwrap_or}
use Rattle.std.proofs.lemmas.Bool.{and_parts, cases_lt}
use Rattle.std.proofs.lemmas.List.{get_or-set_same, get_or_past}
use Rattle.polite_switch.specs.declared.action.Action.{Action}
use Rattle.polite_switch.specs.declared.action.Action.TheVariants as action
use Rattle.polite_switch.specs.declared.action.SwitchView.{SwitchView}
use Rattle.polite_switch.specs.declared.course.Call.{Call}
use Rattle.polite_switch.specs.declared.course.Entry.{Entry}
use Rattle.polite_switch.specs.declared.course.Entry.TheVariants as entry
use Rattle.polite_switch.specs.declared.row.Row.{Row}
use Rattle.polite_switch.specs.declared.row.Row.TheVariants as row
use Rattle.polite_switch.specs.Course.{finished_after, number_of, stepped_after}
use Rattle.polite_switch.specs.Device.{no_edge}
use Rattle.polite_switch.specs.Ready.{first_of}
use Rattle.polite_switch.specs.DeviceModel.{DeviceModel}
use Rattle.polite_switch.specs.SwitchModel.{SwitchModel}
use Rattle.polite_switch.specs.Table.{call_of, done, fault_of, is_host, is_pin, next_edge, recv_call, row_of, send_call, running_of, sent_key, taken, unless_fault}
use Rattle.rv_isa.specs.declared.instr.Instr.{Instr}
use Rattle.tn_base.specs.declared.event.Trap.{Trap}
use Rattle.tn_base.specs.declared.event.Trap.TheVariants as trap
use Rattle.tn_base.specs.declared.message.Dest.{Dest}
use Rattle.tn_base.specs.declared.message.Dest.TheVariants as dest
use Rattle.tn_base.specs.declared.message.Letter.{Letter}
use Rattle.tn_base.specs.declared.op.Op.{Op}
use Rattle.tn_base.specs.declared.op.Op.TheVariants as op
use Rattle.tn_thread.specs.declared.command.Command.{Command}
use Rattle.tn_thread.specs.declared.command.Command.TheVariants as command
use Rattle.tn_thread.specs.declared.state.ThreadState.{ThreadState}
use Rattle.tn_thread.specs.declared.state.ThreadState.TheVariants as state
use Rattle.tn_thread.specs.declared.thread.Thread.{Thread}
use Rattle.tn_thread.specs.Command.{commanded, handed, sent_by as command_sent, stays}
use Rattle.tn_thread.specs.Dispatch.{command_of, does, view_of}
use Rattle.tn_thread.specs.Sight.{Sight}
use Rattle.tn_thread.specs.Step.{Stepped, trapped}
use Rattle.tn_tile.specs.Step.{acted as tile_acted, can_step, due_at, due_by, no_thread, sight_at, step_at_place, step_by, thread_at, with_thread}
use Rattle.tn_tile.specs.declared.state.TileState.{TileState}
use Rattle.tn_tile.specs.TileView.{TileView}
use Rattle.tn_thread.specs.Step.{runnable}
use Rattle.tn_letters.specs.Steps.{after_step}
use Rattle.tn_letters.specs.Tiles.{held_in}
use Rattle.polite_edges.specs.declared.deed.Deed.{Deed}
use Rattle.polite_edges.specs.declared.deed.Deed.TheVariants.{Sent}
use Rattle.polite_edges.specs.Deeds.{begun_by, deed_of, received_by}
use Rattle.polite_edges.specs.Layout.{vertex_in}
use Rattle.polite_edges.specs.Runs.{dispatch_deed, doer_of, message_of, unless_trap}
use Rattle.polite_log.specs.declared.reading.Before.{Before}
use Rattle.polite_log.specs.Reading.{before_at, before_of, begun_as, called, called_by, deed_read, received_as, sent_as, unless_trapped}
use Rattle.polite_log.specs.TileDeeds.{step_deed}

-- ---- the row

is_key : Row → Bool
is_key row.KeySend = true
is_key row.HostSend = false
is_key row.HostWait = false
is_key row.Init = false
is_key row.Recv = false
is_key row.Free = false
is_key row.Step = false
is_key row.Finish = false
is_key row.Kill = false
is_key row.Take = false
is_key row.Send = false
is_key row.Wait = false
is_key row.Idle = false

none_key : (b : Bool) (x y : Row) → is_key x ≡ false → is_key y ≡ false → is_key (cond b x y) ≡ false
none_key true x y e f = e
none_key false x y e f = f

key_first : (b : Bool) (x : Row) → is_key x ≡ false → is_key (cond b row.KeySend x) ≡ b
unfolding is_key
key_first true x e = refl
key_first false x e = e

-- a row by which no message of a send handler goes out
abbrev NoKey : Row → Type 0
NoKey r = is_key r ≡ false

host_send : NoKey row.HostSend
unfolding is_key
host_send = refl

host_wait : NoKey row.HostWait
unfolding is_key
host_wait = refl

init : NoKey row.Init
unfolding is_key
init = refl

recv : NoKey row.Recv
unfolding is_key
recv = refl

free : NoKey row.Free
unfolding is_key
free = refl

step : NoKey row.Step
unfolding is_key
step = refl

finish : NoKey row.Finish
unfolding is_key
finish = refl

kill : NoKey row.Kill
unfolding is_key
kill = refl

take_row : NoKey row.Take
unfolding is_key
take_row = refl

send : NoKey row.Send
unfolding is_key
send = refl

wait : NoKey row.Wait
unfolding is_key
wait = refl

idle : NoKey row.Idle
unfolding is_key
idle = refl

-- a message goes out by a key exactly where it is due
row_key : (v : SwitchView) (s : SwitchModel) → is_key (row_of v s) ≡ is_pin s.course.due
row_key v s =
    key_first (is_pin s.course.due) _
    (none_key (is_host s.course.due) _ _ (none_key v.can_send _ _ host_send host_wait)
    (none_key (nat_lt s.course.begun (length s.devices)) _ _ init
    (none_key (is_some (next_edge s)) _ _ recv
    (none_key (is_some s.course.hand) _ _ free
    (none_key (nat_lt s.course.stepped (length s.devices)) _ _ step
    (none_key (is_some s.course.finished) _ _ (none_key (nat_lt (unwrap_or s.course.finished 0) (length s.devices)) _ _ finish kill)
    (none_key v.can_recv _ _ take_row
    (none_key (nat_lt 0 (length s.ready.queue)) _ _ (none_key v.can_send _ _ send wait) idle))))))))

-- ---- what a command leaves of the softswitch

-- a thread that has sent once more
abbrev counted : Thread → Thread
counted t = record t { sends = (t.sends + 1) % 2 ^ 32 }

sent_off_switch : (can : Bool) (to : Dest) (t : Thread) (x : Thread) (o : Op) → x.switch ≡ t.switch → (cond can (stays x o) (trapped trap.SendBusy t)).thread.switch ≡ t.switch
sent_off_switch true to t x o e = e
sent_off_switch false to t x o e = refl

key_switch : (key : Option ℕ) (seen : Sight) (t : Thread) → (command_sent key seen t).thread.switch ≡ t.switch
key_switch None seen t = refl
key_switch (Some key) seen t = sent_off_switch seen.can_send (dest.Key key) t (counted t) _ refl

handed_switch : (first : Option ℕ) (t : Thread) → (handed first t).thread.switch ≡ t.switch
handed_switch None t = refl
handed_switch (Some slot) t = refl

freed_switch : (b : Bool) (t : Thread) (o : Op) → (cond b (stays t o) (trapped trap.BadFree t)).thread.switch ≡ t.switch
freed_switch true t o = refl
freed_switch false t o = refl

command_switch : (c : Command) (seen : Sight) (t : Thread) → (commanded c seen t).thread.switch ≡ t.switch
command_switch (command.Enter entry regs) seen t = refl
command_switch command.Recv seen t = handed_switch seen.first t
command_switch (command.KeySend key) seen t = key_switch key seen t
command_switch command.HostSend seen t = sent_off_switch seen.can_send dest.Host t (counted t) _ refl
command_switch (command.Free slot) seen t = freed_switch _ t _
command_switch (command.Wait waits) seen t = refl
command_switch (command.Idle vote) seen t = refl
command_switch command.Kill seen t = refl
command_switch (command.Trap why) seen t = refl

-- ---- a row without a deed

trap_none : (o : Op) → unless_trap o None ≡ None
trap_none op.None = refl
trap_none (op.Send to bytes) = refl
trap_none op.Hand = refl
trap_none (op.Free slot) = refl
trap_none (op.Idle vote) = refl
trap_none (op.Kill value) = refl
trap_none (op.Trap why) = refl

trapped_none : (s : ThreadState) → unless_trapped s None ≡ None
trapped_none state.Run = refl
trapped_none (state.Wait waits) = refl
trapped_none (state.Idle vote) = refl
trapped_none (state.Answered value) = refl
trapped_none (state.Dead value) = refl
trapped_none (state.Trapped why) = refl

-- a softswitch that entered no handler, where no message was due
quiet_called : (a : ℕ) (b : Before) (s : SwitchModel) (call : Option Call) → s.course.entered ≡ false → b.sends ≡ false → called a b s (option_map running_of call) ≡ None
quiet_called a b s None e f = refl
quiet_called a b s (Some call) e f =
    let r = running_of call in
    ap (λ x. cond x (begun_as a r (vertex_in s.devices r.device) b.held) (cond b.sends (Some (Sent (sent_as a b r (vertex_in s.devices r.device)))) None)) e
    ∙ ap (λ x. cond x (Some (Sent (sent_as a b r (vertex_in s.devices r.device)))) None) f

quiet : (a : ℕ) (b : Before) (made : Stepped) (d : Option Deed) (s : SwitchModel) → d ≡ None → made.thread.switch ≡ Some s → s.course.entered ≡ false → b.sends ≡ false → unless_trap made.op d ≡ deed_read a b made.thread
quiet a b made d s e h f g =
    ap (unless_trap made.op) e
    ∙ (trap_none made.op
    ∙ sym (ap (λ o. unless_trapped made.thread.state (called_by a b o)) h ∙ (ap (unless_trapped made.thread.state) (quiet_called a b s s.course.call f g) ∙ trapped_none made.thread.state)))

-- ---- a row that enters a handler

received_same : (a : ℕ) (call : Call) (held : Option Letter) → received_by a call held ≡ received_as a (running_of call) held
received_same a call None = refl
received_same a call (Some l) = refl

begun_same : (e : Entry) (a : ℕ) (call : Call) (vertex : ℕ) (held : Option Letter) → call.entry ≡ e → begun_by e a call vertex held ≡ begun_as a (running_of call) vertex held
begun_same entry.Init a call vertex held is = subst (λ (x : Entry). begun_by entry.Init a call vertex held ≡ begun_as a (record (running_of call) { entry = number_of x }) vertex held) (sym is) refl
begun_same entry.Send a call vertex held is = subst (λ (x : Entry). begun_by entry.Send a call vertex held ≡ begun_as a (record (running_of call) { entry = number_of x }) vertex held) (sym is) refl
begun_same entry.Recv a call vertex held is = subst (λ (x : Entry). begun_by entry.Recv a call vertex held ≡ begun_as a (record (running_of call) { entry = number_of x }) vertex held) (sym is) (received_same a call held)
begun_same entry.Step a call vertex held is = subst (λ (x : Entry). begun_by entry.Step a call vertex held ≡ begun_as a (record (running_of call) { entry = number_of x }) vertex held) (sym is) refl
begun_same entry.Finish a call vertex held is = subst (λ (x : Entry). begun_by entry.Finish a call vertex held ≡ begun_as a (record (running_of call) { entry = number_of x }) vertex held) (sym is) refl

runs_on : (s : ThreadState) (d : Option Deed) → s ≡ state.Run → d ≡ unless_trapped s d
runs_on s d e = sym (ap (λ x. unless_trapped x d) e)

-- ---- the row by which a message goes out

call_sent : (key : Option ℕ) (call : Option Call) (a : ℕ) (t : Thread) (s : SwitchModel) (held : Option Letter) (b : Before) (now : SwitchModel) → b ≡ record { sends = true; number = t.sends; message = message_of t; held = held } → now.course.entered ≡ false → now.devices ≡ s.devices →
    deed_of (action.KeySend key) call (doer_of a t s held) ≡ called a b now (option_map running_of call)
call_sent key None a t s held b now is e same = refl
call_sent key (Some call) a t s held b now is e same =
    let c : Before = record { sends = true; number = t.sends; message = message_of t; held = held } in
    let r = running_of call in
    sym (ap (λ (x : Before). called a x now (Some r)) is
    ∙ (ap (λ x. cond x (begun_as a r (vertex_in now.devices r.device) held) (Some (Sent (sent_as a c r (vertex_in now.devices r.device))))) e
    ∙ ap (λ (ds : List DeviceModel). Some (Sent (sent_as a c r (vertex_in ds r.device)))) same))

sent_reads : (can : Bool) (a : ℕ) (b : Before) (t x : Thread) (o : List ℕ) (to : Dest) (now : SwitchModel) (d : Option Deed) → t.state ≡ state.Run → x.state ≡ t.state → x.switch ≡ Some now → d ≡ called_by a b (Some now) →
    unless_trap (cond can (stays x (op.Send to o)) (trapped trap.SendBusy t)).op d ≡ deed_read a b (cond can (stays x (op.Send to o)) (trapped trap.SendBusy t)).thread
sent_reads true a b t x o to now d run same switch is = is ∙ (ap (called_by a b) (sym switch) ∙ runs_on x.state (called_by a b x.switch) (same ∙ run))
sent_reads false a b t x o to now d run same switch is = refl

key_reads : (key : Option ℕ) (a : ℕ) (b : Before) (seen : Sight) (t : Thread) (now : SwitchModel) (d : Option Deed) → t.state ≡ state.Run → t.switch ≡ Some now → d ≡ called_by a b (Some now) →
    unless_trap (command_sent key seen t).op d ≡ deed_read a b (command_sent key seen t).thread
key_reads None a b seen t now d run switch is = is ∙ (ap (called_by a b) (sym switch) ∙ runs_on t.state (called_by a b t.switch) run)
key_reads (Some key) a b seen t now d run switch is = sent_reads seen.can_send a b t (counted t) _ (dest.Key key) now d run refl switch is

-- ---- a dispatch

-- the softswitch and the thread that a row makes, and the deed of the row
abbrev switch_by : Row → Sight → Thread → SwitchModel → SwitchModel
switch_by r seen t s = let v = view_of seen t in record (taken v s) { course = (done r v (taken v s)).course }

abbrev row_action : Row → Sight → Thread → SwitchModel → Action
row_action r seen t s = let v = view_of seen t in (done r v (taken v s)).action

abbrev made_by : Row → Sight → Thread → SwitchModel → Stepped
made_by r seen t s = does (row_action r seen t s) seen (record t { switch = Some (switch_by r seen t s) })

abbrev row_deed : Row → ℕ → Sight → Thread → SwitchModel → Option Letter → Option Deed
row_deed r a seen t s held = deed_of (row_action r seen t s) (switch_by r seen t s).course.call (doer_of a t s held)

abbrev before_with : Bool → Thread → Option Letter → Before
before_with x t held = record { sends = x; number = t.sends; message = message_of t; held = held }

abbrev RowReads : Row → Bool → ℕ → Thread → Option Letter → Sight → SwitchModel → Type 0
RowReads r x a t held seen s = unless_trap (made_by r seen t s).op (row_deed r a seen t s held) ≡ deed_read a (before_with x t held) (made_by r seen t s).thread

quiet_row : (r : Row) (x : Bool) (a : ℕ) (t : Thread) (held : Option Letter) (seen : Sight) (s : SwitchModel) → row_deed r a seen t s held ≡ None → (switch_by r seen t s).course.entered ≡ false → x ≡ false → RowReads r x a t held seen s
quiet_row r x a t held seen s nothing out off =
    let now : Thread = record t { switch = Some (switch_by r seen t s) } in
    quiet a (before_with x t held) (made_by r seen t s) (row_deed r a seen t s held) (switch_by r seen t s) nothing (command_switch (command_of (row_action r seen t s) now) seen now) out off

entered_row : (e : Entry) (call : Call) (x : Bool) (a : ℕ) (t : Thread) (held : Option Letter) (devices : List DeviceModel) → call.entry ≡ e → t.state ≡ state.Run → begun_by e a call (vertex_in devices call.device) held ≡ unless_trapped t.state (begun_as a (running_of call) (vertex_in devices call.device) held)
entered_row e call x a t held devices is run = begun_same e a call (vertex_in devices call.device) held is ∙ runs_on t.state (begun_as a (running_of call) (vertex_in devices call.device) held) run

row_reads : (r : Row) (x : Bool) (a : ℕ) (t : Thread) (held : Option Letter) (seen : Sight) (s : SwitchModel) → x ≡ is_key r → t.state ≡ state.Run → RowReads r x a t held seen s
unfolding is_key
row_reads row.KeySend x a t held seen s key run =
    let v = view_of seen t in
    let m = done row.KeySend v (taken v s) in
    let now : SwitchModel = record (taken v s) { course = m.course } in
    let b : Before = record { sends = x; number = t.sends; message = message_of t; held = held } in
    let one : b ≡ record { sends = true; number = t.sends; message = message_of t; held = held } = λ i. record { sends = key i; number = t.sends; message = message_of t; held = held } in
    let with = sent_key s.devices s.course.call in
    key_reads with a b seen (record t { switch = Some now }) now _ run refl (call_sent with s.course.call a t s held b now one refl refl)
row_reads row.HostSend x a t held seen s key run = quiet_row row.HostSend x a t held seen s refl refl key
row_reads row.HostWait x a t held seen s key run = quiet_row row.HostWait x a t held seen s refl refl key
row_reads row.Init x a t held seen s key run = entered_row entry.Init (call_of entry.Init s.course.begun) x a t held s.devices refl run
row_reads row.Recv x a t held seen s key run = entered_row entry.Recv (recv_call (unwrap_or (next_edge (taken (view_of seen t) s)) no_edge)) x a t held s.devices refl run
row_reads row.Free x a t held seen s key run = quiet_row row.Free x a t held seen s refl refl key
row_reads row.Step x a t held seen s key run = entered_row entry.Step (call_of entry.Step (stepped_after (view_of seen t) s.course.stepped)) x a t held s.devices refl run
row_reads row.Finish x a t held seen s key run = entered_row entry.Finish (call_of entry.Finish (unwrap_or (finished_after (view_of seen t) s.course.finished) 0)) x a t held s.devices refl run
row_reads row.Kill x a t held seen s key run = quiet_row row.Kill x a t held seen s refl refl key
row_reads row.Take x a t held seen s key run = quiet_row row.Take x a t held seen s refl refl key
row_reads row.Send x a t held seen s key run = entered_row entry.Send (send_call (taken (view_of seen t) s) (unwrap_or (first_of (taken (view_of seen t) s).ready.queue) 0)) x a t held s.devices refl run
row_reads row.Wait x a t held seen s key run = quiet_row row.Wait x a t held seen s refl refl key
row_reads row.Idle x a t held seen s key run = quiet_row row.Idle x a t held seen s refl refl key

by_fault : (f : Option Trap) (a : ℕ) (t : Thread) (held : Option Letter) (seen : Sight) (s : SwitchModel) → t.state ≡ state.Run →
    let d = unless_fault f (view_of seen t) s in
    let made = does d.action seen (record t { switch = Some d.switch }) in
    unless_trap made.op (deed_of d.action d.switch.course.call (doer_of a t s held)) ≡ deed_read a (before_of seen t held s) made.thread
by_fault (Some why) a t held seen s run = refl
by_fault None a t held seen s run =
    let v = view_of seen t in
    row_reads (row_of v (taken v s)) (is_pin (taken v s).course.due) a t held seen s (sym (row_key v (taken v s))) run

due_reads : (o : Option SwitchModel) (code : List (Option Instr)) (a : ℕ) (t : Thread) (held : Option Letter) (seen : Sight) → t.state ≡ state.Run →
    dispatch_deed o a t held seen (step_by o code seen t).op ≡ option_and_then (λ b. deed_read a b (step_by o code seen t).thread) (option_map (before_of seen t held) o)
due_reads None code a t held seen run = refl
due_reads (Some s) code a t held seen run = by_fault (fault_of (view_of seen t) s) a t held seen s run

state_reads : (st : ThreadState) (code : List (Option Instr)) (a : ℕ) (t : Thread) (held : Option Letter) (seen : Sight) → t.state ≡ st →
    dispatch_deed (due_by st code t) a t held seen (step_by (due_by st code t) code seen t).op ≡ option_and_then (λ b. deed_read a b (step_by (due_by st code t) code seen t).thread) (option_map (before_of seen t held) (due_by st code t))
state_reads state.Run code a t held seen e = due_reads (due_at (slice_get code (t.pc / 4)) t) code a t held seen e
state_reads (state.Wait waits) code a t held seen e = refl
state_reads (state.Idle vote) code a t held seen e = refl
state_reads (state.Answered value) code a t held seen e = refl
state_reads (state.Dead value) code a t held seen e = refl
state_reads (state.Trapped why) code a t held seen e = refl

pub step_is_read : (a k : ℕ) (v : TileView) → step_deed a k v ≡ option_and_then (λ b. deed_read a b (step_at_place v.plan.code k v.now).thread) (before_at k v)
step_is_read a k v = let t = thread_at v.now k in state_reads t.state v.plan.code a t (held_in v k t.hand) (sight_at v.now k) refl

-- ---- the thread after its step

acted_threads : (k : ℕ) (t : Thread) (o : Op) (s : TileState) → (tile_acted k t o s).threads ≡ s.threads
acted_threads k t op.None s = refl
acted_threads k t (op.Send to bytes) s = refl
acted_threads k t op.Hand s = refl
acted_threads k t (op.Free slot) s = refl
acted_threads k t (op.Idle vote) s = refl
acted_threads k t (op.Kill value) s = refl
acted_threads k t (op.Trap why) s = refl

pub thread_there : (fuel k : ℕ) (s : TileState) → can_step fuel k s ≡ true → k < length s.threads
thread_there fuel k s can = elim (cases_lt k (length s.threads)) [
  | inl within ↦ within
  | inr past ↦
      let runs : runnable (sight_at s k) (thread_at s k).state ≡ true = (and_parts _ _ can).0 in
      let none : thread_at s k ≡ no_thread = get_or_past s.threads k no_thread past in
      let clash : true ≡ false = sym runs ∙ ap (λ (t : Thread). runnable (sight_at s k) t.state) none in
      cc clash
]

pub thread_after : (k : ℕ) (v : TileView) → can_step v.plan.shape.fuel k v.now ≡ true → thread_at (after_step k v).now k ≡ (step_at_place v.plan.code k v.now).thread
thread_after k v can =
    let made = step_at_place v.plan.code k v.now in
    ap (λ (ts : List Thread). get_or ts k no_thread) (acted_threads k (thread_at v.now k) made.op (with_thread k made.thread v.now))
    ∙ get_or-set_same v.now.threads k made.thread no_thread (thread_there v.plan.shape.fuel k v.now can)
