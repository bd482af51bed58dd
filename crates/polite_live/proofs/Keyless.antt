-- A thread whose softswitch has no send by a key to make sends by no key.
use Rattle.std.proofs.Common.{ℕ, ◌≡◌, ◌==◌, ◌/◌, Bool, true, false, cond, refl, sym, ap, subst, List, Option, Some, None, is_some, slice_get}
use Rattle.polite_switch.specs.declared.action.Action.{Action}
use Rattle.polite_switch.specs.declared.action.Action.TheVariants as action
use Rattle.polite_switch.specs.declared.action.SwitchView.{SwitchView}
use Rattle.polite_switch.specs.declared.course.Call.{Call}
use Rattle.polite_switch.specs.declared.course.Course.{Course}
use Rattle.polite_switch.specs.declared.course.Due.{Due}
use Rattle.polite_switch.specs.declared.course.Due.TheVariants as due
use Rattle.polite_switch.specs.declared.course.Entry.{Entry}
use Rattle.polite_switch.specs.declared.course.Entry.TheVariants as entry
use Rattle.polite_switch.specs.declared.row.Row.{Row}
use Rattle.polite_switch.specs.declared.row.Row.TheVariants as row
use Rattle.polite_switch.specs.Course.{back_of, due_after, due_by as due_of, taken_course}
use Rattle.polite_switch.specs.Kept.{RowHolds}
use Rattle.polite_switch.specs.SwitchModel.{SwitchModel}
use Rattle.polite_switch.specs.Table.{dispatched, done, fault_of, is_pin, row_of, taken, unless_fault}
use Rattle.polite_switch.proofs.Rows.{row_holds}
use Rattle.rv_isa.specs.declared.instr.Instr.{Instr}
use Rattle.tn_base.specs.declared.event.Trap.{Trap}
use Rattle.tn_base.specs.declared.message.Dest.{Dest}
use Rattle.tn_base.specs.declared.message.Dest.TheVariants as dest
use Rattle.tn_base.specs.declared.op.Op.{Op}
use Rattle.tn_base.specs.declared.op.Op.TheVariants as op
use Rattle.tn_thread.specs.declared.state.ThreadState.{ThreadState}
use Rattle.tn_thread.specs.declared.state.ThreadState.TheVariants as state
use Rattle.tn_thread.specs.declared.thread.Thread.{Thread}
use Rattle.tn_thread.specs.Command.{handed}
use Rattle.tn_thread.specs.Dispatch.{dispatch, does, view_of}
use Rattle.tn_thread.specs.Sight.{Sight}
use Rattle.tn_thread.specs.Step.{Stepped}
use Rattle.tn_tile.specs.Handlers.{IsPrivate, LeavesSwitch}
use Rattle.tn_tile.specs.Step.{due_at, due_by, next_step, step_by}
use Rattle.tn_tile.proofs.Handlers.{handlers_private}
use Rattle.polite_edges.proofs.Late.{Silent, is_send, is_sending}

-- ---- what a thread asks for

abbrev pub IsToHost : Dest → Type 0
IsToHost (dest.Thread t) = ⊥
IsToHost dest.Host = Unit {0}
IsToHost (dest.Mask tile mask) = ⊥
IsToHost (dest.Key key) = ⊥

-- if it asks to send, it sends to the host
abbrev pub IsKeyless : Op → Type 0
IsKeyless op.None = Unit {0}
IsKeyless (op.Send to bytes) = IsToHost to
IsKeyless op.Hand = Unit {0}
IsKeyless (op.Free slot) = Unit {0}
IsKeyless (op.Idle vote) = Unit {0}
IsKeyless (op.Kill value) = Unit {0}
IsKeyless (op.Trap why) = Unit {0}

private_keyless : (o : Op) → IsPrivate o → IsKeyless o
private_keyless op.None p = tt
private_keyless (op.Send to bytes) p = absurd p
private_keyless op.Hand p = tt
private_keyless (op.Free slot) p = tt
private_keyless (op.Idle vote) p = tt
private_keyless (op.Kill value) p = tt
private_keyless (op.Trap why) p = tt

-- ---- a dispatch

abbrev HasNoKey : Action → Type 0
HasNoKey (action.Handler entry state message value vertex ready) = Unit {0}
HasNoKey action.Recv = Unit {0}
HasNoKey (action.KeySend key) = ⊥
HasNoKey action.HostSend = Unit {0}
HasNoKey action.Free = Unit {0}
HasNoKey (action.Wait waits) = Unit {0}
HasNoKey (action.Idle vote) = Unit {0}
HasNoKey action.Kill = Unit {0}
HasNoKey (action.Trap why) = Unit {0}

no_pin : (x : Due) → x ≡ due.Pin → is_pin x ≡ false → ⊥
no_pin x e h = let y = ap is_pin e in absurd cc

row_keyless : (r : Row) (v : SwitchView) (s : SwitchModel) → RowHolds r v s → is_pin s.course.due ≡ false → HasNoKey (done r v s).action
row_keyless row.KeySend v s h p = absurd (no_pin s.course.due h p)
row_keyless row.HostSend v s h p = tt
row_keyless row.HostWait v s h p = tt
row_keyless row.Init v s h p = tt
row_keyless row.Recv v s h p = tt
row_keyless row.Free v s h p = tt
row_keyless row.Step v s h p = tt
row_keyless row.Finish v s h p = tt
row_keyless row.Kill v s h p = tt
row_keyless row.Take v s h p = tt
row_keyless row.Send v s h p = tt
row_keyless row.Wait v s h p = tt
row_keyless row.Idle v s h p = tt

fault_keyless : (o : Option Trap) (v : SwitchView) (s : SwitchModel) → is_pin (taken v s).course.due ≡ false → HasNoKey (unless_fault o v s).action
fault_keyless None v s p = row_keyless (row_of v (taken v s)) v (taken v s) (row_holds v (taken v s)) p
fault_keyless (Some why) v s p = tt

either_keyless : (b : Bool) (r q : Stepped) → IsKeyless r.op → IsKeyless q.op → IsKeyless (let x : Stepped = cond b r q in x).op
either_keyless true r q f g = f
either_keyless false r q f g = g

hand_keyless : (o : Option ℕ) (t : Thread) → IsKeyless (handed o t).op
hand_keyless None t = tt
hand_keyless (Some slot) t = tt

does_keyless : (a : Action) (seen : Sight) (t : Thread) → HasNoKey a → IsKeyless (does a seen t).op
does_keyless (action.Handler entry state message value vertex ready) seen t f = tt
does_keyless action.Recv seen t f = hand_keyless seen.first t
does_keyless (action.KeySend key) seen t f = absurd f
does_keyless action.HostSend seen t f = either_keyless seen.can_send _ _ tt tt
does_keyless action.Free seen t f = either_keyless (is_some (seen.held t.hand)) _ _ tt tt
does_keyless (action.Wait waits) seen t f = tt
does_keyless (action.Idle vote) seen t f = tt
does_keyless action.Kill seen t f = tt
does_keyless (action.Trap why) seen t f = tt

-- what was returned is taken: no send by a key is due then
due_either : (b : Bool) (x y : Due) → is_pin x ≡ false → is_pin y ≡ false → is_pin (cond b x y) ≡ false
due_either true x y h k = h
due_either false x y h k = k

by_entry : (e : Entry) (a0 : ℕ) → is_send e ≡ false → is_pin (due_of e a0) ≡ false
by_entry entry.Init a0 h = refl
by_entry entry.Send a0 h = absurd cc
by_entry entry.Recv a0 h = refl
by_entry entry.Step a0 h = refl
by_entry entry.Finish a0 h = due_either _ due.Nothing due.Host refl refl

by_call : (call : Option Call) (v : SwitchView) (now : Due) → is_pin now ≡ false → is_sending call ≡ false → is_pin (due_after call v now) ≡ false
by_call None v now h k = h
by_call (Some call) v now h k = by_entry call.entry v.a0 k

silent_taken : (v : SwitchView) (c : Course) → Silent c → is_pin (taken_course v c).due ≡ false
silent_taken v c s = by_call (back_of c) v c.due s.due s.call

dispatch_keyless : (s : SwitchModel) (seen : Sight) (t : Thread) → Silent s.course → IsKeyless (dispatch s seen t).op
dispatch_keyless s seen t silent =
    let v = view_of seen t in
    does_keyless (dispatched v s).action seen (record t { switch = Some (dispatched v s).switch }) (fault_keyless (fault_of v s) v s (silent_taken v s.course silent))

-- ---- a step

-- a softswitch that is due is the thread's
own_at : (b : Bool) (x : Option SwitchModel) (s : SwitchModel) → cond b x None ≡ Some s → x ≡ Some s
own_at true x s e = e
own_at false x s e = absurd cc

own_due : (word : Option (Option Instr)) (t : Thread) (s : SwitchModel) → due_at word t ≡ Some s → t.switch ≡ Some s
own_due None t s e = own_at (t.pc == 0xFFFFFFF0) t.switch s e
own_due (Some word) t s e = absurd cc

own_by : (st : ThreadState) (code : List (Option Instr)) (t : Thread) (s : SwitchModel) → due_by st code t ≡ Some s → (st ≡ state.Run) × (t.switch ≡ Some s)
own_by state.Run code t s e = (refl, own_due (slice_get code (t.pc / 4)) t s e)
own_by (state.Wait waits) code t s e = absurd cc
own_by (state.Idle vote) code t s e = absurd cc
own_by (state.Answered value) code t s e = absurd cc
own_by (state.Dead value) code t s e = absurd cc
own_by (state.Trapped why) code t s e = absurd cc

-- a step of a thread with firmware sends by no key, if its softswitch is silent where the thread runs
pub next_keyless : (code : List (Option Instr)) (seen : Sight) (t : Thread) → t.firmware ≡ true → ((s : SwitchModel) → t.state ≡ state.Run → t.switch ≡ Some s → Silent s.course) → IsKeyless (next_step code seen t).op
next_keyless code seen t f silent = by (due_by t.state code t) refl where
  by : (o : Option SwitchModel) → due_by t.state code t ≡ o → IsKeyless (next_step code seen t).op
  by None e =
      let l : LeavesSwitch t (next_step code seen t) = handlers_private code seen t f e in
      private_keyless (next_step code seen t).op l.asks
  by (Some s) e =
      let same : next_step code seen t ≡ dispatch s seen t = ap (λ o. step_by o code seen t) e in
      let own = own_by t.state code t s e in
      subst (λ (r : Stepped). IsKeyless r.op) (sym same) (dispatch_keyless s seen t (silent s own.0 own.1))
