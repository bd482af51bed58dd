-- What a step of a thread of a graph's job sends.
use Rattle.std.proofs.Common.{ℕ, ◌≡◌, ◌==◌, ◌/◌, Bool, true, false, cond, refl, sym, ap, ◌∙◌, subst, List, Option, Some, None, is_some, slice_get}
use Rattle.polite_switch.specs.declared.action.Action.{Action}
use Rattle.polite_switch.specs.declared.action.Action.TheVariants as action
use Rattle.polite_switch.specs.declared.action.SwitchView.{SwitchView}
use Rattle.polite_switch.specs.declared.course.Call.{Call}
use Rattle.polite_switch.specs.declared.row.Row.{Row}
use Rattle.polite_switch.specs.declared.row.Row.TheVariants as row
use Rattle.polite_switch.specs.Device.{device_at, key_at}
use Rattle.polite_switch.specs.DeviceModel.{DeviceModel}
use Rattle.polite_switch.specs.SwitchModel.{SwitchModel}
use Rattle.polite_switch.specs.Table.{dispatched, done, fault_of, row_of, sent_key, taken, unless_fault}
use Rattle.rv_isa.specs.declared.instr.Instr.{Instr}
use Rattle.tn_base.specs.declared.event.Trap.{Trap}
use Rattle.tn_base.specs.declared.message.Dest.{Dest}
use Rattle.tn_base.specs.declared.message.Dest.TheVariants as dest
use Rattle.tn_base.specs.declared.op.Op.{Op}
use Rattle.tn_base.specs.declared.op.Op.TheVariants as op
use Rattle.tn_thread.specs.declared.state.ThreadState.{ThreadState}
use Rattle.tn_thread.specs.declared.state.ThreadState.TheVariants as state
use Rattle.tn_thread.specs.declared.thread.Thread.{Thread}
use Rattle.tn_thread.specs.Command.{handed, sent_by, sent_off}
use Rattle.tn_thread.specs.Dispatch.{dispatch, does, view_of}
use Rattle.tn_thread.specs.Sight.{Sight}
use Rattle.tn_thread.specs.Step.{Stepped, runnable}
use Rattle.tn_tile.specs.Handlers.{IsPrivate, LeavesSwitch}
use Rattle.tn_tile.specs.Step.{due_at, due_by, next_step, step_by}
use Rattle.tn_tile.proofs.Handlers.{handlers_private}
use Rattle.tn_tile.proofs.Moved.{next_fits}
use Rattle.polite_flow.specs.Sending.{KeysAre, SwitchSends, ThreadSends}

-- ---- the softswitch

abbrev KeySends : (ℕ → Type 0) → Option ℕ → Type 0
KeySends P None = Unit {0}
KeySends P (Some key) = P key

-- an action sends by a key of which P holds, if it sends by a key
abbrev ActionSends : (ℕ → Type 0) → Action → Type 0
ActionSends P (action.Handler entry state message value vertex ready) = Unit {0}
ActionSends P action.Recv = Unit {0}
ActionSends P (action.KeySend key) = KeySends P key
ActionSends P action.HostSend = Unit {0}
ActionSends P action.Free = Unit {0}
ActionSends P (action.Wait waits) = Unit {0}
ActionSends P (action.Idle vote) = Unit {0}
ActionSends P action.Kill = Unit {0}
ActionSends P (action.Trap why) = Unit {0}

key_sends : (P : ℕ → Type 0) (o : Option ℕ) → ((key : ℕ) → o ≡ Some key → P key) → KeySends P o
key_sends P None f = tt
key_sends P (Some key) f = f key refl

call_sends : (P : ℕ → Type 0) (devices : List DeviceModel) (o : Option Call) → KeysAre P devices → KeySends P (sent_key devices o)
call_sends P devices None keys = tt
call_sends P devices (Some call) keys = key_sends P (key_at (device_at devices call.device) call.pin) (keys call.device call.pin)

row_sends : (P : ℕ → Type 0) (r : Row) (v : SwitchView) (s : SwitchModel) → KeysAre P s.devices → ActionSends P (done r v s).action
row_sends P row.KeySend v s keys = call_sends P s.devices s.course.call keys
row_sends P row.HostSend v s keys = tt
row_sends P row.HostWait v s keys = tt
row_sends P row.Init v s keys = tt
row_sends P row.Recv v s keys = tt
row_sends P row.Free v s keys = tt
row_sends P row.Step v s keys = tt
row_sends P row.Finish v s keys = tt
row_sends P row.Kill v s keys = tt
row_sends P row.Take v s keys = tt
row_sends P row.Send v s keys = tt
row_sends P row.Wait v s keys = tt
row_sends P row.Idle v s keys = tt

dispatch_sends : (P : ℕ → Type 0) (o : Option Trap) (v : SwitchView) (s : SwitchModel) → KeysAre P s.devices → ActionSends P (unless_fault o v s).action
dispatch_sends P None v s keys = row_sends P (row_of v (taken v s)) v (taken v s) keys
dispatch_sends P (Some why) v s keys = tt

devices_stay : (o : Option Trap) (v : SwitchView) (s : SwitchModel) → (unless_fault o v s).switch.devices ≡ s.devices
devices_stay None v s = refl
devices_stay (Some why) v s = refl

-- ---- the thread

-- a thread asks to send to the host, or by a key of which P holds, if it asks to send
abbrev DestSends : (ℕ → Type 0) → Dest → Type 0
DestSends P (dest.Thread t) = ⊥
DestSends P dest.Host = Unit {0}
DestSends P (dest.Mask tile mask) = ⊥
DestSends P (dest.Key key) = P key

abbrev pub OpSends : (ℕ → Type 0) → Op → Type 0
OpSends P op.None = Unit {0}
OpSends P (op.Send to bytes) = DestSends P to
OpSends P op.Hand = Unit {0}
OpSends P (op.Free slot) = Unit {0}
OpSends P (op.Idle vote) = Unit {0}
OpSends P (op.Kill value) = Unit {0}
OpSends P (op.Trap why) = Unit {0}

private_sends : (P : ℕ → Type 0) (o : Op) → IsPrivate o → OpSends P o
private_sends P op.None p = tt
private_sends P (op.Send to bytes) p = absurd p
private_sends P op.Hand p = tt
private_sends P (op.Free slot) p = tt
private_sends P (op.Idle vote) p = tt
private_sends P (op.Kill value) p = tt
private_sends P (op.Trap why) p = tt

-- a step asks so, and leaves this softswitch
record Sends (P : ℕ → Type 0) (x : Option SwitchModel) (r : Stepped) : Type 0 where
  asks : OpSends P r.op
  switch : r.thread.switch ≡ x

either_sends : (P : ℕ → Type 0) (x : Option SwitchModel) (b : Bool) (r q : Stepped) → Sends P x r → Sends P x q → Sends P x (cond b r q)
either_sends P x true r q f g = f
either_sends P x false r q f g = g

hand_sends : (P : ℕ → Type 0) (o : Option ℕ) (t : Thread) → Sends P t.switch (handed o t)
hand_sends P None t = record { asks = tt; switch = refl }
hand_sends P (Some slot) t = record { asks = tt; switch = refl }

off_sends : (P : ℕ → Type 0) (to : Dest) (seen : Sight) (t : Thread) → DestSends P to → Sends P t.switch (sent_off to seen t)
off_sends P to seen t f = either_sends P t.switch seen.can_send _ _ (record { asks = f; switch = refl }) (record { asks = tt; switch = refl })

by_sends : (P : ℕ → Type 0) (key : Option ℕ) (seen : Sight) (t : Thread) → KeySends P key → Sends P t.switch (sent_by key seen t)
by_sends P None seen t f = record { asks = tt; switch = refl }
by_sends P (Some key) seen t f = off_sends P (dest.Key key) seen t f

does_sends : (P : ℕ → Type 0) (a : Action) (seen : Sight) (t : Thread) → ActionSends P a → Sends P t.switch (does a seen t)
does_sends P (action.Handler entry state message value vertex ready) seen t f = record { asks = tt; switch = refl }
does_sends P action.Recv seen t f = hand_sends P seen.first t
does_sends P (action.KeySend key) seen t f = by_sends P key seen t f
does_sends P action.HostSend seen t f = off_sends P dest.Host seen t tt
does_sends P action.Free seen t f = either_sends P t.switch (is_some (seen.held t.hand)) _ _ (record { asks = tt; switch = refl }) (record { asks = tt; switch = refl })
does_sends P (action.Wait waits) seen t f = record { asks = tt; switch = refl }
does_sends P (action.Idle vote) seen t f = record { asks = tt; switch = refl }
does_sends P action.Kill seen t f = record { asks = tt; switch = refl }
does_sends P (action.Trap why) seen t f = record { asks = tt; switch = refl }

-- ---- a step

-- a softswitch that is due is the thread's
own_at : (b : Bool) (x : Option SwitchModel) (s : SwitchModel) → cond b x None ≡ Some s → x ≡ Some s
own_at true x s e = e
own_at false x s e = absurd cc

own_due : (word : Option (Option Instr)) (t : Thread) (s : SwitchModel) → due_at word t ≡ Some s → t.switch ≡ Some s
own_due None t s e = own_at (t.pc == 0xFFFFFFF0) t.switch s e
own_due (Some word) t s e = absurd cc

own_by : (st : ThreadState) (code : List (Option Instr)) (t : Thread) (s : SwitchModel) → due_by st code t ≡ Some s → t.switch ≡ Some s
own_by state.Run code t s e = own_due (slice_get code (t.pc / 4)) t s e
own_by (state.Wait waits) code t s e = absurd cc
own_by (state.Idle vote) code t s e = absurd cc
own_by (state.Answered value) code t s e = absurd cc
own_by (state.Dead value) code t s e = absurd cc
own_by (state.Trapped why) code t s e = absurd cc

-- a step of such a sender asks to send so, and leaves such a sender
pub record StepSends (P : ℕ → Type 0) (r : Stepped) : Type 0 where
  pub asks : OpSends P r.op
  pub thread : ThreadSends P r.thread

pub next_sends : (P : ℕ → Type 0) (code : List (Option Instr)) (seen : Sight) (t : Thread) → runnable seen t.state ≡ true → ThreadSends P t → StepSends P (next_step code seen t)
next_sends P code seen t runs f = by (due_by t.state code t) refl where
  firmware : (next_step code seen t).thread.firmware ≡ true
  firmware = (next_fits code seen t runs).keeps.firmware ∙ f.firmware

  by : (o : Option SwitchModel) → due_by t.state code t ≡ o → StepSends P (next_step code seen t)
  by None e =
      let l : LeavesSwitch t (next_step code seen t) = handlers_private code seen t f.firmware e in
      record { asks = private_sends P (next_step code seen t).op l.asks; thread = record { firmware = firmware; keys = subst (SwitchSends P) (sym l.switch) f.keys } }
  by (Some s) e =
      let same : next_step code seen t ≡ dispatch s seen t = ap (λ o. step_by o code seen t) e in
      let keys : KeysAre P s.devices = subst (SwitchSends P) (own_by t.state code t s e) f.keys in
      let v : SwitchView = view_of seen t in
      let d = dispatched v s in
      let r = does_sends P d.action seen (record t { switch = Some d.switch }) (dispatch_sends P (fault_of v s) v s keys) in
      let kept : KeysAre P d.switch.devices = subst (KeysAre P) (sym (devices_stay (fault_of v s) v s)) keys in
      record {
        asks = subst (λ (q : Stepped). OpSends P q.op) (sym same) r.asks;
        thread = record { firmware = firmware; keys = subst (λ (q : Stepped). SwitchSends P q.thread.switch) (sym same) (subst (SwitchSends P) (sym r.switch) kept) };
      }
