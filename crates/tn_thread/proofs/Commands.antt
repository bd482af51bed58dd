-- Each command keeps what a step must, and asks only for what it may; and so does each dispatch of a softswitch.
use Rattle.std.proofs.Common.{ℕ, ◌≡◌, ◌+◌, ◌*◌, ◌∙◌, Bool, true, false, cond, IsTrue, IfSome, refl, arith, Option, Some, None, is_some, option_map}
use Rattle.std.proofs.lemmas.Bool.{cond_both}
use Rattle.std.proofs.lemmas.List.{length-take}
use Rattle.polite_switch.specs.declared.action.Action.{Action}
use Rattle.polite_switch.specs.SwitchModel.{SwitchModel}
use Rattle.polite_switch.specs.Table.{Dispatched, dispatched}
use Rattle.tn_base.specs.Message.{has_dest}
use Rattle.tn_base.specs.declared.op.Op.{Op}
use Rattle.tn_base.specs.declared.op.Op.TheVariants as op
use Rattle.tn_base.specs.declared.event.Trap.TheVariants as trap
use Rattle.tn_base.specs.declared.message.Dest.{Dest}
use Rattle.tn_base.specs.declared.message.Dest.TheVariants as dest
use Rattle.tn_thread.specs.declared.command.Command.{Command}
use Rattle.tn_thread.specs.declared.command.Command.TheVariants as command
use Rattle.tn_thread.specs.declared.thread.Thread.{Thread}
use Rattle.tn_thread.specs.Command.{commanded, given_up, handed, sent_by, sent_off}
use Rattle.tn_thread.specs.Dispatch.{command_of, dispatch, does, view_of}
use Rattle.tn_thread.specs.Fits.{OpFits, StepFits}
use Rattle.tn_thread.specs.Sight.{Sight}
use Rattle.tn_thread.specs.Step.{Stepped}
use Rattle.tn_thread.proofs.Fits.{trapped_fits}

hand_fits : (first : Option ℕ) (seen : Sight) (t : Thread) → seen.first ≡ first → StepFits seen t (handed first t)
hand_fits None seen t e = trapped_fits seen t trap.RecvEmpty
hand_fits (Some slot) seen t e = record { keeps = record { id = refl; shape = refl; firmware = refl; mem = refl; out = refl }; steps = refl; pages = omega arith; op = rw e refl }

off_fits : (to : Dest) (seen : Sight) (t : Thread) → IsTrue (has_dest t.shape to) → StepFits seen t (sent_off to seen t)
off_fits to seen t there =
    cond_both seen.can_send _ _ (λ s. StepFits seen t s)
    (λ e. record {
      keeps = record { id = refl; shape = refl; firmware = refl; mem = refl; out = refl };
      steps = refl;
      pages = omega arith;
      op = (e, there, omega (arith, length-take (16 * (t.out.last + 1)) t.out.bytes));
    })
    (λ e. trapped_fits seen t trap.SendBusy)

by_fits : (key : Option ℕ) (seen : Sight) (t : Thread) → StepFits seen t (sent_by key seen t)
by_fits None seen t = record { keeps = record { id = refl; shape = refl; firmware = refl; mem = refl; out = refl }; steps = refl; pages = omega arith; op = tt }
by_fits (Some key) seen t = off_fits (dest.Key key) seen t refl

up_fits : (slot : ℕ) (seen : Sight) (t : Thread) → StepFits seen t (given_up slot seen t)
up_fits slot seen t =
    cond_both (is_some (seen.held slot)) _ _ (λ s. StepFits seen t s)
    (λ e. record { keeps = record { id = refl; shape = refl; firmware = refl; mem = refl; out = refl }; steps = refl; pages = omega arith; op = e })
    (λ e. trapped_fits seen t trap.BadFree)

pub command_fits : (c : Command) (seen : Sight) (t : Thread) → StepFits seen t (commanded c seen t)
command_fits (command.Enter entry regs) seen t = record { keeps = record { id = refl; shape = refl; firmware = refl; mem = refl; out = refl }; steps = refl; pages = omega arith; op = tt }
command_fits command.Recv seen t = hand_fits seen.first seen t refl
command_fits (command.KeySend key) seen t = by_fits key seen t
command_fits command.HostSend seen t = off_fits dest.Host seen t refl
command_fits (command.Free slot) seen t = up_fits slot seen t
command_fits (command.Wait waits) seen t = record { keeps = record { id = refl; shape = refl; firmware = refl; mem = refl; out = refl }; steps = refl; pages = omega arith; op = tt }
command_fits (command.Idle vote) seen t = record { keeps = record { id = refl; shape = refl; firmware = refl; mem = refl; out = refl }; steps = refl; pages = omega arith; op = refl }
command_fits command.Kill seen t = record { keeps = record { id = refl; shape = refl; firmware = refl; mem = refl; out = refl }; steps = refl; pages = omega arith; op = refl }
command_fits (command.Trap why) seen t = trapped_fits seen t why

-- a step asks for what fits, also where the thread had another softswitch before
op_kept : (seen : Sight) (t new : Thread) (switch : Option SwitchModel) (o : Op) → OpFits seen (record t { switch = switch }) new o → OpFits seen t new o
op_kept seen t new switch op.None f = f
op_kept seen t new switch (op.Send to bytes) f = f
op_kept seen t new switch op.Hand f = f
op_kept seen t new switch (op.Free slot) f = f
op_kept seen t new switch (op.Idle vote) f = f
op_kept seen t new switch (op.Kill value) f = f
op_kept seen t new switch (op.Trap why) f = f

pub dispatch_fits : (s : SwitchModel) (seen : Sight) (t : Thread) → StepFits seen t (dispatch s seen t)
dispatch_fits s seen t =
    let d : Dispatched = dispatched (view_of seen t) s in
    let u : Thread = record t { switch = Some d.switch } in
    let r : Stepped = dispatch s seen t in
    let f : StepFits seen u r = command_fits (command_of d.action u) seen u in
    let k = f.keeps in
    record { keeps = record { id = k.id; shape = k.shape; firmware = k.firmware; mem = k.mem; out = k.out }; steps = f.steps; pages = f.pages; op = op_kept seen t r.thread (Some d.switch) r.op f.op }

some_of : {A : Type 0} (x y : A) → Some x ≡ Some y → x ≡ y
some_of x y e = cc e

-- a dispatch: the softswitch was asked, and the thread did what it answered
pub dispatch_is : (b : Bool) (o new : Option SwitchModel) (asked : Action) (seen : Sight) (t : Thread) (r : Stepped) → new ≡ option_map (λ (s : SwitchModel). (dispatched (view_of seen t) s).switch) o
    → Some asked ≡ option_map (λ (s : SwitchModel). (dispatched (view_of seen t) s).action) o → r ≡ does asked seen (record t { switch = new }) → IfSome (cond b o None) (λ (s : SwitchModel). r ≡ dispatch s seen t)
dispatch_is true None new asked seen t r e f g = tt
dispatch_is true (Some s) new asked seen t r e f g =
    let a : asked ≡ (dispatched (view_of seen t) s).action = some_of asked (dispatched (view_of seen t) s).action f in
    g ∙ (λ k. does (a k) seen (record t { switch = e k }))
dispatch_is false o new asked seen t r e f g = tt

-- and so it fits
pub dispatched_fits : (b : Bool) (o : Option SwitchModel) (seen : Sight) (t : Thread) (r : Stepped) → is_some (cond b o None) ≡ true → IfSome (cond b o None) (λ (s : SwitchModel). r ≡ dispatch s seen t) → StepFits seen t r
dispatched_fits true None seen t r some e = cc some
dispatched_fits true (Some s) seen t r some e = rw e (dispatch_fits s seen t)
dispatched_fits false o seen t r some e = cc some
