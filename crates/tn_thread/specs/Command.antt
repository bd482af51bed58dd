-- The thread's side of one dispatch of the firmware of a graph job: each command does what the control register for it
-- does, but that the thread stays at the firmware's address and no register is written.
use Rattle.std.specs.Prelude.{ℕ, ◌≡◌, ◌+◌, ◌*◌, ◌%◌, ◌^◌, List, take, Option, Some, None, is_some, if◌then◌else◌}
use Rattle.tn_base.specs.declared.event.Trap.TheVariants as trap
use Rattle.tn_base.specs.declared.message.Dest.{Dest}
use Rattle.tn_base.specs.declared.message.Dest.TheVariants as dest
use Rattle.tn_base.specs.declared.op.Op.{Op}
use Rattle.tn_base.specs.declared.op.Op.TheVariants as op
use Rattle.tn_thread.specs.declared.command.Command.{Command}
use Rattle.tn_thread.specs.declared.command.Command.TheVariants as command
use Rattle.tn_thread.specs.declared.state.ThreadState.TheVariants as state
use Rattle.tn_thread.specs.declared.thread.Thread.{Thread}
use Rattle.tn_thread.specs.Sight.{Sight}
use Rattle.tn_thread.specs.Step.{Stepped, trapped}

-- a handler is entered only where instructions stand
abbrev pub FitsCommand : Command → Type 0
FitsCommand (command.Enter entry regs) = entry % 4 ≡ 0
FitsCommand command.Recv = Unit {0}
FitsCommand (command.KeySend key) = Unit {0}
FitsCommand command.HostSend = Unit {0}
FitsCommand (command.Free slot) = Unit {0}
FitsCommand (command.Wait waits) = Unit {0}
FitsCommand (command.Idle vote) = Unit {0}
FitsCommand command.Kill = Unit {0}
FitsCommand (command.Trap why) = Unit {0}

-- the step counts, and the thread stays at its address
abbrev pub stays : Thread → Op → Stepped
stays t asked = record { thread = record t { steps = t.steps + 1; given = 0 }; op = asked }

abbrev pub entered : ℕ → List ℕ → Thread → Stepped
entered entry regs t = record { thread = record t { pc = entry; regs = regs; steps = t.steps + 1; given = 0 }; op = op.None }

-- the first letter of the queue is taken, and its slot is the one in hand
abbrev pub handed : Option ℕ → Thread → Stepped
handed None t = trapped trap.RecvEmpty t
handed (Some slot) t = stays (record t { hand = slot }) op.Hand

-- the message in the send slot is sent to the host or by a key
abbrev pub sent_off : Dest → Sight → Thread → Stepped
sent_off to seen t =
    if seen.can_send
    then stays (record t { sends = (t.sends + 1) % 2 ^ 32 }) (op.Send to (take (16 * (t.out.last + 1)) t.out.bytes))
    else trapped trap.SendBusy t

-- a send by the key of a pin; a pin without edges has none
abbrev pub sent_by : Option ℕ → Sight → Thread → Stepped
sent_by None seen t = stays t op.None
sent_by (Some key) seen t = sent_off (dest.Key key) seen t

-- a slot is given up, if the thread holds it
abbrev pub given_up : ℕ → Sight → Thread → Stepped
given_up slot seen t = if is_some (seen.held slot) then stays t (op.Free slot) else trapped trap.BadFree t

abbrev pub commanded : Command → Sight → Thread → Stepped
commanded (command.Enter entry regs) seen t = entered entry regs t
commanded command.Recv seen t = handed seen.first t
commanded (command.KeySend key) seen t = sent_by key seen t
commanded command.HostSend seen t = sent_off dest.Host seen t
commanded (command.Free slot) seen t = given_up slot seen t
commanded (command.Wait waits) seen t = stays (record t { state = state.Wait (record { 0 = waits % 4 }) }) op.None
commanded (command.Idle vote) seen t = stays (record t { state = state.Idle vote; answer_to = 0 }) (op.Idle vote)
commanded command.Kill seen t = stays (record t { state = state.Dead 0 }) (op.Kill 0)
commanded (command.Trap why) seen t = trapped why t
