-- One dispatch of the softswitch of a graph job's thread: what the softswitch sees of the thread, and what its action has the
-- thread do.
use Rattle.std.specs.Prelude.{ℕ, ◌==◌, List, replicate, slice_index, Option, Some, None, is_some, if◌then◌else◌}
use Rattle.polite_switch.specs.declared.action.Action.{Action}
use Rattle.polite_switch.specs.declared.action.Action.TheVariants as action
use Rattle.polite_switch.specs.declared.action.Msg.{Msg}
use Rattle.polite_switch.specs.declared.action.Msg.TheVariants as message
use Rattle.polite_switch.specs.declared.action.SwitchView.{SwitchView}
use Rattle.polite_switch.specs.SwitchModel.{SwitchModel}
use Rattle.polite_switch.specs.Table.{dispatched}
use Rattle.tn_base.specs.Regs.{set_reg}
use Rattle.tn_thread.specs.declared.command.Command.{Command}
use Rattle.tn_thread.specs.declared.command.Command.TheVariants as command
use Rattle.tn_thread.specs.declared.thread.Thread.{Thread}
use Rattle.tn_thread.specs.Command.{commanded}
use Rattle.tn_thread.specs.Sight.{Sight}
use Rattle.tn_thread.specs.Step.{Stepped, given_by, slot_address}

-- the softswitch of a thread that is at the firmware's address
abbrev pub at_firmware : Thread → Option SwitchModel
at_firmware t = if t.pc == 0xFFFFFFF0 then t.switch else None

-- what the softswitch sees: what the thread sees, what its idle was answered, and its registers a0 and a1
abbrev pub view_of : Sight → Thread → SwitchView
view_of seen t = record {
  can_send = seen.can_send;
  can_recv = is_some seen.first;
  key = seen.key;
  answer = given_by t.state t.given;
  a0 = slice_index t.regs 10;
  a1 = slice_index t.regs 11;
}

-- the address of the message that a handler is given: that of the send slot, or that of the slot in hand
abbrev pub message_address : Msg → Thread → ℕ
message_address message.None t = 0
message_address message.SendSlot t = 0x50000000
message_address message.Received t = slot_address t t.hand

-- the registers at a handler's entry: all are zero but ra, sp and a0 to a4
abbrev pub entry_regs : ℕ → ℕ → ℕ → ℕ → ℕ → ℕ → List ℕ
entry_regs sp a0 a1 a2 a3 a4 =
    let called = set_reg (set_reg (replicate 32 0) 1 0xFFFFFFF0) 2 sp in
    set_reg (set_reg (set_reg (set_reg (set_reg called 10 a0) 11 a1) 12 a2) 13 a3) 14 a4

-- what an action has the thread do: a handler's stack begins at the end of private memory, and the slot in hand is freed
abbrev pub command_of : Action → Thread → Command
command_of (action.Handler entry state message value vertex ready) t =
    command.Enter entry (entry_regs t.shape.mem state (message_address message t) value vertex ready)
command_of action.Recv t = command.Recv
command_of (action.KeySend key) t = command.KeySend key
command_of action.HostSend t = command.HostSend
command_of action.Free t = command.Free t.hand
command_of (action.Wait waits) t = command.Wait waits
command_of (action.Idle vote) t = command.Idle vote
command_of action.Kill t = command.Kill
command_of (action.Trap why) t = command.Trap why

-- the thread does what an action says
abbrev pub does : Action → Sight → Thread → Stepped
does asked seen t = commanded (command_of asked t) seen t

-- one dispatch of this softswitch of the thread: the softswitch takes what it sees, and the thread does its action
abbrev pub dispatch : SwitchModel → Sight → Thread → Stepped
dispatch s seen t = let d = dispatched (view_of seen t) s in does d.action seen (record t { switch = Some d.switch })
