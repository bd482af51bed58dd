-- What a step asks of its tile, with the message of a send: the first flits of the send slot.
use Rattle.std.specs.Prelude.{◌+◌, ◌*◌, take}
use Rattle.tn_base.specs.declared.op.Op.{Op}
use Rattle.tn_base.specs.declared.op.Op.TheVariants as op
use Rattle.tn_thread.specs.declared.ask.Ask.{Ask}
use Rattle.tn_thread.specs.declared.ask.Ask.TheVariants as ask
use Rattle.tn_thread.specs.declared.thread.Thread.{Thread}
use Rattle.tn_thread.specs.Step.{Stepped}

abbrev pub op_of : Ask → Thread → Op
op_of ask.None t = op.None
op_of (ask.Send to) t = op.Send to (take (16 * (t.out.last + 1)) t.out.bytes)
op_of ask.Hand t = op.Hand
op_of (ask.Free slot) t = op.Free slot
op_of (ask.Idle vote) t = op.Idle vote
op_of (ask.Kill value) t = op.Kill value
op_of (ask.Trap why) t = op.Trap why

-- the thread after a step, and what it asks
abbrev pub asks : Ask → Thread → Stepped
asks a t = record { thread = t; op = op_of a t }
