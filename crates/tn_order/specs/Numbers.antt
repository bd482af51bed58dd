-- What a step counts of sends and steps, and the numbers that threads have given their sends.
use Rattle.std.specs.Prelude.{ℕ, ◌≡◌, ◌≤◌, ◌+◌, ◌%◌, ◌^◌, ◌⊎◌, IsTrue, List}
use Rattle.tn_base.specs.declared.event.Event.{Event}
use Rattle.tn_base.specs.declared.op.Op.{Op}
use Rattle.tn_base.specs.declared.op.Op.TheVariants as op
use Rattle.tn_base.specs.Address.{has_thread}
use Rattle.tn_rows.specs.Runs.{Walk}
use Rattle.tn_rows.specs.WorldView.{WorldView}
use Rattle.tn_thread.specs.declared.thread.Thread.{Thread}
use Rattle.tn_thread.specs.Step.{Stepped}
use Rattle.tn_letters.specs.Law.{IsStart}
use Rattle.tn_letters.specs.Tiles.{thread_of}

abbrev pub IsNoSend : Op → Type 0
IsNoSend op.None = Unit {0}
IsNoSend (op.Send to bytes) = ⊥
IsNoSend op.Hand = Unit {0}
IsNoSend (op.Free slot) = Unit {0}
IsNoSend (op.Idle vote) = Unit {0}
IsNoSend (op.Kill value) = Unit {0}
IsNoSend (op.Trap why) = Unit {0}

-- a step that asks for no send leaves the count of sends; a step that counts a send is counted too
abbrev pub Counts : Thread → Stepped → Type 0
Counts t r = ((r.thread.sends ≡ t.sends) × (t.steps ≤ r.thread.steps) × IsNoSend r.op) ⊎ ((r.thread.sends ≡ (t.sends + 1) % 2 ^ 32) × (r.thread.steps ≡ t.steps + 1))

-- a thread counted no more sends than steps, and no more steps than its fuel
pub record IsCounted (w : WorldView) (a : ℕ) : Type 0 where
  pub sends : (thread_of w a).sends ≤ (thread_of w a).steps
  pub steps : (thread_of w a).steps ≤ w.shape.fuel

-- whatever events happen to a machine from its start, each thread has sent no more often than it made steps, and made no more steps
-- than its fuel: the numbers of sends do not wrap
abbrev pub EveryWalkCounts : Type 0
EveryWalkCounts = (start w : WorldView) (history : List Event) (a : ℕ) → IsStart start → Walk start history w → IsTrue (has_thread w.shape a) → IsCounted w a
