-- After an announcement the next step of each thread that was idle is the end of its idle, with the announced value.
use Rattle.std.specs.Prelude.{ℕ, ◌≡◌, ◌≢◌, true, IsTrue, List, Some, Option}
use Rattle.std.specs.List.{AllByRecursion}
use Rattle.rv_isa.specs.declared.instr.Instr.{Instr}
use Rattle.tn_base.specs.declared.event.Event.{Event}
use Rattle.tn_base.specs.declared.event.Event.TheVariants as event
use Rattle.tn_base.specs.declared.ids.ThreadId.{ThreadId}
use Rattle.tn_base.specs.Address.{has_thread}
use Rattle.tn_detect.specs.Notes.{value_of}
use Rattle.tn_rows.specs.Events.{happened}
use Rattle.tn_rows.specs.Runs.{Walk}
use Rattle.tn_rows.specs.WorldView.{WorldView}
use Rattle.tn_thread.specs.declared.state.ThreadState.TheVariants as state
use Rattle.tn_thread.specs.declared.thread.Thread.{Thread}
use Rattle.tn_thread.specs.Sight.{Sight}
use Rattle.tn_thread.specs.Step.{answered, completed, is_idle}
use Rattle.tn_tile.specs.Step.{next_step}
use Rattle.tn_letters.specs.declared.steps.BagStep.{BagStep}
use Rattle.tn_letters.specs.declared.steps.BagStep.TheVariants as bag
use Rattle.tn_letters.specs.Law.{IsStart}
use Rattle.tn_letters.specs.Machine.{BagRun}
use Rattle.tn_letters.specs.Settled.{detector_on}
use Rattle.tn_letters.specs.State.{BagState, Program}
use Rattle.tn_letters.specs.Tiles.{thread_of}

-- a step of the bag machine is no step of the thread at an address
abbrev pub IsNotOf : ℕ → BagStep → Type 0
IsNotOf a (bag.Private b seen) = b ≢ a
IsNotOf a (bag.Send b seen) = b ≢ a
IsNotOf a (bag.Hand b seen l) = b ≢ a
IsNotOf a (bag.Free b seen slot) = b ≢ a
IsNotOf a (bag.Idle b seen vote) = b ≢ a
IsNotOf a bag.Announce = Unit {0}
IsNotOf a (bag.HostSend l) = Unit {0}
IsNotOf a (bag.HostHand l) = Unit {0}
IsNotOf a (bag.Discard l) = Unit {0}

-- a thread that has an answer does not change before its own next step
abbrev pub EveryAnswerWaits : Type 0
EveryAnswerWaits = (m : Program) (start end : BagState) (steps : List BagStep) (a value : ℕ) → IsTrue (has_thread m.shape a) → (start.threads a).state ≡ state.Answered value → BagRun m start steps end → AllByRecursion (IsNotOf a) steps → end.threads a ≡ start.threads a

-- the next step of a thread that has an answer ends its idle: the thread reads the answer and runs on
abbrev pub EveryAnswerIsRead : Type 0
EveryAnswerIsRead = (code : List (Option Instr)) (sight : Sight) (value : ℕ) (t : Thread) → next_step code sight (answered value t) ≡ completed value (answered value t)

-- an event is no turn of the thread at an address
abbrev pub IsNoTurnOf : ℕ → Event → Type 0
IsNoTurnOf a (event.Turn t n) = t.0 ≢ a
IsNoTurnOf a _ = Unit {0}

-- in each walk from a start: if a thread is idle at an announcement, it has the announced value before its next turn
abbrev pub EveryIdleThreadIsAnswered : Type 0
EveryIdleThreadIsAnswered = (start rest said end new : WorldView) (history later : List Event) (t : ThreadId) (n : ℕ) → IsStart start → Walk start history rest → IsTrue (has_thread rest.shape t.0) → is_idle (thread_of rest t.0).state ≡ true →
    happened event.Announce rest ≡ Some said → Walk said later end → AllByRecursion (IsNoTurnOf t.0) later → happened (event.Turn t n) end ≡ Some new →
    thread_of end t.0 ≡ answered (value_of (detector_on said).answer) (thread_of rest t.0)
